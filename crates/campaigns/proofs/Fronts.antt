-- Tickets written behind those in front.
use Rattle.std.proofs.Common.{◌≡◌, ℕ, ◌+◌, ◌-◌, ◌<◌, ◌≤◌, List, [], ◌∷◌, ◌++◌, length, get_or, take, drop, Some, None, Option, sym, ap, ◌∙◌, subst, arith}
use Rattle.std.proofs.lemmas.List.{append-nil, append_assoc, length-append, length-drop, length-take, length-take-le, drop_all, take-append-drop, take_all, take_at, take_more, drop_at, drop-drop, flat_map_more}
use Rattle.std.proofs.lemmas.List.FromFn.{length-map-range_with_len}
use borrow.Rule.Slice.PartMut.{put_mid}
use Rattle.std.specs.Iterator.{AlwaysYields, Yields}
use Rattle.std.proofs.lemmas.Grind.{get_or_default_zero}
use Rattle.std.proofs.lemmas.Iterator.{YieldsList}
use Rattle.std.proofs.lemmas.Iterator.Consumers.{YieldsList-turn, YieldsList-end}
use Rattle.scenarios.specs.declared.plan.Plan.{Plan}
use Rattle.scenarios.proofs.Members.{joined_append}
use Rattle.campaigns.specs.declared.ticket.Ticket.{Ticket}
use Rattle.campaigns.specs.Tickets.{tickets_for, tickets_of}
use Rattle.campaigns.specs.Listings.{numbered, Front, Listed}

module _ (xs ts : List Ticket) (at : ℕ) (ys : List Ticket) (f : Front xs ts at ys) where
  length_front : length ys ≡ length xs
  length_front = let a = ap length f.held in let b = length-append ts (drop at xs) in let d = length-drop at xs in let l = f.place in let h = f.room in omega arith

  pub take_front : take at ys ≡ ts
  take_front = ap (take at) f.held ∙ take_at ts (drop at xs) at f.place

  pub drop_front : drop at ys ≡ drop at xs
  drop_front = ap (drop at) f.held ∙ drop_at ts (drop at xs) at f.place

  -- what is written behind the front of ys stands behind the front of xs
  front_over : (more zs : List Ticket) (end : ℕ) → Front ys (take at ys ++ more) end zs → Front xs (ts ++ more) end zs
  front_over more zs end g =
      let front : take at ys ++ more ≡ ts ++ more = ap (λ l. l ++ more) take_front in
      let place : length (ts ++ more) ≡ end = ap length (sym front) ∙ g.place in
      let past : end ≡ at + length more = sym place ∙ length-append ts more ∙ ap (λ k. k + length more) f.place in
      let rest : drop end ys ≡ drop end xs =
      ap (λ k. drop k ys) past ∙ sym (drop-drop (length more) at ys) ∙ ap (drop (length more)) drop_front
      ∙ drop-drop (length more) at xs ∙ ap (λ k. drop k xs) (sym past) in
      record { place = place; room = let l = length_front in let r = g.room in omega arith; held = g.held ∙ ap (λ l. l ++ drop end ys) front ∙ ap (λ l. (ts ++ more) ++ l) rest }

-- the tickets of one rank

pub put_all : (rank count at i : ℕ) (ys items : List Ticket) → at ≤ length ys → count ≤ length ys - at → i ≡ count → items ≡ numbered rank i ++ drop i (take (at + count - at) (drop at ys))
    → (xs front : List Ticket) → Front xs front at ys → Listed xs (front ++ numbered rank count) (Some (at + count)) (put_mid at (at + count - at) ys items)
put_all rank count at i ys items h l last e xs front f =
    let more = numbered rank count in
    let behind = length-drop at ys in
    let cut = length-take (at + count - at) (drop at ys) in
    let none : drop i (take (at + count - at) (drop at ys)) ≡ [] = drop_all i (take (at + count - at) (drop at ys)) (omega arith) in
    let all : items ≡ more = e ∙ ap (λ l. numbered rank i ++ l) none ∙ append-nil (numbered rank i) ∙ ap (numbered rank) last in
    let rest : drop (at + count - at) (drop at ys) ≡ drop (at + count) ys = drop-drop (at + count - at) at ys ∙ ap (λ n. drop n ys) (let z : at + (at + count - at) ≡ at + count = omega arith in z) in
    front_over xs front at ys f more (put_mid at (at + count - at) ys items) (at + count) (record {
      place = length-append (take at ys) more ∙ ap (λ k. k + length more) (length-take-le at ys h) ∙ ap (λ k. at + k) (length-map-range_with_len (λ number. record { rank = rank; set = number }) 0 count);
      room = omega arith;
      held = ap (λ l. take at ys ++ (l ++ drop (at + count - at) (drop at ys))) all ∙ ap (λ l. take at ys ++ (more ++ l)) rest ∙ sym (append_assoc (take at ys) more (drop (at + count) ys));
    })

pub put_short : (rank count at : ℕ) (ys : List Ticket) → length ys - at < count
    → (xs front : List Ticket) → Front xs front at ys → Listed xs (front ++ numbered rank count) None ys
put_short rank count at ys h xs front f =
    let l = length_front xs front at ys f in
    let a = length-append front (numbered rank count) in
    let b : length (numbered rank count) ≡ count = length-map-range_with_len (λ number. record { rank = rank; set = number }) 0 count in
    let e = f.place in
    let r = f.room in
    (omega arith, l)

-- the loops over ranks: the tickets of the first i ranks stand in front

module _ (p : Plan) (ks : List ℕ) where
  pub ranks_all : (i at : ℕ) (xs ys : List Ticket) → length ks ≤ i → Front xs (tickets_of p (take i ks)) at ys → Listed xs (tickets_of p ks) (Some at) ys
  ranks_all i at xs ys h f = subst (λ l. Front xs (tickets_of p l) at ys) (take_all i ks h) f

  module _ (i k : ℕ) (h : i < length ks) (e : get_or ks i 0 ≡ k) where
    joined_rank : tickets_of p (take i ks) ++ tickets_for p k ≡ tickets_of p (take (i + 1) ks)
    joined_rank =
        flat_map_more (tickets_for p) [] (take i ks) k
        ∙ ap (λ j. tickets_of p (take i ks ++ (j ∷ []))) (sym e)
        ∙ ap (tickets_of p) (sym (take_more ks i 0 h))

    pub ranks_more : (at : ℕ) (xs ys : List Ticket) → Listed xs (tickets_of p (take i ks) ++ tickets_for p k) (Some at) ys → Front xs (tickets_of p (take (i + 1) ks)) at ys
    ranks_more at xs ys f = subst (λ l. Front xs l at ys) joined_rank f

    pub ranks_short : (xs ys : List Ticket) → Listed xs (tickets_of p (take i ks) ++ tickets_for p k) None ys → Listed xs (tickets_of p ks) None ys
    ranks_short xs ys n =
        let a : length (tickets_of p (take i ks) ++ tickets_for p k) ≡ length (tickets_of p (take (i + 1) ks)) = ap length joined_rank in
        let b : length (tickets_of p ks) ≡ length (tickets_of p (take (i + 1) ks)) + length (tickets_of p (drop (i + 1) ks)) =
        ap (λ l. length (tickets_of p l)) (sym (take-append-drop (i + 1) ks))
        ∙ ap length (joined_append (tickets_for p) (take (i + 1) ks) (drop (i + 1) ks))
        ∙ length-append (tickets_of p (take (i + 1) ks)) (tickets_of p (drop (i + 1) ks)) in
        let l = n.0 in
        (omega arith, n.1)

-- the rank at each turn of a loop over an iterator that gives these, and its end

module _ {S : Type 0} (steps : S → Option ℕ → S → Type 0) (s s₀ : S) (same : s ≡ s₀) (ks : List ℕ) (yields : AlwaysYields steps (λ k. k) s₀ ks) (so_far : List ℕ) (t : S) (y : Yields steps s so_far t) (r : Option ℕ) (u : S) where
  road : YieldsList steps (λ k. k) s ks
  road = record { runs = subst (λ s. AlwaysYields steps (λ k. k) s ks) (sym same) yields }

  pub rank_at : (k : ℕ) → r ≡ Some k → steps t r u → (length so_far < length ks) × (get_or ks (length so_far) 0 ≡ k)
  rank_at k is step =
      let turn = YieldsList-turn road so_far t y r u k is step in
      (turn.0, sym (turn.1 ∙ get_or_default_zero ks (length so_far) k turn.0))

  pub ranks_end : r ≡ None → steps t r u → length so_far ≡ length ks
  ranks_end is step = (YieldsList-end road so_far t y r u is step).1
