-- Sets that take a first few of each cell: how many of each, and the set that takes so many.
use Rattle.std.proofs.Common.{◌≡◌, ℕ, suc, ◌+◌, ◌-◌, ◌<◌, ◌≤◌, Bool, true, ◌&&◌, ltb, leb, ◌⊎◌, List, [], ◌∷◌, ◌++◌, length, sym, refl, ap, ◌∙◌, subst, inl, inr, arith}
use Rattle.std.specs.List.{range_with_len}
use Rattle.std.proofs.lemmas.List.{append-nil, length-append}
use Rattle.std.proofs.lemmas.List.Elements.{filter-append}
use Rattle.std.proofs.lemmas.List.FromFn.{length-range_with_len}
use Rattle.std.proofs.lemmas.Bool.{cases_lt}
use Rattle.scenarios.specs.Cells.{total}
use Rattle.orders.specs.Members.{member}
use Rattle.sets.specs.Sets.{Upwards, cell_of, firsts}
use Rattle.sets.specs.Claims.{shares}
use Rattle.sets.proofs.Upward.{upwards_append, upwards_counting, length_upwards, Parted, parted, member_front, member_back, member_counting, counting_below, counting_from_closed, within, within_all, within_none_above, within_none_below}
use Rattle.sets.proofs.CellPlaces.{cell_here, cell_behind}

-- so many of each cell, f in all
abbrev pub Takes : List ℕ → ℕ → List ℕ → Type 0
Takes [] f [] = f ≡ 0
Takes [] f (t ∷ ts) = ⊥
Takes (c ∷ cs) f [] = ⊥
Takes (c ∷ cs) f (t ∷ ts) = (t ≤ c) × (t ≤ f) × Takes cs (f - t) ts

pub length_firsts : (start : ℕ) (cs : List ℕ) (f : ℕ) (ts : List ℕ) → Takes cs f ts → length (firsts start cs ts) ≡ f
length_firsts start [] f [] h = sym h
length_firsts start [] f (t ∷ ts) h = absurd h
length_firsts start (c ∷ cs) f [] h = absurd h
length_firsts start (c ∷ cs) f (t ∷ ts) h =
    let rest = length_firsts (start + c) cs (f - t) ts h.2 in
    let both = length-append (range_with_len start t) (firsts (start + c) cs ts) in
    let head = length-range_with_len start t in
    let few = h.1 in
    omega arith

pub upwards_firsts : (start : ℕ) (cs : List ℕ) (f : ℕ) (ts : List ℕ) → Takes cs f ts → Upwards start (start + total cs) (firsts start cs ts)
upwards_firsts start [] f [] h = tt
upwards_firsts start [] f (t ∷ ts) h = absurd h
upwards_firsts start (c ∷ cs) f [] h = absurd h
upwards_firsts start (c ∷ cs) f (t ∷ ts) h =
    let few = h.0 in
    let e : start + c + total cs ≡ start + (c + total cs) = omega arith in
    upwards_append start (start + c) (start + (c + total cs)) (range_with_len start t) (firsts (start + c) cs ts) (omega arith) (omega arith)
    (upwards_counting start (start + c) t (omega arith)) (subst (λ n. Upwards (start + c) n (firsts (start + c) cs ts)) e (upwards_firsts (start + c) cs (f - t) ts h.2))

-- members below the cells are in none of them
shares_behind : (start low m : ℕ) (cs xs ys : List ℕ) → m ≤ start → Upwards low m xs → shares start cs (xs ++ ys) ≡ shares start cs ys
shares_behind start low m [] xs ys h u = refl
shares_behind start low m (c ∷ cs) xs ys h u =
    let p : ℕ → Bool = λ x. leb start x && ltb x (start + c) in
    let here : within start (start + c) (xs ++ ys) ≡ within start (start + c) ys = filter-append p xs ys ∙ ap (λ l. l ++ within start (start + c) ys) (within_none_below start (start + c) low m xs h u) in
    let rest = shares_behind (start + c) low m cs xs ys (omega arith) u in
    λ i. length (here i) ∷ rest i

pub shares_firsts : (start : ℕ) (cs : List ℕ) (f : ℕ) (ts : List ℕ) → Takes cs f ts → shares start cs (firsts start cs ts) ≡ ts
shares_firsts start [] f [] h = refl
shares_firsts start [] f (t ∷ ts) h = absurd h
shares_firsts start (c ∷ cs) f [] h = absurd h
shares_firsts start (c ∷ cs) f (t ∷ ts) h =
    let few = h.0 in
    let end = start + c in
    let head = range_with_len start t in
    let rest = firsts end cs ts in
    let u = upwards_counting start end t (omega arith) in
    let v = upwards_firsts end cs (f - t) ts h.2 in
    let p : ℕ → Bool = λ x. leb start x && ltb x end in
    let here : within start end (head ++ rest) ≡ head =
    filter-append p head rest ∙ ap (λ l. within start end head ++ l) (within_none_above start end end (end + total cs) rest (omega arith) v) ∙ append-nil (within start end head)
    ∙ within_all start end start end head (omega arith) (omega arith) u in
    let count : length (within start end (head ++ rest)) ≡ t = ap length here ∙ length-range_with_len start t in
    let behind : shares end cs (head ++ rest) ≡ ts = shares_behind end start end cs head rest (omega arith) u ∙ shares_firsts end cs (f - t) ts h.2 in
    λ i. count i ∷ behind i

-- cells: which one a participant is in

-- the set takes a first few of each cell, where the first cell begins at start
abbrev pub FewFrom : ℕ → List ℕ → List ℕ → Type 0
FewFrom start cs s = (i j : ℕ) → i < j → j < total cs → cell_of cs i ≡ cell_of cs j → member s (j + start) ≡ true → member s (i + start) ≡ true

pub few_firsts : (start : ℕ) (cs : List ℕ) (f : ℕ) (ts : List ℕ) → Takes cs f ts → FewFrom start cs (firsts start cs ts)
few_firsts start [] f ts h i j l b e m = absurd (omega arith)
few_firsts start (c ∷ cs) f [] h i j l b e m = absurd h
few_firsts start (c ∷ cs) f (t ∷ ts) h i j l b e m = go (few_firsts (start + c) cs (f - t) ts h.2 (i - c) (j - c)) (cases_lt j c) (cases_lt i c)
  where
    u : Upwards start (start + c) (range_with_len start t)
    u = upwards_counting start (start + c) t (let few = h.0 in omega arith)

    v : Upwards (start + c) (start + c + total cs) (firsts (start + c) cs ts)
    v = upwards_firsts (start + c) cs (f - t) ts h.2

    front : (k : ℕ) → k < c → member (range_with_len start t ++ firsts (start + c) cs ts) (k + start) ≡ member (range_with_len start t) (k + start)
    front k a = member_front start (start + c) (start + c + total cs) (k + start) (range_with_len start t) (firsts (start + c) cs ts) u v (omega arith)

    back : (k : ℕ) → c ≤ k → member (range_with_len start t ++ firsts (start + c) cs ts) (k + start) ≡ member (firsts (start + c) cs ts) (k - c + (start + c))
    back k a =
        member_back start (start + c) (start + c + total cs) (k + start) (range_with_len start t) (firsts (start + c) cs ts) u v (omega arith)
        ∙ ap (member (firsts (start + c) cs ts)) (let z : k + start ≡ k - c + (start + c) = omega arith in z)

    go : (i - c < j - c → j - c < total cs → cell_of cs (i - c) ≡ cell_of cs (j - c) → member (firsts (start + c) cs ts) (j - c + (start + c)) ≡ true → member (firsts (start + c) cs ts) (i - c + (start + c)) ≡ true)
        → (j < c) ⊎ (c ≤ j) → (i < c) ⊎ (c ≤ i) → member (range_with_len start t ++ firsts (start + c) cs ts) (i + start) ≡ true
    go ih (inl a) (inl d) =
        let below = counting_below start t (j + start) (sym (front j a) ∙ m) in
        front i d ∙ member_counting start t (i + start) (omega arith) (omega arith)
    go ih (inl a) (inr d) = absurd (omega arith)
    go ih (inr a) (inl d) =
        let x = cell_here c cs i d in
        let y = cell_behind c cs j a in
        absurd (omega arith)
    go ih (inr a) (inr d) =
        let x = cell_behind c cs i d in
        let y = cell_behind c cs j a in
        back i d ∙ ih (omega arith) (omega arith) (omega arith) (sym (back j a) ∙ m)

-- the parts of such a set in the first cell and behind it
module _ (start c : ℕ) (cs s : List ℕ) (few : FewFrom start (c ∷ cs) s) (p : Parted start (start + c) (start + (c + total cs)) s) where
  front_member : (i : ℕ) → i < start + c → member s i ≡ member p.front i
  front_member i h = ap (λ l. member l i) p.whole ∙ member_front start (start + c) (start + (c + total cs)) i p.front p.back p.front_upwards p.back_upwards h

  back_member : (i : ℕ) → start + c ≤ i → member s i ≡ member p.back i
  back_member i h = ap (λ l. member l i) p.whole ∙ member_back start (start + c) (start + (c + total cs)) i p.front p.back p.front_upwards p.back_upwards h

  front_counting : range_with_len start (length p.front) ≡ p.front
  front_counting = counting_from_closed start (start + c) p.front p.front_upwards closed
    where
      at : (i : ℕ) → start ≤ i → i < start + c → member s (i - start + start) ≡ member p.front i
      at i h l = ap (member s) (let z : i - start + start ≡ i = omega arith in z) ∙ front_member i l

      closed : (i j : ℕ) → start ≤ i → i < j → j < start + c → member p.front j ≡ true → member p.front i ≡ true
      closed i j h l b m =
          sym (at i h (omega arith)) ∙ few (i - start) (j - start) (omega arith) (omega arith) (cell_here c cs (i - start) (omega arith) ∙ sym (cell_here c cs (j - start) (omega arith))) (at j (omega arith) b ∙ m)

  few_behind : FewFrom (start + c) cs p.back
  few_behind i j l b e m = sym (at i) ∙ few (i + c) (j + c) (omega arith) (omega arith) (cell i ∙ ap suc e ∙ sym (cell j)) (at j ∙ m)
    where
      at : (k : ℕ) → member s (k + c + start) ≡ member p.back (k + (start + c))
      at k = back_member (k + c + start) (omega arith) ∙ ap (member p.back) (let z : k + c + start ≡ k + (start + c) = omega arith in z)

      cell : (k : ℕ) → cell_of (c ∷ cs) (k + c) ≡ suc (cell_of cs k)
      cell k = cell_behind c cs (k + c) (omega arith) ∙ ap (λ x. suc (cell_of cs x)) (let z : k + c - c ≡ k = omega arith in z)

-- each such set comes from the numbers that it takes
pub takes_from : (start : ℕ) (cs s : List ℕ) → Upwards start (start + total cs) s → FewFrom start cs s → (ts : List ℕ) × Takes cs (length s) ts × (firsts start cs ts ≡ s)
takes_from start [] [] u few = ([], refl, refl)
takes_from start [] (x ∷ s) u few = absurd (let a = u.0 in let b = u.1 in omega arith)
takes_from start (c ∷ cs) s u few =
    let p = parted start (start + c) (start + (c + total cs)) s u in
    let e : start + (c + total cs) ≡ start + c + total cs = omega arith in
    let ih = takes_from (start + c) cs p.back (subst (λ n. Upwards (start + c) n p.back) e p.back_upwards) (few_behind start c cs s few p) in
    let long = ap length p.whole ∙ length-append p.front p.back in
    let short = length_upwards start (start + c) p.front (omega arith) p.front_upwards in
    let left : length p.back ≡ length s - length p.front = omega arith in (
      length p.front ∷ ih.0,
      (omega arith, omega arith, subst (λ f. Takes cs f ih.0) left ih.1),
      ap (λ l. l ++ firsts (start + c) cs ih.0) (front_counting start c cs s few p) ∙ ap (λ l. p.front ++ l) ih.2 ∙ sym p.whole,
    )
