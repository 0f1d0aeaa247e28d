-- Every list has exactly one sorted rearrangement.
use Rattle.std.proofs.Common.{◌≡◌, ℕ, zero, suc, ◌+◌, ◌<◌, ◌≤◌, cond, eqb, ◌≢◌, ◌⊎◌, List, [], ◌∷◌, length, get_or, sym, refl, ap, ◌∙◌, subst, inl, inr, ⊎_elim, add-one, arith}
use native.Mathlib.Decide.{le_ind}
use Rattle.std.specs.List.{swap as exchanged, AllByRecursion}
use Rattle.std.specs.List as holes
use Rattle.std.specs.List.Sorted.{IsPermutation}
use Rattle.std.proofs.lemmas.List.{same_lists}
use Rattle.std.proofs.ByRecursion.{All-weaker, All-get_or, all_shuffled}
use Rattle.std.proofs.lemmas.List.Sorted.{IsPermutation-refl, IsPermutation-sym, IsPermutation-cons, IsPermutation-trans, IsPermutation-swap, IsPermutation-keeps, length_permutation}
use Rattle.std.proofs.lemmas.List.Edits.{length-swap, swapped_from_swap}
use Rattle.std.proofs.lemmas.Bool.{cases_lt, cases_eq, cond-true, cond-false, eq-eqb, ne_eqb}
use Rattle.std.proofs.lemmas.Bool.Decides.{nat_tests}
use Rattle.orders.specs.Orders.{Order, Sorted, Renaming, MovedBy, Moved}
use Rattle.orders.specs.Claims.{Sorts}

-- of suc i different numbers one is at least i

search_below : (f : ℕ → ℕ) (i m : ℕ) → ((j : ℕ) × (j < m) × (i ≤ f j)) ⊎ ((j : ℕ) → j < m → f j < i)
search_below f i zero = inr (λ j h. omega arith)
search_below f i (suc m) = go (search_below f i m) (cases_lt (f m) i)
  where
    go : ((j : ℕ) × (j < m) × (i ≤ f j)) ⊎ ((j : ℕ) → j < m → f j < i) → (f m < i) ⊎ (i ≤ f m) → ((j : ℕ) × (j < suc m) × (i ≤ f j)) ⊎ ((j : ℕ) → j < suc m → f j < i)
    go (inl t) c = inl (t.0, omega arith, t.2)
    go (inr none) (inr h) = inl (m, omega arith, h)
    go (inr none) (inl h) = inr last
      where
        last : (j : ℕ) → j < suc m → f j < i
        last j l = ⊎_elim (none j) (λ k. let e : j ≡ m = omega arith in rw e h) (cases_lt j m)

skips : (ℕ → ℕ) → ℕ → ℕ → ℕ
skips f i j = cond (eqb (f j) i) (f (suc i)) (f j)

skips_is : (f : ℕ → ℕ) (i j : ℕ) → ((f j ≡ i) × (skips f i j ≡ f (suc i))) ⊎ ((f j ≢ i) × (skips f i j ≡ f j))
unfolding skips
skips_is f i j = ⊎_elim (λ e. inl (e, cond-true _ _ _ (eq-eqb (f j) i e))) (λ e. inr (e, cond-false _ _ _ (ne_eqb (f j) i e))) (cases_eq (f j) i)

crowded : (i : ℕ) (f : ℕ → ℕ) → ((a b : ℕ) → a ≤ i → b ≤ i → f a ≡ f b → a ≡ b) → ((j : ℕ) → j ≤ i → f j < i) → ⊥
crowded zero f inj low = let h : f 0 < 0 = low 0 (omega arith) in omega arith
crowded (suc i) f inj low = crowded i (skips f i) apart below
  where
    last : f (suc i) < suc i
    last = low (suc i) (omega arith)

    off : (j : ℕ) → j ≤ i → f j ≢ f (suc i)
    off j h e = let k : j ≡ suc i = inj j (suc i) (omega arith) (omega arith) e in omega arith

    below : (j : ℕ) → j ≤ i → skips f i j < i
    below j h = ⊎_elim (λ t. let o = off j h in omega (arith, t.0, t.1)) (λ t. let k = low j (omega arith) in omega (arith, t.0, t.1)) (skips_is f i j)

    apart : (a b : ℕ) → a ≤ i → b ≤ i → skips f i a ≡ skips f i b → a ≡ b
    apart a b ha hb e = go (skips_is f i a) (skips_is f i b)
      where
        eq : f a ≡ f b → a ≡ b
        eq = inj a b (omega arith) (omega arith)

        go : ((f a ≡ i) × (skips f i a ≡ f (suc i))) ⊎ ((f a ≢ i) × (skips f i a ≡ f a)) → ((f b ≡ i) × (skips f i b ≡ f (suc i))) ⊎ ((f b ≢ i) × (skips f i b ≡ f b)) → a ≡ b
        go (inl s) (inl t) = eq (s.0 ∙ sym t.0)
        go (inl s) (inr t) = absurd (off b hb (sym t.1 ∙ sym e ∙ s.1))
        go (inr s) (inl t) = absurd (off a ha (sym s.1 ∙ e ∙ t.1))
        go (inr s) (inr t) = eq (sym s.1 ∙ e ∙ t.1)

pub some_above : (f : ℕ → ℕ) (i : ℕ) → ((a b : ℕ) → a ≤ i → b ≤ i → f a ≡ f b → a ≡ b) → (j : ℕ) × (j ≤ i) × (i ≤ f j)
some_above f i inj = ⊎_elim (λ t. (t.0, omega arith, t.2)) (λ none. absurd (crowded i f inj (λ j h. none j (omega arith)))) (search_below f i (suc i))

-- rearrangements, by exchanges and by a permutation of the places

swap : ℕ → ℕ → ℕ → ℕ
swap i j k = cond (eqb k i) j (cond (eqb k j) i k)

swap_swap : (i j k : ℕ) → swap i j (swap i j k) ≡ k
unfolding swap
swap_swap i j k = grind (arith, nat_tests)

swap_below : (i j k n : ℕ) → i < n → j < n → k < n → swap i j k < n
unfolding swap
swap_below i j k n h1 h2 h3 = grind (arith, nat_tests)

unfoldable pub stays : (n : ℕ) → Renaming n
stays n = record { to = λ i. i; back = λ i. i; to_below = λ i h. h; back_below = λ i h. h; back_to = λ i h. refl; to_back = λ i h. refl }

unfoldable pub turned : {n : ℕ} → Renaming n → Renaming n
turned p = record { to = p.back; back = p.to; to_below = p.back_below; back_below = p.to_below; back_to = p.to_back; to_back = p.back_to }

unfoldable pub after : {n : ℕ} → Renaming n → Renaming n → Renaming n
after q p = record {
  to = λ i. q.to (p.to i);
  back = λ i. p.back (q.back i);
  to_below = λ i h. q.to_below (p.to i) (p.to_below i h);
  back_below = λ i h. p.back_below (q.back i) (q.back_below i h);
  back_to = λ i h. ap p.back (q.back_to (p.to i) (p.to_below i h)) ∙ p.back_to i h;
  to_back = λ i h. ap q.to (p.to_back (q.back i) (q.back_below i h)) ∙ q.to_back i h;
}

swaps : (n : ℕ) (p : Renaming n) (i j : ℕ) → i < n → j < n → Renaming n
unfolding after
swaps n p i j hi hj = after one p
  where
    one : Renaming n
    one = record {
      to = swap i j;
      back = swap i j;
      to_below = λ k h. swap_below i j k n hi hj h;
      back_below = λ k h. swap_below i j k n hi hj h;
      back_to = λ k h. swap_swap i j k;
      to_back = λ k h. swap_swap i j k;
    }

module _ {X : Type 0} where
  -- the two ways in which the libraries say it
  pub as_core : (xs : List X) (i j : ℕ) → holes.swap xs i j ≡ exchanged xs i j
  as_core [] i j = refl
  as_core (x ∷ xs) i j = refl

  getD_exchanged : (xs : List X) (i j k : ℕ) (d : X) → i < length xs → j < length xs → k < length xs → get_or (exchanged xs i j) (swap i j k) d ≡ get_or xs k d
  unfolding swap
  getD_exchanged xs i j k d h1 h2 h3 =
      let s = swapped_from_swap xs (exchanged xs i j) i j d h1 h2 (sym (as_core xs i j)) in
      ⊎_elim
      (λ e. ap (λ q. get_or (exchanged xs i j) q d) (cond-true (eqb k i) j _ (eq-eqb k i e)) ∙ s.1 ∙ ap (λ q. get_or xs q d) (sym e))
      (λ u. ap (λ q. get_or (exchanged xs i j) q d) (cond-false (eqb k i) j _ (ne_eqb k i u)) ∙ ⊎_elim
      (λ e. ap (λ q. get_or (exchanged xs i j) q d) (cond-true (eqb k j) i k (eq-eqb k j e)) ∙ s.0 ∙ ap (λ q. get_or xs q d) (sym e))
      (λ v. ap (λ q. get_or (exchanged xs i j) q d) (cond-false (eqb k j) i k (ne_eqb k j v)) ∙ s.2 k u v)
      (cases_eq k j))
      (cases_eq k i)

  pub moved_from_shuffled : (n : ℕ) (xs ys : List X) → length xs ≡ n → IsPermutation xs ys → Moved n xs ys
  unfolding swaps stays
  moved_from_shuffled n xs ys ex s = IsPermutation-keeps xs (Moved n xs) (stays n, record { long = ex; long' = ex; at = λ i d h. refl }) step ys s
    where
      step : (l : List X) (i j : ℕ) → i < length l → j < length l → Moved n xs l → Moved n xs (exchanged l i j)
      step l i j hi hj m =
          let e : length l ≡ n = m.1.long' in (
            swaps n m.0 i j (omega arith) (omega arith),
            record {
              long = ex;
              long' = ap length (sym (as_core l i j)) ∙ length-swap l i j ∙ e;
              at = λ k d h. getD_exchanged l i j (m.0.to k) d hi hj (let q = m.0.to_below k h in omega arith) ∙ m.1.at k d h;
            },
          )

  turned_moves : {n : ℕ} (p : Renaming n) (xs ys : List X) → MovedBy p xs ys → MovedBy (turned p) ys xs
  unfolding turned
  turned_moves p xs ys m = record { long = m.long'; long' = m.long; at = λ i d h. sym (m.at (p.back i) d (p.back_below i h)) ∙ ap (λ k. get_or ys k d) (p.to_back i h) }

  pub moved_on : (n : ℕ) (xs ys zs : List X) → Moved n xs ys → Moved n ys zs → Moved n xs zs
  unfolding after
  moved_on n xs ys zs m k = (after k.0 m.0, record { long = m.1.long; long' = k.1.long'; at = λ i d h. k.1.at (m.0.to i) d (m.0.to_below i h) ∙ m.1.at i d h })

-- the sort, and that it is the only one

module _ {X : Type 0} (R : X → X → Type 0) (o : Order R) where
  reflexive : (x : X) → R x x
  reflexive x = ⊎_elim (λ h. h) (λ h. h) (o.total x x)

  far : (xs : List X) → Sorted R xs → (i : ℕ) (d : X) (j : ℕ) → i ≤ j → j < length xs → R (get_or xs i d) (get_or xs j d)
  far xs up i d j h = le_ind (λ k. k < length xs → R (get_or xs i d) (get_or xs k d)) (λ _. reflexive _) (λ k a b c. o.trans _ _ _ (b (omega arith)) (rw add-one at (up k d (omega arith)))) j h

  half : (xs ys : List X) → Sorted R xs → Sorted R ys → {n : ℕ} (p : Renaming n) → MovedBy p xs ys → (i : ℕ) (d : X) → i < n → R (get_or ys i d) (get_or xs i d)
  half xs ys up up' {n} p m i d h =
      let found = some_above p.to i (λ a b ha hb e. sym (p.back_to a (omega arith)) ∙ ap p.back e ∙ p.back_to b (omega arith)) in
      let j = found.0 in
      let low : j < n = omega (arith, found.1) in
      let lx = m.long in
      let ly = m.long' in
      let q = p.to_below j low in
      o.trans _ _ _ (rw (m.at j d low) at (far ys up' i d (p.to j) found.2 (omega arith))) (far xs up j d i found.1 (omega arith))

  pub only_sorted : (xs ys : List X) {n : ℕ} (p : Renaming n) → MovedBy p xs ys → Sorted R xs → Sorted R ys → xs ≡ ys
  only_sorted xs ys {n} p m up up' =
      let lx = m.long in
      let ly = m.long' in
      same_lists xs ys (omega arith) (λ k d h. o.antisym _ _ (half ys xs up' up (turned p) (turned_moves p xs ys m) k d (omega arith)) (half xs ys up up' p m k d (omega arith)))

  abbrev Pairwise : List X → Type 0
  Pairwise [] = Unit {0}
  Pairwise (x ∷ xs) = AllByRecursion (R x) xs × Pairwise xs

  Inserted : X → List X → Type 0
  Inserted x ys = (zs : List X) × IsPermutation (x ∷ ys) zs × Pairwise zs

  insert : (x : X) (ys : List X) → Pairwise ys → Inserted x ys
  unfolding Inserted
  insert x [] h = (x ∷ [], IsPermutation-refl _, (tt, tt))
  insert x (y ∷ ys) h = go (o.total x y) (insert x ys h.1)
    where
      go : R x y ⊎ R y x → Inserted x ys → Inserted x (y ∷ ys)
      go (inl l) t = (x ∷ y ∷ ys, IsPermutation-refl _, ((l, All-weaker (R y) (R x) (λ z. o.trans x y z l) ys h.0), h))
      go (inr l) t = (y ∷ t.0, IsPermutation-trans _ (y ∷ x ∷ ys) _ (IsPermutation-swap _ _ 0 1 (omega arith) (omega arith) refl) (IsPermutation-cons y (x ∷ ys) t.0 t.1), (all_shuffled (R y) (x ∷ ys) t.0 t.1 (l, h.0), t.2))

  sort : (xs : List X) → (zs : List X) × IsPermutation xs zs × Pairwise zs
  unfolding Inserted
  sort [] = ([], IsPermutation-refl [], tt)
  sort (x ∷ xs) =
      let t = sort xs in
      let u = insert x t.0 t.2 in
      (u.0, IsPermutation-trans _ _ _ (IsPermutation-cons x xs t.0 t.1) u.1, u.2)

  sorted_from_pairwise : (xs : List X) → Pairwise xs → Sorted R xs
  sorted_from_pairwise [] h k d l = absurd (omega arith)
  sorted_from_pairwise (x ∷ xs) h zero d l = All-get_or (R x) xs 0 d (omega arith) h.0
  sorted_from_pairwise (x ∷ xs) h (suc k) d l = rw (let e : suc k + 1 ≡ suc (k + 1) = omega arith in e) (sorted_from_pairwise xs h.1 k d (omega arith))

  pub sorts : Sorts R
  sorts xs =
      let t = sort xs in
      let up = sorted_from_pairwise t.0 t.2 in
      record {
        the = t.0;
        holds = (t.1, up);
        only = λ ys h. let m = moved_from_shuffled (length ys) ys t.0 refl (IsPermutation-trans ys xs t.0 (IsPermutation-sym xs ys h.0) t.1) in only_sorted ys t.0 m.0 m.1 h.1 up;
      }

  -- what a permutation of the places reaches, exchanges reach
  pub shuffled_from_moved : (n : ℕ) (xs ys : List X) → Moved n xs ys → IsPermutation xs ys
  shuffled_from_moved n xs ys m =
      let t = sorts xs in
      let u = sorts ys in
      let there = moved_from_shuffled n t.the xs (length_permutation xs t.the t.holds.0 ∙ m.1.long) (IsPermutation-sym xs t.the t.holds.0) in
      let on = moved_from_shuffled n ys u.the m.1.long' u.holds.0 in
      let all = moved_on n _ _ _ there (moved_on n _ _ _ m on) in
      let e : t.the ≡ u.the = only_sorted t.the u.the all.0 all.1 t.holds.1 u.holds.1 in
      IsPermutation-trans xs u.the ys (subst (IsPermutation xs) e t.holds.0) (IsPermutation-sym ys u.the u.holds.0)
