-- Values at the numbers below n, and what a permutation of these numbers leaves the same.
use Rattle.std.proofs.Common.{◌≡◌, ℕ, ◌+◌, ◌<◌, ◌≤◌, Bool, cond, map, length, get_or, filter, sym, ap, ◌∙◌, inl, inr, ⊎_elim, arith}
use Rattle.std.specs.List.{range_with_len}
use Rattle.std.proofs.lemmas.List.Sums.{length-filter, sum-map}
use Rattle.std.proofs.lemmas.List.Sorted.{sum_by-IsPermutation}
use Rattle.std.proofs.lemmas.Bool.{cases_lt}
use Rattle.std.proofs.lemmas.List.FromFn.{get_or-map-range_with_len, length-map-range_with_len}
use Rattle.orders.specs.Orders.{Order, Sorted, Renaming, MovedBy}
use Rattle.orders.proofs.Sorting.{only_sorted, shuffled_from_moved}

pub ≤_order : Order ◌≤◌
≤_order = record { total = λ x y. ⊎_elim (λ h. inl (omega arith)) (λ h. inr h) (cases_lt x y); trans = λ x y z h k. omega arith; antisym = λ x y h k. omega arith }

-- the values rise below n
abbrev pub RisingBelow : ℕ → (ℕ → ℕ) → Type 0
RisingBelow n v = (i j : ℕ) → i ≤ j → j < n → v i ≤ v j

sorted_from_rising : (n : ℕ) (v : ℕ → ℕ) → RisingBelow n v → Sorted ◌≤◌ (map v (range_with_len 0 n))
sorted_from_rising n v up k d h =
    let e = length-map-range_with_len v 0 n in
    let l : k + 1 < n = omega arith in
    let a = get_or-map-range_with_len v 0 n k k d (omega arith) (omega arith) in
    let b = get_or-map-range_with_len v 0 n (k + 1) (k + 1) d l (omega arith) in
    let u = up k (k + 1) (omega arith) l in
    omega arith

module _ {n : ℕ} (p : Renaming n) where
  moved_values : (v w : ℕ → ℕ) → ((i : ℕ) → i < n → w (p.to i) ≡ v i) → MovedBy p (map v (range_with_len 0 n)) (map w (range_with_len 0 n))
  moved_values v w e = record {
    long = length-map-range_with_len v 0 n;
    long' = length-map-range_with_len w 0 n;
    at = λ i d h. get_or-map-range_with_len w 0 n (p.to i) (p.to i) d (p.to_below i h) (omega arith) ∙ e i h ∙ sym (get_or-map-range_with_len v 0 n i i d h (omega arith));
  }

  -- values that rise before and after the permutation are the same
  pub same_rising : (v w : ℕ → ℕ) → ((i : ℕ) → i < n → w (p.to i) ≡ v i) → RisingBelow n v → RisingBelow n w → (i : ℕ) → i < n → v i ≡ w i
  same_rising v w e up up' i h =
      let q = only_sorted ◌≤◌ ≤_order (map v (range_with_len 0 n)) (map w (range_with_len 0 n)) p (moved_values v w e) (sorted_from_rising n v up) (sorted_from_rising n w up') in
      sym (get_or-map-range_with_len v 0 n i i 0 h (omega arith)) ∙ ap (λ l. get_or l i 0) q ∙ get_or-map-range_with_len w 0 n i i 0 h (omega arith)

  -- as many pass g as pass g after the permutation
  pub same_count : (g : ℕ → Bool) → length (filter (λ i. g (p.back i)) (range_with_len 0 n)) ≡ length (filter g (range_with_len 0 n))
  same_count g =
      let v : ℕ → ℕ = λ i. cond (g i) 1 0 in
      let w : ℕ → ℕ = λ i. cond (g (p.back i)) 1 0 in
      let m = moved_values v w (λ i h. ap v (p.back_to i h)) in
      length-filter (λ i. g (p.back i)) (range_with_len 0 n) ∙ sym (sum-map w (range_with_len 0 n)) ∙ sum_by-IsPermutation (λ x. x) _ _ (shuffled_from_moved ◌≤◌ ≤_order n _ _ (p, m)) ∙ sum-map v (range_with_len 0 n) ∙ sym (length-filter g (range_with_len 0 n))
