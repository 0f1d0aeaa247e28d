-- Ways of cells: how many sets they have, for each number of faults below 64.
use Rattle.std.proofs.Common.{◌≡◌, ℕ, ◌+◌, ◌-◌, ◌^◌, ◌<◌, ◌≤◌, min, Bool, true, false, cond, eqb, List, [], ◌∷◌, map, length, get_or, take, drop, reverse, sum, sym, refl, ap, ◌∙◌, arith}
use borrow.Rule.Slice.PartMut.{mid_of}
use Rattle.std.specs.List.{range_with_len, enumerate_from, AllByRecursion}
use Rattle.std.proofs.lemmas.List.{length-take, length-drop, length-reverse, get_or-take, get_or-drop, get_or-reverse}
use Rattle.std.proofs.lemmas.List.FromFn.{length-enumerate_from, get_or-enumerate_from}
use Rattle.std.proofs.lemmas.Grind.{get_or_default_zero}
use Rattle.scenarios.specs.Cells.{total}
use Rattle.sets.specs.Sets.{amounts}
use Rattle.sets.proofs.Totals.{same_totals, back_total, total_counting_more}
use Rattle.sets.proofs.Amounts.{length_amounts}
use Rattle.sets.proofs.Bounds.{amounts_fit}
use Rattle.sets.specs.Ways.{Ways, ways_below, with_one_more}

pub fewer_ways : (ways cs : List ℕ) (k n : ℕ) → k < 64 → Ways ways cs → total (map (λ t. get_or ways (k - t) 0) (range_with_len 0 n)) ≡ total (map (λ t. length (amounts cs (k - t))) (range_with_len 0 n))
fewer_ways ways cs k n h w = same_totals (λ t. get_or ways (k - t) 0) (λ t. length (amounts cs (k - t))) 0 n (λ t l m. w (k - t) (omega arith))

pub ways_more : (ways : List ℕ) (c : ℕ) (cs : List ℕ) → Ways ways cs → (k : ℕ) → k < 64 → with_one_more ways c k ≡ length (amounts (c ∷ cs) k)
ways_more ways c cs w k h = fewer_ways ways cs k (min c k + 1) h w ∙ sym (length_amounts c cs k)

pub ways_fit : (ways : List ℕ) (c : ℕ) (cs : List ℕ) → AllByRecursion (λ c. 0 < c) (c ∷ cs) → total (c ∷ cs) ≤ 64 → Ways ways cs → (k : ℕ) → k < 64 → with_one_more ways c k < 2 ^ 64
ways_fit ways c cs filled small w k h =
    let fit = amounts_fit (c ∷ cs) k filled small in
    let is = ways_more ways c cs w k h in
    omega arith

-- the sum of what is owned, from the last place that the cell may leave on
pub ways_summed : (ways : List ℕ) (c k m : ℕ) → m ≡ min c k → k < length ways → sum (mid_of (k - m) (k + 1 - (k - m)) ways) ≡ with_one_more ways c k
ways_summed ways c k m e h =
    ap (λ n. sum (take n (drop (k - m) ways))) (let z : k + 1 - (k - m) ≡ m + 1 = omega arith in z)
    ∙ back_total ways k m (omega arith) h
    ∙ ap (λ n. total (map (λ t. get_or ways (k - t) 0) (range_with_len 0 (n + 1)))) e

pub ways_of_none : (k : ℕ) → length (amounts [] k) ≡ cond (eqb k 0) 1 0
ways_of_none k = go (eqb k 0)
  where
    go : (b : Bool) → length {A = List ℕ} (cond b ([] ∷ []) []) ≡ cond b 1 0
    go true = refl
    go false = refl

-- a turn of a walk over what is owned, from place k back
pub owned_more : (ways : List ℕ) (c k m : ℕ) → m ≡ min c k → k < length ways → (n taken owned : ℕ) (number left : ℕ)
    → (n < length (enumerate_from 0 (reverse (mid_of (k - m) (k + 1 - (k - m)) ways)))) × ((taken, owned) ≡ get_or (enumerate_from 0 (reverse (mid_of (k - m) (k + 1 - (k - m)) ways))) n (taken, owned))
    → owned ≤ left → number ≡ ways_below ways k n + left → number ≡ ways_below ways k (n + 1) + (left - owned)
owned_more ways c k m e h n taken owned number left turn low is =
    let part = mid_of (k - m) (k + 1 - (k - m)) ways in
    let long = length-take (k + 1 - (k - m)) (drop (k - m) ways) in
    let all = length-drop (k - m) ways in
    let back = length-reverse part in
    let same = length-enumerate_from 0 (reverse part) in
    let l = turn.0 in
    let place : length part - 1 - n ≡ m - n = omega arith in
    let here : owned ≡ get_or ways (k - n) 0 = ap (λ p. p.1) turn.1 ∙ ap (λ p. p.1) (get_or-enumerate_from 0 (reverse part) n (taken, owned) (omega arith)) ∙ get_or-reverse part n owned (omega arith)
    ∙ ap (λ i. get_or part i owned) place ∙ get_or-take (k + 1 - (k - m)) (drop (k - m) ways) (m - n) owned (omega arith)
    ∙ get_or-drop (k - m) ways (m - n) owned ∙ ap (λ i. get_or ways i owned) (let z : k - m + (m - n) ≡ k - n = omega arith in z) ∙ get_or_default_zero ways (k - n) owned (omega arith) in
    let more : ways_below ways k (n + 1) ≡ ways_below ways k n + get_or ways (k - n) 0 = total_counting_more (λ t. get_or ways (k - t) 0) n in
    omega arith
