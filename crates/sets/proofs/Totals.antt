-- Sums over numbers in a row.
use Rattle.std.proofs.Common.{◌≡◌, ℕ, zero, suc, ◌+◌, ◌-◌, ◌*◌, ◌<◌, ◌≤◌, ◌⊎◌, List, [], ◌∷◌, map, length, get_or, take, drop, sum, refl, ap, ◌∙◌, inl, inr, add-mul, arith}
use Rattle.std.specs.List.{range_with_len}
use Rattle.std.proofs.lemmas.List.{drop_more}
use Rattle.std.proofs.lemmas.List.Sums.{sum_by-cons}
use Rattle.std.proofs.lemmas.List.FromFn.{map-range_with_len_more}
use Rattle.std.proofs.lemmas.Bool.{cases_lt}
use Rattle.scenarios.specs.Cells.{total}
use Rattle.scenarios.proofs.Parting.{total_append}

pub total_counting_more : (g : ℕ → ℕ) (n : ℕ) → total (map g (range_with_len 0 (n + 1))) ≡ total (map g (range_with_len 0 n)) + g n
total_counting_more g n =
    let e = ap total (map-range_with_len_more g 0 n n (let z : 0 + n ≡ n = omega arith in z)) in
    let s = total_append (map g (range_with_len 0 n)) (g n ∷ []) in
    omega arith

-- a part of the sum, and the next summand
pub total_counting_part : (g : ℕ → ℕ) (t n : ℕ) → t < n → total (map g (range_with_len 0 t)) + g t ≤ total (map g (range_with_len 0 n))
total_counting_part g t zero h = absurd (omega arith)
total_counting_part g t (suc n) h = go (total_counting_part g t n) (cases_lt t n)
  where
    last : total (map g (range_with_len 0 (suc n))) ≡ total (map g (range_with_len 0 n)) + g n
    last = ap (λ k. total (map g (range_with_len 0 k))) (let z : suc n ≡ n + 1 = omega arith in z) ∙ total_counting_more g n

    go : (t < n → total (map g (range_with_len 0 t)) + g t ≤ total (map g (range_with_len 0 n))) → (t < n) ⊎ (n ≤ t) → total (map g (range_with_len 0 t)) + g t ≤ total (map g (range_with_len 0 (suc n)))
    go ih (inl l) = let z = ih l in omega (arith, last)
    go ih (inr l) =
        let e : t ≡ n = omega arith in
        let q : total (map g (range_with_len 0 t)) + g t ≡ total (map g (range_with_len 0 n)) + g n = ap (λ k. total (map g (range_with_len 0 k)) + g k) e in
        omega (arith, last)

-- sums of equal summands
pub same_totals : (g h : ℕ → ℕ) (a n : ℕ) → ((t : ℕ) → a ≤ t → t < a + n → g t ≡ h t) → total (map g (range_with_len a n)) ≡ total (map h (range_with_len a n))
same_totals g h a zero e = refl
same_totals g h a (suc n) e =
    let x = e a (omega arith) (omega arith) in
    let y = same_totals g h (a + 1) n (λ t l m. e t (omega arith) (omega arith)) in
    omega arith

-- a sum of n summands of at most b each
pub total_at_most : (g : ℕ → ℕ) (b a n : ℕ) → ((t : ℕ) → g t ≤ b) → total (map g (range_with_len a n)) ≤ n * b
total_at_most g b a zero h = omega arith
total_at_most g b a (suc n) h =
    let x = h a in
    let y = total_at_most g b (a + 1) n h in
    let e : suc n * b ≡ n * b + b = ap (λ k. k * b) (let z : suc n ≡ n + 1 = omega arith in z) ∙ add-mul n 1 b ∙ (let z : n * b + 1 * b ≡ n * b + b = omega arith in z) in
    omega arith

-- the sum of the elements from place k back to place k - m
pub back_total : (xs : List ℕ) (k m : ℕ) → m ≤ k → k < length xs → sum (take (m + 1) (drop (k - m) xs)) ≡ total (map (λ t. get_or xs (k - t) 0) (range_with_len 0 (m + 1)))
back_total xs k zero h l =
    let one = total_counting_more (λ t. get_or xs (k - t) 0) 0 in
    let here = ap (λ ys. sum (take 1 ys)) (drop_more xs (k - 0) 0 (omega arith)) in
    let is = sum_by-cons (λ x. x) (get_or xs (k - 0) 0) [] in
    ap (λ n. sum (take n (drop (k - 0) xs))) (let e : 0 + 1 ≡ 1 = omega arith in e) ∙ (let z : sum (take 1 (drop (k - 0) xs)) ≡ total (map (λ t. get_or xs (k - t) 0) (range_with_len 0 (0 + 1))) = omega arith in z)
back_total xs k (suc m) h l =
    let ih = back_total xs k m (omega arith) l in
    let more = total_counting_more (λ t. get_or xs (k - t) 0) (suc m) in
    let few : total (map (λ t. get_or xs (k - t) 0) (range_with_len 0 (m + 1))) ≡ total (map (λ t. get_or xs (k - t) 0) (range_with_len 0 (suc m))) = ap (λ n. total (map (λ t. get_or xs (k - t) 0) (range_with_len 0 n))) (let e : m + 1 ≡ suc m = omega arith in e) in
    let front : sum (take (suc m + 1) (drop (k - suc m) xs)) ≡ sum (get_or xs (k - suc m) 0 ∷ take (m + 1) (drop (k - suc m + 1) xs)) =
    ap (λ ys. sum (take (suc m + 1) ys)) (drop_more xs (k - suc m) 0 (omega arith)) ∙ ap (λ n. sum (take n (get_or xs (k - suc m) 0 ∷ drop (k - suc m + 1) xs))) (let e : suc m + 1 ≡ suc (m + 1) = omega arith in e) in
    let is = sum_by-cons (λ x. x) (get_or xs (k - suc m) 0) (take (m + 1) (drop (k - suc m + 1) xs)) in
    let rest : sum (take (m + 1) (drop (k - suc m + 1) xs)) ≡ sum (take (m + 1) (drop (k - m) xs)) = ap (λ i. sum (take (m + 1) (drop i xs))) (let e : k - suc m + 1 ≡ k - m = omega arith in e) in
    omega arith
