-- Lists that are joined of others, read by place.
use Rattle.std.proofs.Common.{◌≡◌, ℕ, zero, suc, ◌+◌, ◌-◌, ◌<◌, ◌≤◌, ◌⊎◌, List, [], ◌∷◌, ◌++◌, map, length, get_or, refl, ap, ◌∙◌, inl, inr, arith}
use Rattle.std.specs.List.{range_with_len, flat_map}
use Rattle.std.proofs.lemmas.List.{length-append, get_or_append_left, get_or-append-add}
use Rattle.std.proofs.lemmas.Bool.{cases_lt}
use Rattle.scenarios.specs.Cells.{total}

pub length_joined : {X Y : Type 0} (F : X → List Y) (xs : List X) → length (flat_map F xs) ≡ total (map (λ x. length (F x)) xs)
length_joined F [] = refl
length_joined F (x ∷ xs) = length-append (F x) (flat_map F xs) ∙ ap (λ k. length (F x) + k) (length_joined F xs)

-- place j of the t-th list
pub getD_joined : {Y : Type 0} (F : ℕ → List Y) (a n t u j : ℕ) (d : Y) → t < n → a + t ≡ u → j < length (F u)
    → get_or (flat_map F (range_with_len a n)) (total (map (λ i. length (F i)) (range_with_len a t)) + j) d ≡ get_or (F u) j d
getD_joined F a zero t u j d h e l = absurd (omega arith)
getD_joined F a (suc n) zero u j d h e l =
    let z : 0 + j ≡ j = omega arith in
    let q : a ≡ u = omega arith in
    ap (λ k. get_or (F a ++ flat_map F (range_with_len (a + 1) n)) k d) z
    ∙ ap (λ k. get_or (F k ++ flat_map F (range_with_len (a + 1) n)) j d) q
    ∙ get_or_append_left (F u) (flat_map F (range_with_len (a + 1) n)) d j l
getD_joined F a (suc n) (suc t) u j d h e l =
    let s = total (map (λ i. length (F i)) (range_with_len (a + 1) t)) in
    let z : length (F a) + s + j ≡ length (F a) + (s + j) = omega arith in
    ap (λ k. get_or (F a ++ flat_map F (range_with_len (a + 1) n)) k d) z
    ∙ get_or-append-add (F a) (flat_map F (range_with_len (a + 1) n)) (s + j) d
    ∙ getD_joined F (a + 1) n t u j d (omega arith) (omega arith) l

-- which list a place falls to, and the place there
pub joined_place : {Y : Type 0} (F : ℕ → List Y) (a n k : ℕ) → k < length (flat_map F (range_with_len a n))
    → (t : ℕ) × (j : ℕ) × (t < n) × (j < length (F (a + t))) × (k ≡ total (map (λ i. length (F i)) (range_with_len a t)) + j)
joined_place F a zero k h = absurd (omega arith)
joined_place F a (suc n) k h = go (λ l. joined_place F (a + 1) n (k - length (F a)) (omega (arith, long, l))) (cases_lt k (length (F a)))
  where
    long : length (flat_map F (range_with_len a (suc n))) ≡ length (F a) + length (flat_map F (range_with_len (a + 1) n))
    long = length-append (F a) (flat_map F (range_with_len (a + 1) n))

    go : (length (F a) ≤ k → (t : ℕ) × (j : ℕ) × (t < n) × (j < length (F (a + 1 + t))) × (k - length (F a) ≡ total (map (λ i. length (F i)) (range_with_len (a + 1) t)) + j))
        → (k < length (F a)) ⊎ (length (F a) ≤ k)
        → (t : ℕ) × (j : ℕ) × (t < suc n) × (j < length (F (a + t))) × (k ≡ total (map (λ i. length (F i)) (range_with_len a t)) + j)
    go ih (inl l) =
        let q : length (F a) ≡ length (F (a + 0)) = ap (λ i. length (F i)) (let z : a ≡ a + 0 = omega arith in z) in
        (0, k, omega arith, omega arith, omega arith)
    go ih (inr l) =
        let r = ih l in
        let e = r.4 in
        let q : length (F (a + 1 + r.0)) ≡ length (F (a + suc r.0)) = ap (λ i. length (F i)) (let z : a + 1 + r.0 ≡ a + suc r.0 = omega arith in z) in
        (suc r.0, r.1, omega (arith, r.2), omega (arith, r.3, q), omega arith)
