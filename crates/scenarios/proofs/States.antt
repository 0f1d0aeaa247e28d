-- Cells and the masks of their boundaries tell each other.
use Rattle.std.proofs.Common.{◌≡◌, ℕ, zero, suc, ◌+◌, ◌-◌, ◌*◌, ◌/◌, ◌%◌, ◌^◌, ◌<◌, Bool, true, false, eqb, List, [], ◌∷◌, ◌++◌, map, length, sym, refl, ap, ◌∙◌, mul_assoc, mul-le-mul_left, pow-suc, mul-add, arith}
use Rattle.std.specs.List.{range_with_len, AllByRecursion}
use Rattle.std.proofs.lemmas.Nat.{pow_pos, pow-add, shr-shr, mod-pow-add, mod_below}
use Rattle.std.proofs.lemmas.List.FromFn.{length-map-range_with_len}
use Rattle.scenarios.specs.Masks.{bit}
use Rattle.scenarios.specs.Cells.{total, CellsOf, cut, cells, ends, boundaries}

-- sums and end masks of cells one after the other

pub ends_append : (ps qs : List ℕ) → ends (ps ++ qs) ≡ ends ps + 2 ^ total ps * ends qs
ends_append [] qs = omega arith
ends_append (p ∷ ps) qs =
    let h : 2 ^ p * ends (ps ++ qs) ≡ 2 ^ p * (ends ps + 2 ^ total ps * ends qs) = ap (λ x. 2 ^ p * x) (ends_append ps qs) in
    let d = mul-add (2 ^ p) (ends ps) (2 ^ total ps * ends qs) in
    let e : 2 ^ (p + total ps) * ends qs ≡ 2 ^ p * (2 ^ total ps * ends qs) = ap (λ x. x * ends qs) (pow-add 2 p (total ps)) ∙ mul_assoc (2 ^ p) (2 ^ total ps) (ends qs) in
    omega arith

-- a number below b, shifted by a cell of c + 1
end_below : (c e b : ℕ) → e < b → 2 ^ c + 2 ^ suc c * e < 2 ^ suc c * b
end_below c e b h =
    let l = mul-le-mul_left {m = e + 1} {n = b} (2 ^ suc c) (omega arith) in
    let d = mul-add (2 ^ suc c) e 1 in
    let p = pow-suc 2 c in
    let z = pow_pos c in
    omega arith

pub ends_below : (ps : List ℕ) → AllByRecursion (λ p. 0 < p) ps → ends ps < 2 ^ total ps
ends_below [] h = omega arith
ends_below (zero ∷ ps) h = absurd (let z = h.0 in omega arith)
ends_below (suc p ∷ ps) h =
    let l = end_below p (ends ps) (2 ^ total ps) (ends_below ps h.1) in
    let e = pow-add 2 (suc p) (total ps) in
    let s : 2 ^ (suc p - 1) ≡ 2 ^ p = ap (λ k. 2 ^ k) (let z : suc p - 1 ≡ p = omega arith in z) in
    omega arith

-- the cells that flags cut

cut_whole : (k : ℕ) (bs : List Bool) → 0 < k → AllByRecursion (λ c. 0 < c) (cut k bs) × (total (cut k bs) ≡ k + length bs)
cut_whole k [] h = ((h, tt), refl)
cut_whole k (true ∷ bs) h = let r = cut_whole 1 bs (omega arith) in ((h, r.0), (let z = r.1 in omega arith))
cut_whole k (false ∷ bs) h = let r = cut_whole (k + 1) bs (omega arith) in (r.0, (let z = r.1 in omega arith))

pub cells_stand : (n s : ℕ) → 0 < n → CellsOf n (cells n s)
unfolding cells
cells_stand n s h =
    let r = cut_whole 1 (map (bit s) (range_with_len 0 (n - 1))) (omega arith) in
    let l = length-map-range_with_len (bit s) 0 (n - 1) in
    record { filled = r.0; whole = (let z = r.1 in omega arith) }

pub boundaries_below : (n : ℕ) (cs : List ℕ) → 0 < n → CellsOf n cs → boundaries cs < 2 ^ (n - 1)
unfolding boundaries
boundaries_below n cs h c =
    let e : 2 ^ (total cs - 1) ≡ 2 ^ (n - 1) = ap (λ k. 2 ^ (k - 1)) c.whole in
    let l = mod_below (ends cs) (2 ^ (total cs - 1)) (pow_pos (total cs - 1)) in
    omega arith

-- the low bits of a mask

flags : ℕ → ℕ → List Bool
flags zero s = []
flags (suc m) s = eqb (s % 2) 1 ∷ flags m (s / 2)

flags_are : (m a s : ℕ) → map (bit s) (range_with_len a m) ≡ flags m (s / 2 ^ a)
unfolding bit flags
flags_are zero a s = refl
flags_are (suc m) a s = ap (λ t. eqb (s / 2 ^ a % 2) 1 ∷ t) (flags_are m (a + 1) s ∙ ap (flags m) (sym (shr-shr s a 1)))

flags_mod : (m s : ℕ) → flags m (s % 2 ^ m) ≡ flags m s
unfolding flags
flags_mod zero s = refl
flags_mod (suc m) s =
    let e : s % 2 ^ suc m ≡ (s / 2 % 2 ^ m) * 2 + s % 2 = ap (λ k. s % 2 ^ k) (let z : suc m ≡ m + 1 = omega arith in z) ∙ mod-pow-add s m 1 in
    let low : s % 2 ^ suc m % 2 ≡ s % 2 = omega arith in
    let high : s % 2 ^ suc m / 2 ≡ s / 2 % 2 ^ m = omega arith in
    let rest = ap (flags m) high ∙ flags_mod m (s / 2) in
    λ i. eqb (low i) 1 ∷ rest i

-- c flags that are not set lengthen the cell that has begun
cut_skips : (c k m e : ℕ) → cut k (flags (c + m) (2 ^ c * e)) ≡ cut (k + c) (flags m e)
unfolding flags
cut_skips zero k m e =
    let a : 0 + m ≡ m = omega arith in
    let b : 1 * e ≡ e = omega arith in
    let d : k ≡ k + 0 = omega arith in
    λ i. cut (d i) (flags (a i) (b i))
cut_skips (suc c) k m e =
    let p : 2 ^ suc c * e ≡ 2 * (2 ^ c * e) = ap (λ x. x * e) (pow_two c) ∙ mul_assoc 2 (2 ^ c) e in
    let x = 2 ^ c * e in
    let n : suc c + m ≡ suc (c + m) = omega arith in
    let low : eqb ((2 * x) % 2) 1 ≡ false = ap (λ z. eqb z 1) (even x) in
    let high : (2 * x) / 2 ≡ x = omega arith in
    let step : cut k (eqb ((2 * x) % 2) 1 ∷ flags (c + m) ((2 * x) / 2)) ≡ cut (k + 1) (flags (c + m) x) = λ i. cut k (low i ∷ flags (c + m) (high i)) in
    let q : k + 1 + c ≡ k + suc c = omega arith in
    (λ i. cut k (flags (n i) (p i))) ∙ step ∙ cut_skips c (k + 1) m e ∙ (λ i. cut (q i) (flags m e))
  where
    pow_two : (c : ℕ) → 2 ^ suc c ≡ 2 * 2 ^ c
    pow_two c = let z = pow-suc 2 c in omega arith

    even : (x : ℕ) → (2 * x) % 2 ≡ 0
    even x = omega arith

-- the flags of end masks cut the cells back; k - 1 members of the first cell stand before
cut_ends : (k c : ℕ) (cs : List ℕ) → 0 < c → AllByRecursion (λ d. 0 < d) cs → cut k (flags (total (c ∷ cs) - 1) (ends (c ∷ cs))) ≡ (k + (c - 1)) ∷ cs
unfolding flags
cut_ends k zero cs h a = absurd (omega arith)
cut_ends k (suc c) [] h a =
    let t : suc c + 0 - 1 ≡ c + 0 = omega arith in
    let o : suc c - 1 ≡ c = omega arith in
    let e : 2 ^ (suc c - 1) + 2 ^ suc c * 0 ≡ 2 ^ c * 1 = (λ i. 2 ^ o i + 2 ^ suc c * 0) ∙ (let z : 2 ^ c + 2 ^ suc c * 0 ≡ 2 ^ c * 1 = omega arith in z) in
    (λ i. cut k (flags (t i) (e i))) ∙ cut_skips c k 0 1 ∙ (λ i. (k + (sym o) i) ∷ [])
cut_ends k (suc c) (d ∷ ds) h a =
    let T = total (d ∷ ds) in
    let x = ends (d ∷ ds) in
    let pos : 0 < d = a.0 in
    let t : suc c + T - 1 ≡ c + suc (T - 1) = omega arith in
    let o : suc c - 1 ≡ c = omega arith in
    let e : 2 ^ (suc c - 1) + 2 ^ suc c * x ≡ 2 ^ c * (1 + 2 * x) = (λ i. 2 ^ o i + 2 ^ suc c * x) ∙ doubled c x in
    let low : eqb ((1 + 2 * x) % 2) 1 ≡ true = ap (λ z. eqb z 1) (odd x) in
    let high : (1 + 2 * x) / 2 ≡ x = omega arith in
    let step : cut (k + c) (eqb ((1 + 2 * x) % 2) 1 ∷ flags (T - 1) ((1 + 2 * x) / 2)) ≡ (k + c) ∷ cut 1 (flags (T - 1) x) = λ i. cut (k + c) (low i ∷ flags (T - 1) (high i)) in
    let back : 1 + (d - 1) ≡ d = omega arith in
    (λ i. cut k (flags (t i) (e i))) ∙ cut_skips c k (suc (T - 1)) (1 + 2 * x) ∙ step
    ∙ ap (λ l. (k + c) ∷ l) (cut_ends 1 d ds pos a.1) ∙ (λ i. (k + (sym o) i) ∷ (back i ∷ ds))
  where
    doubled : (c x : ℕ) → 2 ^ c + 2 ^ suc c * x ≡ 2 ^ c * (1 + 2 * x)
    doubled c x =
        let p = ap (λ y. y * x) (pow-suc 2 c) in
        let q = mul_assoc (2 ^ c) 2 x in
        let r = mul-add (2 ^ c) 1 (2 * x) in
        omega arith

    odd : (x : ℕ) → (1 + 2 * x) % 2 ≡ 1
    odd x = omega arith

pub cells_boundaries : (n : ℕ) (cs : List ℕ) → 0 < n → CellsOf n cs → cells n (boundaries cs) ≡ cs
unfolding cells boundaries
cells_boundaries n [] h c = absurd (let w = c.whole in omega arith)
cells_boundaries n (d ∷ ds) h c =
    let T = total (d ∷ ds) in
    let s = boundaries (d ∷ ds) in
    let w : n - 1 ≡ T - 1 = ap (λ k. k - 1) (sym c.whole) in
    let o : s / 2 ^ 0 ≡ s = omega arith in
    let back : 1 + (d - 1) ≡ d = let z = c.filled.0 in omega arith in
    (λ i. cut 1 (map (bit s) (range_with_len 0 (w i)))) ∙ ap (cut 1) (flags_are (T - 1) 0 s ∙ ap (flags (T - 1)) o ∙ flags_mod (T - 1) (ends (d ∷ ds)))
    ∙ cut_ends 1 d ds c.filled.0 c.filled.1 ∙ (λ i. back i ∷ ds)
