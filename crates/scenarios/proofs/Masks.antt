-- Masks by their bits: lists of bits packed into masks, and masks told apart by bits. Assumes nothing.
use Rattle.std.proofs.Common.{◌≡◌, ℕ, zero, suc, ◌+◌, ◌*◌, ◌/◌, ◌%◌, ◌^◌, ◌<◌, Bool, true, false, cond, eqb, List, [], ◌∷◌, ◌++◌, length, get_or, sym, refl, ap, ◌∙◌, mul_assoc, arith}
use native.Mathlib.Nat.{pow-succ'}
use Rattle.std.proofs.lemmas.Nat.{shr-shr}
use Rattle.std.proofs.lemmas.Bool.Decides.{nat_tests}
use Rattle.scenarios.specs.Masks.{bit, pack}

pub bit_zero : (m : ℕ) → bit m 0 ≡ eqb (m % 2) 1
unfolding bit
bit_zero m = ap (λ x. eqb (x % 2) 1) (let e : m / 1 ≡ m = omega arith in e)

pub bit_suc : (m i : ℕ) → bit m (suc i) ≡ bit (m / 2) i
unfolding bit
bit_suc m i = ap (λ x. eqb (x % 2) 1) (sym (shr-shr m 1 i ∙ ap (λ k. m / 2 ^ k) (let e : 1 + i ≡ suc i = omega arith in e)))

pub bit_none : (i : ℕ) → bit 0 i ≡ false
bit_none zero = bit_zero 0
bit_none (suc i) = bit_suc 0 i ∙ bit_none i

odd_same : (a b : ℕ) → a < 2 → b < 2 → eqb a 1 ≡ eqb b 1 → a ≡ b
odd_same a b ha hb e = grind (arith, nat_tests)

pub same_mask : (n m m' : ℕ) → m < 2 ^ n → m' < 2 ^ n → ((i : ℕ) → i < n → bit m i ≡ bit m' i) → m ≡ m'
same_mask zero m m' h h' e = omega arith
same_mask (suc n) m m' h h' e =
    let p = pow-succ' 2 n in
    let low = odd_same (m % 2) (m' % 2) (omega arith) (omega arith) (sym (bit_zero m) ∙ e 0 (omega arith) ∙ bit_zero m') in
    let high = same_mask n (m / 2) (m' / 2) (omega arith) (omega arith) (λ i l. sym (bit_suc m i) ∙ e (suc i) (omega arith) ∙ bit_suc m' i) in
    omega arith

one : (b : Bool) → (cond b 1 0 < 2) × (eqb (cond b 1 0) 1 ≡ b)
one true = (omega arith, refl)
one false = (omega arith, refl)

pub pack_below : (bs : List Bool) → pack bs < 2 ^ length bs
pack_below [] = omega arith
pack_below (b ∷ bs) = let p = pow-succ' 2 (length bs) in let h = pack_below bs in let o = (one b).0 in omega arith

pub bit_pack : (bs : List Bool) (i : ℕ) → bit (pack bs) i ≡ get_or bs i false
bit_pack [] i = bit_none i
bit_pack (b ∷ bs) zero =
    let o = (one b).0 in
    let c : ℕ = cond b 1 0 in
    bit_zero _ ∙ ap (λ k. eqb k 1) (let e : (c + 2 * pack bs) % 2 ≡ c = omega arith in e) ∙ (one b).1
bit_pack (b ∷ bs) (suc i) =
    let o = (one b).0 in
    let c : ℕ = cond b 1 0 in
    bit_suc _ i ∙ ap (λ k. bit k i) (let e : (c + 2 * pack bs) / 2 ≡ pack bs = omega arith in e) ∙ bit_pack bs i

pub pack_append : (xs ys : List Bool) → pack (xs ++ ys) ≡ pack xs + 2 ^ length xs * pack ys
pack_append [] ys = omega arith
pack_append (b ∷ xs) ys =
    let h = pack_append xs ys in
    let p = ap (λ k. k * pack ys) (pow-succ' 2 (length xs)) ∙ mul_assoc 2 (2 ^ length xs) (pack ys) in
    omega arith
