-- Bits of masks, as the code tests and sets them.
use Rattle.std.proofs.Common.{◌≡◌, ℕ, ◌+◌, ◌-◌, ◌*◌, ◌/◌, ◌%◌, ◌^◌, ◌<◌, ◌≤◌, false, eqb, sym, ap, ◌∙◌, add-mul, add_comm, arith}
use native.Mathlib.Nat.{div-eq_of_lt}
use lib.Bits.{bit_and, bit_or}
use Rattle.std.proofs.lemmas.Nat.{and_mask, pow_pos, pow-add, or_shifted, or_comm, shl_whole, div-mul-add}
use Rattle.scenarios.specs.Masks.{bit}

pub bit_shifted : (m i : ℕ) → eqb (bit_and (m / 2 ^ i) 1) 1 ≡ bit m i
unfolding bit
bit_shifted m i = ap (λ x. eqb x 1) (and_mask (m / 2 ^ i) 1)

pub bit_past : (m i : ℕ) → m < 2 ^ i → bit m i ≡ false
unfolding bit
bit_past m i h = ap (λ x. eqb (x % 2) 1) (div-eq_of_lt h)

-- all ones, shifted down to len of them
ones_down : (len : ℕ) → len ≤ 64 → (2 ^ 64 - 1) / 2 ^ (64 - len) ≡ 2 ^ len - 1
ones_down len h =
    let w : ℕ = 2 ^ (64 - len) in
    let x : ℕ = 2 ^ len - 1 in
    let a = pow_pos len in
    let b = pow_pos (64 - len) in
    let k : len + (64 - len) ≡ 64 = omega arith in
    let p : 2 ^ len * w ≡ 2 ^ 64 = sym (pow-add 2 len (64 - len)) ∙ ap (λ j. 2 ^ j) k in
    let q : x + 1 ≡ 2 ^ len = omega arith in
    let r : (x + 1) * w ≡ 2 ^ 64 = ap (λ y. y * w) q ∙ p in
    let t : (x + 1) * w ≡ x * w + 1 * w = add-mul x 1 w in
    let e : 2 ^ 64 - 1 ≡ x * w + (w - 1) = omega arith in
    let l : w - 1 < w = omega arith in
    ap (λ y. y / w) e ∙ div-mul-add x w (w - 1) l

pub range_set : (m start len : ℕ) → m < 2 ^ start → start + len ≤ 64 → 0 < len → bit_or m (((2 ^ 64 - 1) / 2 ^ (64 - len) * 2 ^ start) % 2 ^ 64) ≡ m + (2 ^ len - 1) * 2 ^ start
range_set m start len h k p =
    let a = pow_pos len in
    let x : 2 ^ len - 1 < 2 ^ len = omega arith in
    let l : len + start ≤ 64 = omega arith in
    let e = ap (λ y. (y * 2 ^ start) % 2 ^ 64) (ones_down len (omega arith)) ∙ shl_whole (2 ^ len - 1) len start 64 x l in
    let o = or_shifted (2 ^ len - 1) start m h in
    let c = add_comm ((2 ^ len - 1) * 2 ^ start) m in
    ap (bit_or m) e ∙ or_comm m ((2 ^ len - 1) * 2 ^ start) ∙ o ∙ c
