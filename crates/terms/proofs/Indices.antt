-- Views divided by term lengths.
use Rattle.std.proofs.Common.{◌≡◌, ℕ, zero, suc, ◌+◌, ◌-◌, ◌*◌, ◌<◌, ◌≤◌, sym, arith}
use Rattle.std.proofs.Math.Nat.{div-eq_of_lt-le, mul-div-le}
use Rattle.std.specs.Int.{div_ceil}
use Rattle.std.proofs.lemmas.Grind.{div_ceil_times}
use Rattle.terms.specs.Terms.{term_index, script_place}

-- the quotient rounded up is the one number whose multiple is the view or less than a term behind it
pub index_is : (l v : ℕ) → 0 < l → div_ceil v l ≡ term_index l v
index_is l v h =
    let b = div_ceil_times v l h in
    let more : (div_ceil v l + 1) * l ≡ div_ceil v l * l + l = grind arith in
    sym (div-eq_of_lt-le l (omega (arith, b)) (omega (arith, b, more)))

-- a term starts at or before its views
pub start_below : (l v : ℕ) → 0 < l → 0 < v → l * script_place l v + 1 ≤ v
start_below l v h k = go (term_index l v) (mul-div-le (v + (l - 1)) l)
  where
    go : (n : ℕ) → l * n ≤ v + (l - 1) → l * (n - 1) + 1 ≤ v
    go zero e = omega arith
    go (suc n) e =
        let p : suc n - 1 ≡ n = omega arith in
        let m : l * suc n ≡ l * n + l = grind arith in
        rw p (omega arith)
