-- Cells that are not empty have fewer sets than there are numbers of 64 bits.
use Rattle.std.proofs.Common.{◌≡◌, ℕ, zero, suc, ◌+◌, ◌-◌, ◌*◌, ◌^◌, ◌<◌, ◌≤◌, min, Bool, true, false, cond, eqb, List, [], ◌∷◌, length, ap, pow-suc, arith, pow_mono}
use Rattle.std.specs.List.{AllByRecursion}
use Rattle.std.proofs.lemmas.Nat.{pow-add, pow_below, mul-le}
use Rattle.std.proofs.lemmas.Bool.{ne_eqb}
use Rattle.scenarios.specs.Cells.{total}
use Rattle.sets.specs.Sets.{amounts}
use Rattle.sets.proofs.Totals.{total_counting_more, total_at_most, same_totals}
use Rattle.sets.proofs.Amounts.{length_amounts}

-- no cells have at most one set, and that of no faults
pub none_at_most : (f : ℕ) → length (amounts [] f) ≤ 1
none_at_most f = go (eqb f 0)
  where
    go : (b : Bool) → length {A = List ℕ} (cond b ([] ∷ []) []) ≤ 1
    go true = omega arith
    go false = omega arith

pub none_of_some : (f : ℕ) → 0 < f → length (amounts [] f) ≡ 0
none_of_some f h = ap (λ b. length {A = List ℕ} (cond b ([] ∷ []) [])) (ne_eqb f 0 (λ e. omega arith))

-- the last cell has to take all that is left
one_cell : (c f : ℕ) → length (amounts (c ∷ []) f) ≤ 1
one_cell c f =
    let long = length_amounts c [] f in
    let more = total_counting_more (λ u. length (amounts [] (f - u))) (min c f) in
    let front = same_totals (λ u. length (amounts [] (f - u))) (λ u. 0) 0 (min c f) (λ u l m. none_of_some (f - u) (omega arith)) in
    let zeros = total_at_most (λ u. 0) 0 0 (min c f) (λ u. omega arith) in
    let last = none_at_most (f - min c f) in
    omega arith

suc_at_most_pow : (c : ℕ) → c + 1 ≤ 2 ^ c
suc_at_most_pow zero = omega arith
suc_at_most_pow (suc c) =
    let h = suc_at_most_pow c in
    let p = pow-suc 2 c in
    omega arith

amounts_at_most : (cs : List ℕ) (f : ℕ) → AllByRecursion (λ c. 0 < c) cs → length (amounts cs f) ≤ 2 ^ (total cs - 1)
amounts_at_most [] f h = none_at_most f
amounts_at_most (c ∷ []) f h =
    let one = one_cell c f in
    let p = pow_mono {i = 0} {j = c + 0 - 1} (omega arith) in
    omega arith
amounts_at_most (c ∷ (d ∷ ds)) f h =
    let m = total (d ∷ ds) - 1 in
    let long = length_amounts c (d ∷ ds) f in
    let all = total_at_most (λ u. length (amounts (d ∷ ds) (f - u))) (2 ^ m) 0 (min c f + 1) (λ u. amounts_at_most (d ∷ ds) (f - u) h.1) in
    let s = suc_at_most_pow c in
    let w : (min c f + 1) * 2 ^ m ≤ 2 ^ c * 2 ^ m = mul-le (min c f + 1) (2 ^ m) (2 ^ c) (2 ^ m) (omega arith) (omega arith) in
    let p = pow-add 2 c m in
    let some = h.1.0 in
    let e : 2 ^ (c + total (d ∷ ds) - 1) ≡ 2 ^ (c + m) = ap (λ k. 2 ^ k) (let z : c + total (d ∷ ds) - 1 ≡ c + m = omega arith in z) in
    omega arith

pub amounts_fit : (cs : List ℕ) (f : ℕ) → AllByRecursion (λ c. 0 < c) cs → total cs ≤ 64 → length (amounts cs f) < 2 ^ 64
amounts_fit cs f h l =
    let most = amounts_at_most cs f h in
    let p = pow_below (total cs - 1) 64 (omega arith) in
    omega arith
