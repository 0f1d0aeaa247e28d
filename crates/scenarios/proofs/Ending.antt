-- The last participants of parts, set bit by bit.
use Rattle.std.proofs.Common.{◌≡◌, ℕ, ◌+◌, ◌-◌, ◌*◌, ◌^◌, ◌<◌, ◌≤◌, List, [], ◌∷◌, ◌++◌, length, get_or, take, sym, ap, ◌∙◌, mul-add, arith, pow_mono}
use Rattle.std.specs.List.{AllByRecursion}
use Rattle.std.proofs.lemmas.Nat.{pow-add}
use Rattle.std.proofs.lemmas.List.{take_more}
use Rattle.std.proofs.ByRecursion.{All-get_or}
use Rattle.scenarios.specs.Cells.{total, ends}
use Rattle.scenarios.proofs.Parting.{total_append}
use Rattle.scenarios.proofs.States.{ends_append}
use Rattle.scenarios.proofs.Moving.{total_take}

pub total_more : (ps : List ℕ) (j : ℕ) → j < length ps → total (take (j + 1) ps) ≡ total (take j ps) + get_or ps j 0
total_more ps j h = ap total (take_more ps j 0 h) ∙ total_append (take j ps) (get_or ps j 0 ∷ []) ∙ ap (λ k. total (take j ps) + k) (let e : get_or ps j 0 + 0 ≡ get_or ps j 0 = omega arith in e)

-- one bit more, at the last participant of the part p
ends_push : (start : ℕ) (ps : List ℕ) (p : ℕ) → 0 < p → 2 ^ start * ends (ps ++ (p ∷ [])) ≡ 2 ^ start * ends ps + 2 ^ (start + total ps + p - 1)
ends_push start ps p h =
    let a : ℕ = 2 ^ start in
    let t : ℕ = 2 ^ total ps in
    let q : ℕ = 2 ^ (p - 1) in
    let e : ends (ps ++ (p ∷ [])) ≡ ends ps + t * (q + 2 ^ p * 0) = ends_append ps (p ∷ []) in
    let z : q + 2 ^ p * 0 ≡ q = omega arith in
    let k : start + (total ps + (p - 1)) ≡ start + total ps + p - 1 = omega arith in
    let m : a * (t * q) ≡ 2 ^ (start + total ps + p - 1) = ap (λ x. a * x) (sym (pow-add 2 (total ps) (p - 1))) ∙ sym (pow-add 2 start (total ps + (p - 1))) ∙ ap (λ x. 2 ^ x) k in
    ap (λ x. a * x) (e ∙ ap (λ x. ends ps + t * x) z) ∙ mul-add a (ends ps) (t * q) ∙ ap (λ x. a * ends ps + x) m

pub record EndStep (mask start : ℕ) (parts : List ℕ) (j end out : ℕ) : Type 0 where
  pub some : 0 < get_or parts j 0
  pub within : end + get_or parts j 0 ≤ 64
  pub below : out < 2 ^ (end + get_or parts j 0 - 1)
  pub ended : end + get_or parts j 0 ≡ start + total (take (j + 1) parts)
  pub more : out + (2 ^ 1 - 1) * 2 ^ (end + get_or parts j 0 - 1) ≡ mask + 2 ^ start * ends (take (j + 1) parts)
  pub still : out + (2 ^ 1 - 1) * 2 ^ (end + get_or parts j 0 - 1) < 2 ^ (end + get_or parts j 0)

pub end_step : (mask start : ℕ) (parts : List ℕ) (j end out : ℕ) → j < length parts → AllByRecursion (λ p. 0 < p) parts → start + total parts ≤ 64
    → end ≡ start + total (take j parts) → out ≡ mask + 2 ^ start * ends (take j parts) → out < 2 ^ end → EndStep mask start parts j end out
end_step mask start parts j end out h filled fits e o b =
    let p : ℕ = get_or parts j 0 in
    let p0 : 0 < p = All-get_or (λ x. 0 < x) parts j 0 h filled in
    let t = total_more parts j h in
    let tt' = total_take (j + 1) parts in
    let m : end ≤ end + p - 1 = omega arith in
    let pm : 2 ^ end ≤ 2 ^ (end + p - 1) = pow_mono m in
    let ep : ends (take (j + 1) parts) ≡ ends (take j parts ++ (p ∷ [])) = ap ends (take_more parts j 0 h) in
    let push = ends_push start (take j parts) p p0 in
    let w : 2 ^ start * ends (take (j + 1) parts) ≡ 2 ^ start * ends (take j parts) + 2 ^ (end + p - 1) = ap (λ x. 2 ^ start * x) ep ∙ push ∙ ap (λ x. 2 ^ start * ends (take j parts) + 2 ^ (x + p - 1)) (sym e) in
    let one : end + p - 1 + 1 ≡ end + p = omega arith in
    let twice : 2 ^ (end + p) ≡ 2 ^ (end + p - 1) * 2 = ap (λ x. 2 ^ x) (sym one) ∙ pow-add 2 (end + p - 1) 1 in
    record {
      some = p0;
      within = omega arith;
      below = omega arith;
      ended = omega arith;
      more = omega arith;
      still = omega arith;
    }
