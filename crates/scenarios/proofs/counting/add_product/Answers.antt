use Rattle.std.proofs.Common.{◌≡◌, ℕ, ◌^◌, ◌+◌, ◌*◌, ◌<◌, ◌≤◌, Result, Ok, Err, None, sym, ◌∙◌, subst, arith}
use Rattle.std.proofs.lemmas.Nat.{mul-le}
use Rattle.std.specs.Result.{OkIff, result_ok}
use Rattle.scenarios.specs.Slots.{FitsAs}
use Rattle.scenarios.proofs.counting.add_product.Goals as goal

-- a weight that is not taken is too large
refused : {E : Type 0} (r : Result ℕ E) (w : ℕ) → OkIff r (w < 2 ^ 64) w → result_ok r ≡ None → 2 ^ 64 ≤ w
refused (Ok x) w h e = absurd cc
refused (Err y) w h e = omega (arith, h)

pub returns-in_err-weight : goal.returns-in_err-weight
returns-in_err-weight c h =
    let large = refused c.try_from.result c.args.weight c.try_from.ensures (sym c.ok.ensures.value ∙ c.in_err-weight.was) in
    let m = mul-le (2 ^ 64) 1 c.args.weight c.args.value large h in
    let short : 2 ^ 64 ≤ c.args.total + c.args.weight * c.args.value = omega arith in
    subst (FitsAs (c.args.total + c.args.weight * c.args.value)) (sym c.from_residual.ensures) short
