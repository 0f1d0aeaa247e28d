use Rattle.std.proofs.Common.{◌≡◌, ◌≤◌, length, None, subst}
use Rattle.std.proofs.lemmas.Result.{err_from_is_err_and}
use Rattle.scenarios.specs.Canonical.{CanonicalTold}
use Rattle.scenarios.specs.PlanCounts.{fault_of, IsNotCanonical, Shaped}
use Rattle.scenarios.proofs.Querying.{canonical_told}
use Rattle.scenarios.proofs.plan.Plan.canonical.Goals as goal

pub returns-in_err-check_shape : goal.returns-in_err-check_shape
returns-in_err-check_shape c =
    let n = c.numbers.ensures in
    let e = c.in_err-check_shape.field-0.0 in
    let p = err_from_is_err_and c.from_residual.result c.from_residual.ensures.1 in
    rw (p.1, p.2) (subst (λ q. (fault_of q ≡ None) × IsNotCanonical q c.args.rounds.now e) n.value (n.ruled, c.in_err-check_shape.ensures))

pub returns : goal.returns
returns c =
    let n = c.numbers.ensures in
    let rs = c.args.rounds.now in
    let ruled = subst (λ q. fault_of q ≡ None) n.value n.ruled in
    let shaped = subst (λ q. Shaped q.mode q.rounds rs × (length rs ≤ 64)) n.value c.in_ok-check_shape.ensures in
    let told = subst (λ k. CanonicalTold k rs c.residual_state.result) c.size.ensures c.residual_state.ensures in
    canonical_told c.args.self.now rs c.residual_state.result ruled shaped told c.ok_or.result c.ok_or.ensures.value
