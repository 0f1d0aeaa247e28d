use Rattle.std.proofs.Common.{◌≤◌, length, take, sym, subst}
use Rattle.std.proofs.lemmas.Result.{err_from_is_err_and}
use Rattle.scenarios.specs.PlanCounts.{IsNotCanonical, Shaped}
use Rattle.scenarios.specs.Ranking.{RankTold}
use Rattle.scenarios.proofs.Querying.{ruled, ranked_long, rank_told, corresponds}
use Rattle.scenarios.proofs.counted.CountedPlan.rank.Goals as goal

pub returns-in_err-check_shape : goal.returns-in_err-check_shape
returns-in_err-check_shape c =
    let n = c.numbers.ensures in
    let e = c.in_err-check_shape.field-0.0 in
    let p = err_from_is_err_and c.from_residual.result c.from_residual.ensures.1 in
    record {
      told = rw (p.1, p.2) (subst (λ q. IsNotCanonical q c.args.rounds.now e) n.value c.in_err-check_shape.ensures);
      corresponds = corresponds c.args.self.now.plan _ _ n.counted;
    }

pub slice_bounds-rank-end : goal.slice_bounds-rank-end
slice_bounds-rank-end c =
    let rs = c.args.rounds.now in
    let n = c.numbers.ensures in
    let shaped = subst (λ q. Shaped q.mode q.rounds rs × (length rs ≤ 64)) n.value c.in_ok-check_shape.ensures in
    sym (ranked_long c.args.self.now.plan c.counts-counts.result.rounds rs (ruled c.args.self.now.plan n.counted.rules).2 shaped.0 c.counts-counts.ensures.1)

pub rank-requires : goal.rank-requires
rank-requires c =
    let rs = c.args.rounds.now in
    let n = c.numbers.ensures in
    let shaped = subst (λ q. Shaped q.mode q.rounds rs × (length rs ≤ 64)) n.value c.in_ok-check_shape.ensures in
    ranked_long c.args.self.now.plan c.counts-counts.result.rounds rs (ruled c.args.self.now.plan n.counted.rules).2 shaped.0 c.counts-counts.ensures.1

pub returns : goal.returns
returns c =
    let p = c.args.self.now.plan in
    let rs = c.args.rounds.now in
    let n = c.numbers.ensures in
    let shaped = subst (λ q. Shaped q.mode q.rounds rs × (length rs ≤ 64)) n.value c.in_ok-check_shape.ensures in
    let size = c.counts-counts.ensures in
    record {
      told =
          rank_told p c.counts-counts.result.rounds rs c.rank.result (ruled p n.counted.rules).2 shaped size.1
          (subst (λ k. RankTold k (take c.counts-counts.result.rounds rs) c.rank.result) size.0 c.rank.ensures) c.ok_or.result c.ok_or.ensures.value;
      corresponds = corresponds p _ _ n.counted;
    }
