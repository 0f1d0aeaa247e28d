use Rattle.std.proofs.Common.{◌<◌, ◌≤◌, length, refl, ◌∙◌, subst}
use Rattle.scenarios.proofs.Querying.{fault_short, fault_past, fault_none, corresponds}
use Rattle.scenarios.proofs.counted.CountedPlan.scenario.Goals as goal

pub returns-then-rounds-numbers : goal.returns-then-rounds-numbers
returns-then-rounds-numbers c =
    let p = c.args.self.now.plan in
    let n = c.numbers.ensures in
    record {
      told = (fault_short p c.args.rank _ (subst (λ q. length c.args.rounds.now < q.rounds) n.value c.if-rounds-numbers.true), refl);
      corresponds = corresponds p _ _ n.counted;
    }

pub returns-then-rank-total : goal.returns-then-rank-total
returns-then-rank-total c =
    let p = c.args.self.now.plan in
    let n = c.numbers.ensures in
    let enough = subst (λ q. q.rounds ≤ length c.args.rounds.now) n.value c.if-rounds-numbers.false in
    record {
      told = (fault_past p c.args.rank _ enough (subst (λ t. t ≤ c.args.rank) (c.total.ensures.value ∙ n.counted.total_is) c.if-rank-total.true), refl);
      corresponds = corresponds p _ _ n.counted;
    }

pub returns : goal.returns
returns c =
    let p = c.args.self.now.plan in
    let n = c.numbers.ensures in
    let enough = subst (λ q. q.rounds ≤ length c.args.rounds.now) n.value c.if-rounds-numbers.false in
    let below = subst (λ t. c.args.rank < t) (c.total.ensures.value ∙ n.counted.total_is) c.if-rank-total.false in
    let both = corresponds p _ _ n.counted in
    record {
      told = (fault_none p c.args.rank _ enough below, c.unrank.ensures.0, c.unrank.ensures.1, both.legal c.args.rank below, both.canonical c.args.rank below);
      corresponds = both;
    }
