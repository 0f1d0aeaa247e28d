use Rattle.std.proofs.Common.{◌≡◌, length, arith, rules}
use Rattle.scenarios.specs.Roles.{number}
use Rattle.scenarios.proofs.CellsBack.{rank_small, cell_follows_at, cell_leads_at}
use Rattle.scenarios.proofs.read.read_cell.Goals as goal

pub returns-then-not-led : goal.returns-then-not-led
returns-then-not-led c =
    let long : length c.in_ok-parts.field-0.parts ≡ 5 = search rules in
    cell_follows_at c.args.led c.args.round.now c.args.start c.args.size c.in_ok-parts.field-0 c.choice_rank.result c.if-not-led.true c.requires.placed long _ c.in_ok-parts.ensures c.choice_rank.ensures

pub overflow_mul-result : goal.overflow_mul-result
overflow_mul-result c =
    let small = rank_small _ c.choice_rank-2.result c.choice_rank-2.ensures in
    search rules

pub overflow_add-result-2 : goal.overflow_add-result-2
overflow_add-result-2 c =
    let small = rank_small _ c.choice_rank-2.result c.choice_rank-2.ensures in
    search rules

pub returns : goal.returns
returns c =
    let long : length c.in_ok-parts-2.field-0.parts ≡ 5 = search rules in
    cell_leads_at c.args.led c.args.round.now c.args.start c.args.size c.in_ok-parts-2.field-0 c.choice_rank-2.result (number c.role_of.result) c.in_ok-placement.placement c.if-not-led.false c.requires.placed c.requires.within.0 long _ c.in_ok-parts-2.ensures c.choice_rank-2.ensures c.role_of.ensures (λ e. omega (arith, c.in_ok-placement.ensures.0)) c.in_ok-placement.ensures.1
