use Rattle.std.proofs.Common.{refl, ap, ◌∙◌, subst}
use Rattle.std.specs.Result.{result_ok}
use Rattle.sets.specs.Answers.{SetsCounted}
use Rattle.campaigns.proofs.SetCounts.{blank, scenario_refused, sets_of_rank}
use Rattle.campaigns.proofs.listing.sets_of.Goals as goal

pub returns-in_err-state : goal.returns-in_err-state
returns-in_err-state c below =
    absurd (scenario_refused c.args.counted.now.plan c.args.counted.now.total c.args.counted.now.memory c.numbers-numbers.ensures.counted c.args.rank below blank c.scenario.new.rounds c.scenario.result refl c.in_err-state.ensures.value c.scenario.ensures.told)

pub returns : goal.returns
returns c below =
    let plan = c.args.counted.now.plan in
    let numbers = c.numbers-numbers.ensures.value in
    let s = c.in_ok-state.state in
    let r = c.count_sets.result in
    let sets = subst (λ p. SetsCounted p.participants p.faults s.boundaries r) numbers c.count_sets.ensures in
    c.ok-2.ensures.value ∙ ap result_ok (sets_of_rank plan c.args.counted.now.total c.args.counted.now.memory c.numbers-numbers.ensures.counted c.args.rank below blank c.scenario.new.rounds c.scenario.result s r c.in_ok-state.ensures.value c.scenario.ensures.told sets)
