use Rattle.std.proofs.Common.{eqb, sym, subst, arith, rules}
use lib.Count.{ones}
use borrow.Author.Tests.{tests}
use Rattle.std.proofs.lemmas.Iterator.{YieldsList-from_range}
use Rattle.std.proofs.lemmas.Iterator.Consumers.{count_from_yields_List, YieldsList-from_filter}
use Rattle.scenarios.specs.Readings.{RanksChoice}
use Rattle.scenarios.proofs.ReadingBack.{ranks_choice}
use Rattle.scenarios.proofs.read.choice_rank.Goals as goal

pub returns : goal.returns
returns c =
    let roles = c.args.roles in
    let below = YieldsList-from_range 0 roles roles c.filter.ensures.source (omega arith) in
    let counted = count_from_yields_List c.filter.result _ c.count.ensures.ran (YieldsList-from_filter _ (λ m. eqb (ones m) (ones roles)) below c.filter.ensures.closure (λ x b q k. search (rules, tests))) in
    subst (RanksChoice roles) (sym counted) (ranks_choice roles c.requires)
