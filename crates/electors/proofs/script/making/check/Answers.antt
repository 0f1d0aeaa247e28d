use Rattle.std.proofs.Common.{◌≡◌, true, ltb, sym, ◌∙◌, rules, tests}
use Rattle.std.proofs.lemmas.Iterator.{YieldsList-from_slice}
use Rattle.std.proofs.lemmas.Iterator.Search.{all_from_yields_List}
use Rattle.electors.specs.Making.{all_below}
use Rattle.electors.proofs.script.making.check.Goals as goal

pub returns : goal.returns
returns c =
    let all : all_below c.args.count c.args.leaders.now ≡ true = sym (all_from_yields_List (λ leader. ltb leader c.args.count) _ _ _ c.all.ensures.ran (YieldsList-from_slice c.args.leaders.now cc) (λ x b q k. search (rules, tests))) ∙ c.if-not-all.false in
    search rules
