use Rattle.std.proofs.Common.{◌≡◌, true, false, ◌||◌, Err, ⊎_elim}
use Rattle.std.proofs.lemmas.Bool.{or_left, or_right, or_from}
use Rattle.refusals.specs.declared.Refusal.TheVariants.{UnknownSender}
use Rattle.views.proofs.Splitting.{split_nowhere, split_there, split_agrees}
use Rattle.views.proofs.split.view_route.Goals as goal

pub returns-then-second-clause-told : goal.returns-then-second-clause-told
returns-then-second-clause-told g c =
    let known = c.in_ok-cut.ensures in
    let a = c.is_listed-first.result in
    let b = c.is_listed-second.result in
    let some : (a || b) ≡ true = ⊎_elim (or_left a b) (λ h. or_right a b h.1) c.if-second.either in
    split_there g.N.Key.meaning c.args.term c.args.view _ c.args.names.now c.in_ok-cut.cut known.1 known.0 a b c.is_listed-first.ensures c.is_listed-second.ensures
    c.of.result some c.of.ensures

pub returns-else-second-clause-told : goal.returns-else-second-clause-told
returns-else-second-clause-told g c =
    let known = c.in_ok-cut.ensures in
    let a = c.is_listed-first.result in
    let b = c.is_listed-second.result in
    let none : (a || b) ≡ false = or_from a b c.if-second.false.0 c.if-second.false.1 in
    split_nowhere g.N.Key.meaning c.args.term c.args.view _ c.args.names.now c.in_ok-cut.cut known.1 known.0 a b c.is_listed-first.ensures c.is_listed-second.ensures none

pub returns-else-second-clause-agrees : goal.returns-else-second-clause-agrees
returns-else-second-clause-agrees g c =
    split_agrees g.N.Key.meaning c.args.term c.args.view _ c.args.names.now (Err UnknownSender) (returns-else-second-clause-told g c)
