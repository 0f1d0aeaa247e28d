use Rattle.std.proofs.Common.{sym, subst}
use Rattle.scenarios.specs.Canonical.{CanonicalTold}
use Rattle.scenarios.proofs.Canoning.{Read, read_start, read_more, read_none, read_all}
use Rattle.scenarios.proofs.Layers.{root_state}
use Rattle.scenarios.proofs.canon.residual_state.Goals as goal

pub loop-round-init : goal.loop-round-init
loop-round-init c =
    subst (Read c.args.participants.number c.args.rounds.now 0) (sym c.initial-state.ensures)
    (read_start c.args.participants.number c.args.rounds.now c.args.participants.within.0 (root_state c.args.participants.number c.args.participants.within.0))

pub loop-round-preserved : goal.loop-round-preserved
loop-round-preserved c =
    let x = c.in_ok-state.ensures in
    read_more c.args.participants.number c.args.participants.within.0 c.args.rounds.now c.loop-round.round-index c.loop-round.state.boundaries c.loop-round.invariant (record { leader = 0; primary = 0; secondary = 0 }) c.loop-round-test.true
    x.0 c.in_ok-state.field-0.rank c.in_ok-state.field-0.next.boundaries x.1 x.4 x.5 x.3

pub returns-in_err-state : goal.returns-in_err-state
returns-in_err-state c =
    subst (CanonicalTold c.args.participants.number c.args.rounds.now) (sym c.from_residual.ensures)
    (read_none c.args.participants.number c.args.participants.within.0 c.args.rounds.now c.loop-round.round-index c.loop-round.state.boundaries c.loop-round.invariant (record { leader = 0; primary = 0; secondary = 0 }) c.loop-round-test.true
    c.in_err-state.ensures)

pub returns : goal.returns
returns c = read_all c.args.participants.number c.loop-round.round-index c.loop-round.state.boundaries c.args.rounds.now c.loop-round-test.false c.loop-round.invariant
