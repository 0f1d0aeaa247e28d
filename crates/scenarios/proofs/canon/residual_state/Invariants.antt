use Rattle.scenarios.proofs.Canoning.{Read}
use Rattle.scenarios.proofs.canon.residual_state.Given as goal

abbrev pub invariant-loop-round : goal.invariant-loop-round
invariant-loop-round l = Read l.participants.number l.rounds l.round-index l.state.boundaries
