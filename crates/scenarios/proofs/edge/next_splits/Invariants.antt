use Rattle.scenarios.proofs.Filling.{BackIn}
use Rattle.scenarios.proofs.edge.next_splits.Given as goal

abbrev pub invariant-loop-i : goal.invariant-loop-i
invariant-loop-i l = BackIn l.leader l.initial.cells l.cells l.i
