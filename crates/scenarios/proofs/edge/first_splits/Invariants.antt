use Rattle.scenarios.proofs.Filling.{FirstIn}
use Rattle.scenarios.proofs.edge.first_splits.Given as goal

abbrev pub invariant-loop-i : goal.invariant-loop-i
invariant-loop-i l = FirstIn l.leader l.initial.cells l.cells l.i
