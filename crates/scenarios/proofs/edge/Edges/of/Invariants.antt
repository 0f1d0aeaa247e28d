use Rattle.scenarios.proofs.Filling.{PutIn}
use Rattle.scenarios.proofs.edge.Edges.of.Given as goal

abbrev pub invariant-loop-start : goal.invariant-loop-start
invariant-loop-start l = PutIn l.start-items l.cells.items l.start-index
