use Rattle.scenarios.proofs.Edging.{Summed}
use Rattle.scenarios.proofs.edge.Edges.edge.Given as goal

abbrev pub invariant-loop-i : goal.invariant-loop-i
invariant-loop-i l = Summed l.self l.i l.ends l.multiplicity
