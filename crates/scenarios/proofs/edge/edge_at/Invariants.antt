use Rattle.std.proofs.Common.{◌≡◌, drop}
use Rattle.scenarios.specs.Edges.{left_of}
use Rattle.scenarios.proofs.edge.edge_at.Given as goal

abbrev pub invariant-loop : goal.invariant-loop
invariant-loop l = left_of l.edges ≡ drop l.counter (left_of l.initial.edges)
