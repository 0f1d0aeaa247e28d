use Rattle.std.proofs.Common.{◌+◌, ◌-◌, length}
use Rattle.scenarios.specs.Edges.{left_of}
use Rattle.scenarios.proofs.Passing.{Passing}
use Rattle.scenarios.proofs.suffixes.SuffixCounts.rank_before.Given as goal

abbrev pub invariant-loop-edge : goal.invariant-loop-edge
invariant-loop-edge l = Passing (l.self.rounds - (l.place.depth + 1)) l.self.participants.number l.fn.place.state.boundaries l.read l.edges l.before

abbrev pub decreases-loop-edge : goal.decreases-loop-edge
decreases-loop-edge l = length (left_of l.edges)
