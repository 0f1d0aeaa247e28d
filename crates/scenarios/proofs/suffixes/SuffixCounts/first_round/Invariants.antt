use Rattle.std.proofs.Common.{◌≡◌, ◌+◌, ◌-◌, length}
use Rattle.scenarios.specs.Cells.{cells}
use Rattle.scenarios.specs.Edges.{cells_at, left_of}
use Rattle.scenarios.proofs.Locating.{Seeking}
use Rattle.scenarios.proofs.suffixes.SuffixCounts.first_round.Given as goal

-- what is left of the rank leads to the same turn
abbrev pub invariant-loop-left : goal.invariant-loop-left
invariant-loop-left l =
    let cs = cells l.self.participants.number l.fn.place.state.boundaries in
    (cells_at l.edges ≡ cs) × Seeking (l.self.rounds - (l.place.depth + 1)) cs l.fn.rank (left_of l.edges) l.left

abbrev pub decreases-loop-left : goal.decreases-loop-left
decreases-loop-left l = length (left_of l.edges)
