use Rattle.scenarios.proofs.Stepping.{Unranked}
use Rattle.scenarios.proofs.suffixes.SuffixCounts.unrank.Given as goal

abbrev pub invariant-loop-depth : goal.invariant-loop-depth
invariant-loop-depth l = Unranked l.self.participants.number l.self.rounds l.fn.rank l.initial.round-items l.round-items l.depth l.state.boundaries l.left
