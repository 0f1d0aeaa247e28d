use Rattle.scenarios.proofs.Ranking.{Ranking}
use Rattle.scenarios.proofs.suffixes.SuffixCounts.rank.Given as goal

abbrev pub invariant-loop-depth : goal.invariant-loop-depth
invariant-loop-depth l = Ranking l.self.participants.number l.script l.depth l.state.boundaries l.rank
