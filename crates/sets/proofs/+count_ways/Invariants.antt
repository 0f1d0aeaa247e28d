use Rattle.std.proofs.Common.{length}
use Rattle.sets.proofs.+count_ways.Given as goal

abbrev pub decreases-count_ways : goal.decreases-count_ways
decreases-count_ways l = length l.cells.now
