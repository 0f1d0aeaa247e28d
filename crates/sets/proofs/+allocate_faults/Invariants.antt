use Rattle.std.proofs.Common.{length}
use Rattle.sets.proofs.+allocate_faults.Given as goal

abbrev pub decreases-allocate_faults : goal.decreases-allocate_faults
decreases-allocate_faults l = length l.cells.now
