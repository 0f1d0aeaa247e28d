use Rattle.std.proofs.Common.{◌≡◌, ◌-◌, ◌≤◌}
use Rattle.std.specs.List.{slice_get}
use Rattle.scenarios.specs.Turns.{choices}
use Rattle.scenarios.proofs.Subsets.{choices_from}
use Rattle.scenarios.proofs.role.kth_mask.Given as goal

abbrev pub invariant-loop-mask : goal.invariant-loop-mask
invariant-loop-mask l = (l.mask ≤ 16) × (slice_get (choices_from l.len l.mask) l.left ≡ slice_get (choices l.len) l.rank)

abbrev pub decreases-loop-mask : goal.decreases-loop-mask
decreases-loop-mask l = 16 - l.mask
