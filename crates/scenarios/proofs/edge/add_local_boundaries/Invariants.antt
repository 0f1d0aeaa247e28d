use Rattle.std.proofs.Common.{◌≡◌, ◌+◌, ◌*◌, ◌^◌, ◌<◌, take}
use Rattle.scenarios.specs.Cells.{total, ends}
use Rattle.scenarios.proofs.edge.add_local_boundaries.Given as goal

abbrev pub invariant-loop-part : goal.invariant-loop-part
invariant-loop-part l =
    (l.end ≡ l.start + total (take l.part-index l.parts))
    × (l.out ≡ l.mask + 2 ^ l.start * ends (take l.part-index l.parts))
    × (l.out < 2 ^ l.end)
