use Rattle.std.proofs.Common.{◌≡◌, ◌+◌, ◌-◌, ◌≤◌, List, length}
use Rattle.scenarios.specs.Counting.{Slot, places_before}
use Rattle.scenarios.specs.Slots.{Holds}
use Rattle.scenarios.proofs.counting.discover.Given as goal

abbrev pub invariant-loop-depth : goal.invariant-loop-depth
invariant-loop-depth l =
    (l.from ≡ length (places_before l.participants.number (l.depth - 1)))
    × ((xs : List Slot) → Holds (places_before l.participants.number 1) l.initial.len xs l.initial.slots → Holds (places_before l.participants.number l.depth) l.len xs l.slots)
    × (l.depth ≤ l.rounds + 1)
