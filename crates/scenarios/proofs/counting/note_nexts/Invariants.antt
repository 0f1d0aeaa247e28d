use Rattle.std.proofs.Common.{◌≡◌, List, map, length}
use Rattle.scenarios.specs.declared.counting.Place.{Place}
use Rattle.scenarios.specs.Counting.{Slot, noted, same_place}
use Rattle.scenarios.specs.Slots.{Holds, turned}
use Rattle.scenarios.specs.Edges.{left_of}
use Rattle.scenarios.proofs.counting.note_nexts.Given as goal

-- what is held, with the places after the turns that are left, makes what is asked
abbrev pub invariant-loop-used : goal.invariant-loop-used
invariant-loop-used l =
    (ps : List Place) (xs : List Slot) → Holds ps l.len xs l.initial.slots
    → (qs : List Place) × Holds qs l.used xs l.slots
    × (noted same_place qs (map (turned l.depth) (left_of l.edges)) ≡ noted same_place ps (map (turned l.depth) (left_of l.initial.edges)))

abbrev pub decreases-loop-used : goal.decreases-loop-used
decreases-loop-used l = length (left_of l.edges)
