use Rattle.std.proofs.Common.{◌-◌, List, take, drop}
use Rattle.std.specs.List.{flat_map}
use Rattle.scenarios.specs.declared.counting.Place.{Place}
use Rattle.scenarios.specs.Counting.{Slot, noted, same_place}
use Rattle.scenarios.specs.Slots.{Holds, afters}
use Rattle.scenarios.proofs.counting.note_layer.Given as goal

abbrev pub invariant-loop-i : goal.invariant-loop-i
invariant-loop-i l = (ps : List Place) (xs : List Slot) → Holds ps l.len xs l.initial.slots
    → Holds (noted same_place ps (flat_map (afters l.participants.number l.depth) (take (l.i - l.from) (drop l.from ps)))) l.used xs l.slots
