use Rattle.std.proofs.Common.{List}
use Rattle.scenarios.specs.Counting.{Slot, places}
use Rattle.scenarios.specs.Slots.{Holds, Settled}
use Rattle.scenarios.proofs.counting.settle.Given as goal

abbrev pub invariant-loop-i : goal.invariant-loop-i
invariant-loop-i l = (xs : List Slot) → Holds (places l.participants.number l.rounds) l.len xs l.initial.slots
    → Settled l.participants.number l.rounds (places l.participants.number l.rounds) l.len l.i xs l.slots
