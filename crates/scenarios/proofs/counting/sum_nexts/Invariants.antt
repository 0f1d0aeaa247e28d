use Rattle.std.proofs.Common.{◌≡◌, ℕ, ◌+◌, ◌<◌, List, length, get_or}
use Rattle.scenarios.specs.Scenarios.{sum_of}
use Rattle.scenarios.specs.Counting.{Slot, places, entry, zero_slot}
use Rattle.scenarios.specs.Slots.{Settled, Finds}
use Rattle.scenarios.specs.Edges.{left_of}
use Rattle.scenarios.proofs.Turning.{share}
use Rattle.scenarios.proofs.counting.sum_nexts.Given as goal

-- the total, with the shares of the turns that are left, makes the count
abbrev pub invariant-loop-total : goal.invariant-loop-total
invariant-loop-total l =
    (xs : List Slot) (i : ℕ) → Settled l.fn.participants.number l.rounds (places l.fn.participants.number l.rounds) l.len (i + 1) xs l.slots → i < l.len → l.place ≡ (get_or l.slots i zero_slot).key
    → Finds (share l.rounds l.place) (l.place.depth + 1) l.len l.slots (left_of l.edges)
    × (l.total + sum_of (share l.rounds l.place) (left_of l.edges) ≡ (entry l.fn.participants.number l.rounds l.place).value)

abbrev pub decreases-loop-total : goal.decreases-loop-total
decreases-loop-total l = length (left_of l.edges)
