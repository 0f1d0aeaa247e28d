use Rattle.std.proofs.Common.{◌≡◌, ◌+◌, length}
use Rattle.sets.specs.Ways.{ways_below}
use Rattle.sets.proofs.find_taken.Given as goal

abbrev pub invariant-loop-taken : goal.invariant-loop-taken
invariant-loop-taken l =
    (goal.iterator-loop-taken).can_next l.taken-iterator
    × (goal.iterator-loop-taken).is_finite l.taken-iterator
    × (l.number ≡ ways_below l.rest l.faults (length l.yielded) + l.left)
