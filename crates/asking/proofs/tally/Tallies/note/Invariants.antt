use Rattle.std.proofs.Common.{◌≡◌, ◌++◌, map, take, drop}
use Rattle.asking.specs.Tallies.{told_of}
use Rattle.asking.proofs.tally.Tallies.note.Given as goal

abbrev pub invariant-loop-of : goal.invariant-loop-of
invariant-loop-of g l =
    l.of-items ≡ map (told_of g.Q.PartialEq.eq l.kind l.agrees) (take l.of-index l.initial.of-items) ++ drop l.of-index l.initial.of-items
