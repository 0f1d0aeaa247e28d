use Rattle.std.proofs.Common.{take}
use Rattle.views.specs.Groups.{picked}
use Rattle.views.proofs.Writing.{Put}
use Rattle.views.proofs.picked.fill.Given as goal

abbrev pub invariant-loop-i : goal.invariant-loop-i
invariant-loop-i g l =
    Put (picked l.round.primary 0 (take l.i l.names)) l.initial.primary l.p l.primary
    × Put (picked l.round.secondary 0 (take l.i l.names)) l.initial.secondary l.s l.secondary
