use Rattle.scenarios.proofs.Drawing.{Coming}
use Rattle.scenarios.proofs.draw.round_at.Given as goal

abbrev pub invariant-loop-i : goal.invariant-loop-i
invariant-loop-i l = Coming l.edges l.rank l.i l.left l.drawn
