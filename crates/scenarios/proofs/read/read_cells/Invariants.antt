use Rattle.std.proofs.Common.{◌≡◌}
use Rattle.std.specs.Iterator.Adapters.{rev_source, enumerate_source, enumerate_count}
use Rattle.std.specs.Slice.Iter.{iter_rest}
use Rattle.scenarios.proofs.RoundsBack.{LeftTold}
use Rattle.scenarios.proofs.read.read_cells.Given as goal

abbrev pub invariant-loop-i : goal.invariant-loop-i
invariant-loop-i l = (enumerate_count (rev_source l.i-iterator) ≡ 0) × LeftTold l.ranges l.leader_cell l.round (iter_rest (enumerate_source (rev_source l.i-iterator))) l.tally
