use Rattle.std.proofs.Common.{length, take}
use Rattle.std.specs.Iterator.Adapters.{zip_first, zip_second}
use Rattle.std.specs.Slice.Iter.{iter_rest}
use Rattle.scenarios.specs.Letters.{grown}
use Rattle.scenarios.specs.Turns.{spell}
use Rattle.scenarios.specs.Roles.{letters}
use Rattle.scenarios.proofs.Drawing.{Left}
use Rattle.scenarios.proofs.draw.draw_parts.Given as goal

abbrev pub invariant-loop-part : goal.invariant-loop-part
invariant-loop-part l =
    Left (grown l.fn.round l.fn.start (spell l.fn.parts (letters (take (length l.fn.parts) l.fn.roles)))) (iter_rest (zip_first l.part-iterator)) (iter_rest (zip_second l.part-iterator)) l.at l.drawn
