use Rattle.std.proofs.Common.{false}
use Rattle.asking.proofs.ask.answer_line.Goals as goal

pub returns-in_ok-writeln : goal.returns-in_ok-writeln
returns-in_ok-writeln g c = (false, rw c.if-not-branch.true at c.in_ok-ask.ensures.agreed, c.in_ok-writeln.ensures.bytes)
