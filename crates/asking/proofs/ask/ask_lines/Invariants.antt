use Rattle.std.proofs.Common.{string_bytes}
use Rattle.std.specs.Iterator.{IsFinite}
use Rattle.asking.proofs.Answering.{SoFar}
use Rattle.asking.proofs.ask.ask_lines.Given as goal

abbrev pub invariant-loop-line : goal.invariant-loop-line
invariant-loop-line g l =
    g.L.Iterator.can_next l.line-iterator
    × IsFinite (g.L.Iterator.remaining l.line-iterator)
    × SoFar g.Q.Question.word g.Q.Question.kinds g.Q.PartialEq.eq string_bytes (g.W.Write.contents l.fn.out) l.yielded l.number l.tallies.each.items (g.W.Write.contents l.out)
