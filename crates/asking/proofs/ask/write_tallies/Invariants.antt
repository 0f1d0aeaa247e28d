use Rattle.std.proofs.Common.{ℕ, List, Option, drop}
use Rattle.std.specs.Io.KnownBytes.{Appends}
use Rattle.asking.specs.Lines.{closing}
use Rattle.asking.proofs.ask.write_tallies.Given as goal

-- what comes of the tallies that are left comes of all
abbrev pub invariant-loop-kind : goal.invariant-loop-kind
invariant-loop-kind g l =
    (end : Option (List ℕ)) → Appends (g.W.Write.contents l.out) end (closing g.Q.Question.word (drop l.kind-index l.kind-items))
    → Appends (g.W.Write.contents l.fn.out) end (closing g.Q.Question.word l.kind-items)
