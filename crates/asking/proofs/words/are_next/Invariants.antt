use Rattle.std.proofs.Common.{drop}
use Rattle.asking.specs.Words.{AreNext}
use Rattle.asking.proofs.words.are_next.Given as goal

-- what comes of the items that are left comes of all
abbrev pub invariant-loop-item : goal.invariant-loop-item
invariant-loop-item g l =
    (r : _) (t : _) → AreNext g.T.FromStr.from_str_gives g.T.PartialEq.eq l.words (drop l.item-index l.items) r t
    → AreNext g.T.FromStr.from_str_gives g.T.PartialEq.eq l.initial.words l.items r t
