use Rattle.std.proofs.Common.{◌≤◌, ◌++◌, length}
use Rattle.std.specs.Str.Iter.{split_whitespace_rest}
use Rattle.asking.specs.Words.{ReadsWhile, ReadsMany}
use Rattle.asking.proofs.words.read_while.Given as goal

-- what comes of the words that are left comes of all, behind the items so far, which are no more than the most
abbrev pub invariant-loop-word : goal.invariant-loop-word
invariant-loop-word g l =
    (length l.items.items ≤ l.most)
    × ((xs : _) (end : _) (t : _) → ReadsWhile g.T.FromStr.from_str_gives l.words xs end t
    → ReadsWhile g.T.FromStr.from_str_gives l.initial.words (l.items.items ++ xs) end t)
    × ((xs : _) (t : _) → ReadsMany g.T.FromStr.from_str_gives l.words xs t
    → ReadsMany g.T.FromStr.from_str_gives l.initial.words (l.items.items ++ xs) t)

abbrev pub decreases-loop-word : goal.decreases-loop-word
decreases-loop-word g l = length (split_whitespace_rest l.words)
