use Rattle.std.proofs.Common.{◌≡◌, ◌+◌, ◌-◌, ◌≤◌}
use Rattle.sampling.proofs.Turns.{PartSampled}
use Rattle.sampling.proofs.sample.sample_unique_indices.Given as goal

-- the numbers up to the bounds below the next one are drawn, and the iterator counts them
abbrev pub invariant-loop-len : goal.invariant-loop-len
invariant-loop-len g l =
    PartSampled l.total l.many (g.S.Source.coming l.initial.source) l.initial.ranks l.len-iterator.iter.start (g.S.Source.coming l.source) l.ranks
    × (l.len-iterator.iter.start ≡ l.total - l.many + l.len-iterator.count)
    × (l.len-iterator.iter.end ≡ l.total)
    × (l.len-iterator.iter.start ≤ l.total)
