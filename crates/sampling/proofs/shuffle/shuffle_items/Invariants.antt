use Rattle.sampling.proofs.Exchanging.{PartShuffled}
use Rattle.sampling.proofs.shuffle.shuffle_items.Given as goal

abbrev pub invariant-loop-i : goal.invariant-loop-i
invariant-loop-i g l = PartShuffled l.initial.items (g.S.Source.coming l.initial.source) l.i (g.S.Source.coming l.source) l.items
