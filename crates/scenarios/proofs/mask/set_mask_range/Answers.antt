use Rattle.std.proofs.Common.{arith}
use Rattle.scenarios.proofs.Bits.{range_set}
use Rattle.scenarios.proofs.mask.set_mask_range.Goals as goal

pub returns : goal.returns
returns c = range_set c.args.mask c.args.start c.args.len c.requires.below c.requires.within (omega arith)
