use Rattle.std.proofs.Common.{arith}
use Rattle.scenarios.proofs.Filling.{first_small, first_more, first_ends}
use Rattle.scenarios.proofs.edge.first_splits.Goals as goal

pub first-cell-requires : goal.first-cell-requires
first-cell-requires c = first_small c.args.leader c.args.cells.now c.loop-i.cells c.loop-i.i _ (omega arith) c.loop-i.invariant c.requires.small

pub loop-i-preserved : goal.loop-i-preserved
loop-i-preserved c = first_more c.args.leader c.args.cells.now c.loop-i.cells c.loop-i.i _ (omega arith) c.loop-i.invariant c.first-cell.result c.first-cell.ensures

pub returns-clause-begun : goal.returns-clause-begun
returns-clause-begun c = first_ends c.args.leader c.args.cells.now c.loop-i.cells c.loop-i.i (omega arith) (omega arith) c.loop-i.invariant
