use Rattle.std.proofs.Common.{◌≡◌, ℕ, arith}
use Rattle.scenarios.proofs.Filling.{step_split, step_small, step_some, step_placed, step_none}
use Rattle.scenarios.proofs.edge.next_splits.Goals as goal

pub next-requires : goal.next-requires
next-requires c = record {
  split = step_split c.args.leader c.args.cells.now c.loop-i.cells c.loop-i.i _ (omega arith) (omega arith) c.loop-i.invariant c.requires.filled;
  within = step_small c.args.leader c.args.cells.now c.loop-i.cells c.loop-i.i _ (omega arith) (omega arith) c.loop-i.invariant c.requires.small;
}

pub returns-in-Some : goal.returns-in-Some
returns-in-Some c = record {
  stepped = step_some c.args.leader c.args.cells.now c.loop-i.cells c.loop-i.i _ (omega arith) (omega arith) c.loop-i.invariant c.in-Some.split c.in-Some.ensures;
  again = λ q. absurd (let z : ◌≡◌ {A = ℕ} 0 1 = cc in omega arith);
  placed = step_placed c.args.leader c.args.cells.now c.loop-i.cells c.loop-i.i _ (omega arith) (omega arith) c.loop-i.invariant c.in-Some.split;
}

pub first-cell-requires : goal.first-cell-requires
first-cell-requires c = (step_small c.args.leader c.args.cells.now c.loop-i.cells c.loop-i.i _ (omega arith) (omega arith) c.loop-i.invariant c.requires.small).0

pub loop-i-preserved : goal.loop-i-preserved
loop-i-preserved c = step_none c.args.leader c.args.cells.now c.loop-i.cells c.loop-i.i _ (omega arith) (omega arith) c.loop-i.invariant c.first-cell.result c.in-None.ensures c.first-cell.ensures
