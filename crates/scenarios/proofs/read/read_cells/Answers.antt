use Rattle.std.proofs.Common.{sym, ◌∙◌, subst, arith}
use Rattle.std.specs.Iterator.Adapters.{enumerate_source, rev_source}
use Rattle.std.specs.Slice.Iter.{iter_rest}
use Rattle.scenarios.specs.Edges.{sizes_of}
use Rattle.scenarios.specs.Readings.{CellsRead}
use Rattle.scenarios.proofs.RoundsBack.{LastLeft, left_last, last_bounds, last_placed, last_refused, last_fits, left_more}
use Rattle.scenarios.proofs.read.read_cells.Goals as goal

last : (c : goal.In-Some) → LastLeft c.args.ranges.now c.args.leader_cell c.args.round.now c.in-Some.i (iter_rest (enumerate_source (rev_source c.next.new.self))) c.in-Some.field-0-1.now c.loop-i.tally
last c = let steps = c.in-Some.ensures.steps in left_last c.args.ranges.now c.args.leader_cell c.args.round.now c.requires c.in-Some.i _ _ _ _ c.loop-i.tally c.loop-i.invariant.0 c.loop-i.invariant.1 steps.1.0 steps.1.1

pub read_cell-requires : goal.read_cell-requires
read_cell-requires c = record {
  within = last_bounds c.args.ranges.now c.args.leader_cell c.args.round.now c.requires c.in-Some.i _ _ c.loop-i.tally (last c);
  placed = last_placed c.args.ranges.now c.args.leader_cell c.args.round.now c.requires c.in-Some.i _ _ c.loop-i.tally (last c);
}

pub returns-in_err-refinement : goal.returns-in_err-refinement
returns-in_err-refinement c =
    let steps = c.in-Some.ensures.steps in
    let last = left_last c.args.ranges.now c.args.leader_cell c.args.round.now c.requires c.in-Some.i _ _ _ _ c.loop-i.tally c.loop-i.invariant.0 c.loop-i.invariant.1 steps.1.0 steps.1.1 in
    subst (CellsRead c.args.round.now c.args.leader_cell (sizes_of c.args.ranges.now)) (sym c.from_residual.ensures) (last_refused c.args.ranges.now c.args.leader_cell c.args.round.now c.requires c.in-Some.i _ _ c.loop-i.tally last c.in_err-refinement.ensures)

pub add_cell-tally-requires-clause-within : goal.add_cell-tally-requires-clause-within
add_cell-tally-requires-clause-within c =
    let steps = c.in-Some.ensures.steps in
    let last = left_last c.args.ranges.now c.args.leader_cell c.args.round.now c.requires c.in-Some.i _ _ _ _ c.loop-i.tally c.loop-i.invariant.0 c.loop-i.invariant.1 steps.1.0 steps.1.1 in
    let bounds = last_bounds c.args.ranges.now c.args.leader_cell c.args.round.now c.requires c.in-Some.i _ _ c.loop-i.tally last in
    omega (arith, c.in_ok-refinement.ensures.split.whole, bounds.1)

pub add_cell-tally-requires-clause-fits : goal.add_cell-tally-requires-clause-fits
add_cell-tally-requires-clause-fits c =
    let steps = c.in-Some.ensures.steps in
    let last = left_last c.args.ranges.now c.args.leader_cell c.args.round.now c.requires c.in-Some.i _ _ _ _ c.loop-i.tally c.loop-i.invariant.0 c.loop-i.invariant.1 steps.1.0 steps.1.1 in
    last_fits c.args.ranges.now c.args.leader_cell c.args.round.now c.requires c.in-Some.i _ _ c.loop-i.tally last c.in_ok-refinement.refinement c.in_ok-refinement.digit c.in_ok-refinement.ensures

pub loop-i-preserved : goal.loop-i-preserved
loop-i-preserved c =
    let steps = c.in-Some.ensures.steps in
    let last = left_last c.args.ranges.now c.args.leader_cell c.args.round.now c.requires c.in-Some.i _ _ _ _ c.loop-i.tally c.loop-i.invariant.0 c.loop-i.invariant.1 steps.1.0 steps.1.1 in
    (steps.0 ∙ c.loop-i.invariant.0, left_more c.args.ranges.now c.args.leader_cell c.args.round.now c.requires c.in-Some.i _ _ c.loop-i.tally last c.in_ok-refinement.refinement c.in_ok-refinement.digit c.in_ok-refinement.ensures c.add_cell-tally.result c.add_cell-tally.ensures)
