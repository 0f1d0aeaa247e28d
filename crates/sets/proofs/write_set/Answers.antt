use Rattle.std.proofs.Common.{◌<◌, ◌≤◌, ◌++◌, length, drop, refl, ap, ◌∙◌, arith}
use Rattle.scenarios.specs.Cells.{cells}
use Rattle.sets.specs.Sets.{sets}
use Rattle.sets.proofs.Cellwise.{row_filled, row_small}
use Rattle.sets.proofs.Campaigns.{faults_few, cells_in_row, sets_counted, set_allocated, no_such_number, no_fault}
use Rattle.sets.proofs.write_set.Goals as goal

pub count_ways-requires : goal.count_ways-requires
count_ways-requires c =
    let told = c.in_ok-cells.ensures in
    let row = cells_in_row c.args.participants c.args.faults c.args.state.boundaries _ told.0 (c.as_slice-cells.ensures.value ∙ told.1) in
    let small = row_small row.0 _ row.1 in
    record { filled = row_filled row.0 _ row.1; small = omega arith }

pub returns-then-number-count_ways : goal.returns-then-number-count_ways
returns-then-number-count_ways c =
    let n = c.args.participants in
    let f = c.args.faults in
    let s = c.args.state.boundaries in
    let told = c.in_ok-cells.ensures in
    let count = sets_counted n f s _ c.count_ways.result told.0 (c.as_slice-cells.ensures.value ∙ told.1) c.count_ways.ensures in
    let high : length (sets (cells n s) f) ≤ c.args.number = omega arith in
    (no_such_number n f s c.args.number (length c.args.members.now) told.0 c.if-members-faults.false high, refl)

pub allocate_faults-requires : goal.allocate_faults-requires
allocate_faults-requires c =
    let n = c.args.participants in
    let f = c.args.faults in
    let s = c.args.state.boundaries in
    let told = c.in_ok-cells.ensures in
    let few = faults_few n f told.0 in
    let count = c.count_ways.ensures f few in
    record { row = cells_in_row n f s _ told.0 (c.as_slice-cells.ensures.value ∙ told.1); few = few; room = c.if-members-faults.false; numbered = omega arith }

pub returns : goal.returns
returns c =
    let n = c.args.participants in
    let f = c.args.faults in
    let s = c.args.state.boundaries in
    let told = c.in_ok-cells.ensures in
    let is = c.as_slice-cells.ensures.value ∙ told.1 in
    let count = sets_counted n f s _ c.count_ways.result told.0 is c.count_ways.ensures in
    let low : c.args.number < length (sets (cells n s) f) = omega arith in (
      no_fault n f s c.args.number (length c.args.members.now) told.0 c.if-members-faults.false low,
      c.allocate_faults.ensures ∙ ap (λ l. l ++ drop f c.args.members.now) (set_allocated n f s c.args.number _ is low),
    )
