use Rattle.std.proofs.Common.{◌∙◌, arith}
use Rattle.scenarios.specs.Cells.{cells}
use Rattle.sets.proofs.Cellwise.{row_filled, row_small}
use Rattle.sets.proofs.Campaigns.{cells_in_row, cells_whole, sets_counted}
use Rattle.sets.proofs.Corresponding.{sets_correspond}
use Rattle.sets.proofs.Sufficing.{sets_suffice}
use Rattle.sets.proofs.count_sets.Goals as goal

pub count_ways-requires : goal.count_ways-requires
count_ways-requires c =
    let told = c.in_ok-cells.ensures in
    let row = cells_in_row c.args.participants c.args.faults c.args.state.boundaries _ told.0 (c.as_slice.ensures.value ∙ told.1) in
    let small = row_small row.0 _ row.1 in
    record { filled = row_filled row.0 _ row.1; small = omega arith }

pub returns : goal.returns
returns c =
    let n = c.args.participants in
    let f = c.args.faults in
    let s = c.args.state.boundaries in
    let told = c.in_ok-cells.ensures in
    (told.0, sets_counted n f s _ c.count_ways.result told.0 (c.as_slice.ensures.value ∙ told.1) c.count_ways.ensures, sets_correspond n f (cells n s) (cells_whole n f s told.0), sets_suffice n f (cells n s))
