use Rattle.std.proofs.Common.{◌++◌, ◌<◌, drop, length, sym, ap, ◌∙◌, subst, arith}
use Rattle.sets.specs.Sets.{amounts}
use Rattle.sets.specs.Ways.{sizes, InRow, allocated}
use Rattle.sets.proofs.Cellwise.{row_filled, row_small, cells_none, cells_more}
use Rattle.sets.proofs.Ways.{ways_more}
use Rattle.sets.proofs.Allocating.{allocated_none, allocated_written, cell_fits}
use Rattle.sets.proofs.+allocate_faults.Goals as goal

pub returns-in_default : goal.returns-in_default
returns-in_default t c =
    let none = cells_none c.args.cells.now c.in_default.len_below in
    allocated_none c.args.faults c.args.number c.args.members.now (subst (λ rs. c.args.number < length (amounts (sizes rs) c.args.faults)) none c.requires.numbered)
    ∙ ap (λ rs. allocated rs c.args.faults c.args.number ++ drop c.args.faults c.args.members.now) (sym none)

pub count_ways-requires : goal.count_ways-requires
count_ways-requires t c =
    let row = subst InRow (cells_more c.args.cells.now c.in-len1-up.len_at_least) c.requires.row in
    let small = row_small _ _ row.1.2 in
    record { filled = row_filled _ _ row.1.2; small = omega arith }

pub find_taken-taken-requires : goal.find_taken-taken-requires
find_taken-taken-requires t c =
    let e = cells_more c.args.cells.now c.in-len1-up.len_at_least in
    let below = subst (λ rs. c.args.number < length (amounts (sizes rs) c.args.faults)) e c.requires.numbered in
    record { few = c.requires.few; numbered = subst (λ n. c.args.number < n) (sym (ways_more c.count_ways.result _ _ c.count_ways.ensures c.args.faults c.requires.few)) below }

pub write_members-requires : goal.write_members-requires
write_members-requires t c =
    let found = c.find_taken-taken in
    let within = found.ensures.within in
    let e = cells_more c.args.cells.now c.in-len1-up.len_at_least in
    record {
      room = omega arith;
      small = cell_fits _ _ c.args.faults c.args.number found.result.0 found.result.1 c.count_ways.result c.requires.few c.count_ways.ensures within found.ensures.below found.ensures.split (subst InRow e c.requires.row);
    }

pub returns : goal.returns
returns t c =
    let found = c.find_taken-taken in
    let e = cells_more c.args.cells.now c.in-len1-up.len_at_least in
    allocated_written _ _ c.args.faults c.args.number found.result.0 found.result.1 c.count_ways.result c.requires.few c.count_ways.ensures found.ensures.within found.ensures.below found.ensures.split
    c.args.members.now c.write_members.new.members c.allocate_faults.new.members c.requires.room c.write_members.ensures c.allocate_faults.ensures
    ∙ ap (λ rs. allocated rs c.args.faults c.args.number ++ drop c.args.faults c.args.members.now) (sym e)
