use Rattle.std.proofs.Common.{◌<◌, ◌≤◌, cond, eqb, ◌≡◌, length, subst, sym, ap, ◌∙◌, rules, arith}
use borrow.Author.Tests.{tests}
use Rattle.std.specs.List.{AllByRecursion}
use Rattle.scenarios.specs.Cells.{total}
use Rattle.sets.proofs.Made.{made}
use Rattle.sets.specs.Ways.{sizes, Ways}
use Rattle.sets.specs.Sets.{amounts}
use Rattle.sets.proofs.Cellwise.{cells_none, cells_more}
use Rattle.sets.proofs.Ways.{ways_of_none, ways_more, ways_fit}
use Rattle.sets.proofs.+count_ways.Goals as goal

pub returns-in_default : goal.returns-in_default
returns-in_default t c =
    subst (λ rs. Ways c.from_fn.result (sizes rs)) (sym (cells_none c.args.cells.now c.in_default.len_below))
    (λ k h. made _ _ (λ k y. y ≡ cond (eqb k 0) 1 0) (λ k y q t. search (rules, tests)) c.from_fn.result 64 c.from_fn.ensures.items k 0 h ∙ sym (ways_of_none k))

pub count_ways-requires : goal.count_ways-requires
count_ways-requires t c =
    let e = cells_more c.args.cells.now c.in-len1-up.len_at_least in
    let all = subst (λ rs. total (sizes rs) ≤ 64) e c.requires.small in
    (search rules, ((subst (λ rs. AllByRecursion (λ c. 0 < c) (sizes rs)) e c.requires.filled).1, omega arith))

pub with_cell-requires : goal.with_cell-requires
with_cell-requires t c =
    let e = cells_more c.args.cells.now c.in-len1-up.len_at_least in
    let filled = subst (λ rs. AllByRecursion (λ c. 0 < c) (sizes rs)) e c.requires.filled in
    let small = subst (λ rs. total (sizes rs) ≤ 64) e c.requires.small in
    ways_fit c.count_ways.result _ _ filled small c.count_ways.ensures

pub returns : goal.returns
returns t c k h =
    let rs = c.args.cells.now in
    c.with_cell.ensures k h ∙ ways_more c.count_ways.result _ _ c.count_ways.ensures k h ∙ ap (λ rs. length (amounts (sizes rs) k)) (sym (cells_more rs c.in-len1-up.len_at_least))
