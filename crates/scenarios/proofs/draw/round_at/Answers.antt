use Rattle.std.proofs.Common.{◌%◌, ◌<◌, eqb, length, get_or, ap, ◌∙◌, arith}
use Rattle.scenarios.proofs.Drawing.{leader_within, range_within, split_here, below_here, some_refined, ways_small, digit_of, coming_first, coming_more, coming_all}
use Rattle.scenarios.proofs.draw.round_at.Goals as goal

pub overflow_add-drawn : goal.overflow_add-drawn
overflow_add-drawn c =
    let e = c.args.edges.now in
    let x = c.index-cells-edges.result in
    let r = range_within e e.leader x (c.index-cells-edges.is ∙ ap (λ xs. get_or xs e.leader x) c.as_slice-cells.ensures.value) (leader_within e) in
    omega arith

pub overflow_sub-drawn : goal.overflow_sub-drawn
overflow_sub-drawn c =
    let e = c.args.edges.now in
    let x = c.index-cells-edges.result in
    (range_within e e.leader x (c.index-cells-edges.is ∙ ap (λ xs. get_or xs e.leader x) c.as_slice-cells.ensures.value) (leader_within e)).0

pub loop-i-init : goal.loop-i-init
loop-i-init c =
    let e = c.args.edges.now in
    let x = c.index-cells-edges.result in
    coming_first e c.args.rank c.requires x (c.index-cells-edges.is ∙ ap (λ xs. get_or xs e.leader x) c.as_slice-cells.ensures.value)

pub multiplicity-space-requires : goal.multiplicity-space-requires
multiplicity-space-requires c =
    let e = c.args.edges.now in
    let x = c.index-cells-i.result in
    let value = c.as_slice-cells.ensures.value in
    let here = c.index-cells-i.is ∙ ap (λ xs. get_or xs c.loop-i.i x) value in
    some_refined (eqb c.loop-i.i e.leader) _ x.split (split_here e c.loop-i.i x here (omega (arith, c.loop-i-test.true, ap length value)))

digit : (c : goal.After-draw_cell-arg-1) → (0 < c.multiplicity-space.result) × (c.loop-i.left % c.multiplicity-space.result < 18)
digit c =
    let e = c.args.edges.now in
    let x = c.index-cells-i.result in
    let value = c.as_slice-cells.ensures.value in
    let here = c.index-cells-i.is ∙ ap (λ xs. get_or xs c.loop-i.i x) value in
    let q = c.multiplicity-space.ensures in
    let h = digit_of e c.loop-i.i x here (omega (arith, c.loop-i-test.true, ap length value)) c.args.rank c.loop-i.left c.loop-i.drawn c.loop-i.invariant c.multiplicity-space.result q in
    let s = ways_small e c.loop-i.i x in
    (omega arith, omega arith)

pub nonzero_rem-left : goal.nonzero_rem-left
nonzero_rem-left c = (digit c).0

pub overflow_cast-left : goal.overflow_cast-left
overflow_cast-left c = let h = (digit c).1 in omega arith

pub draw_cell-drawn-requires : goal.draw_cell-drawn-requires
draw_cell-drawn-requires c =
    let e = c.args.edges.now in
    let i = c.loop-i.i in
    let x = c.index-cells-i.result in
    let value = c.as_slice-cells.ensures.value in
    let here = c.index-cells-i.is ∙ ap (λ xs. get_or xs i x) value in
    let within : i < length e.cells.items = omega (arith, c.loop-i-test.true, ap length value) in
    record {
      below = below_here e i x here within c.args.rank c.loop-i.left c.loop-i.drawn c.loop-i.invariant;
      whole = split_here e i x here within;
      within = (range_within e i x here within).1;
      choice = digit_of e i x here within c.args.rank c.loop-i.left c.loop-i.drawn c.loop-i.invariant c.multiplicity-space.result c.multiplicity-space.ensures;
    }

pub nonzero_div-left : goal.nonzero_div-left
nonzero_div-left c =
    let e = c.args.edges.now in
    let x = c.index-cells-i.result in
    let value = c.as_slice-cells.ensures.value in
    let here = c.index-cells-i.is ∙ ap (λ xs. get_or xs c.loop-i.i x) value in
    let q = c.multiplicity-space.ensures in
    let h = digit_of e c.loop-i.i x here (omega (arith, c.loop-i-test.true, ap length value)) c.args.rank c.loop-i.left c.loop-i.drawn c.loop-i.invariant c.multiplicity-space.result q in
    omega arith

pub loop-i-preserved : goal.loop-i-preserved
loop-i-preserved c =
    let e = c.args.edges.now in
    let x = c.index-cells-i.result in
    let value = c.as_slice-cells.ensures.value in
    let here = c.index-cells-i.is ∙ ap (λ xs. get_or xs c.loop-i.i x) value in
    coming_more e c.loop-i.i x here (omega (arith, c.loop-i-test.true, ap length value)) c.args.rank c.loop-i.left c.loop-i.drawn c.loop-i.invariant
    c.draw_cell-drawn.result c.multiplicity-space.result c.multiplicity-space.ensures c.draw_cell-drawn.ensures

pub returns : goal.returns
returns c =
    coming_all c.args.edges.now c.args.rank c.requires c.loop-i.i c.loop-i.left c.loop-i.drawn (omega (arith, c.loop-i-test.false, ap length c.as_slice-cells.ensures.value)) c.loop-i.invariant
