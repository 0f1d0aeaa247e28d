use Rattle.std.proofs.Common.{◌≡◌, ◌+◌, ◌*◌, ◌^◌, ◌<◌, ◌≤◌, eqb, length, get_or, ap, ◌∙◌, arith}
use Rattle.scenarios.specs.Cells.{ends}
use Rattle.scenarios.proofs.Drawing.{range_within, split_here, some_refined}
use Rattle.scenarios.proofs.Edging.{Summed, below_here, summed_more, summed_fits, summed_weight, summed_next}
use Rattle.scenarios.proofs.edge.Edges.edge.Goals as goal

here : (c : goal.After-sizes) → c.cell-item.result ≡ get_or c.args.self.now.cells.items c.loop-i.i c.cell-item.result
here c = c.cell-item.is ∙ ap (λ xs. get_or xs c.loop-i.i c.cell-item.result) c.as_slice-cell-items.ensures.value

within : (c : goal.After-sizes) → c.loop-i.i < length c.args.self.now.cells.items
within c = omega (arith, c.loop-i-test.true, ap length c.as_slice-cell-items.ensures.value)

pub add_local_boundaries-ends-requires : goal.add_local_boundaries-ends-requires
add_local_boundaries-ends-requires c =
    let e = c.args.self.now in
    let split = split_here e c.loop-i.i c.cell-item.result (here c) (within c) in
    let r = (range_within e c.loop-i.i c.cell-item.result (here c) (within c)).1 in
    let t = split.whole in
    record {
      below = below_here e c.loop-i.i c.loop-i.ends c.loop-i.multiplicity c.loop-i.invariant c.cell-item.result (here c) (within c);
      filled = rw c.sizes.ensures split.filled;
      within = rw c.sizes.ensures (omega arith);
    }

pub multiplicity-requires : goal.multiplicity-requires
multiplicity-requires c =
    let x = c.cell-item.result in
    let value = c.as_slice-cell-items.ensures.value in
    let here = c.cell-item.is ∙ ap (λ xs. get_or xs c.loop-i.i x) value in
    some_refined (eqb c.loop-i.i c.args.self.now.leader) _ x.split (split_here c.args.self.now c.loop-i.i x here (omega (arith, c.loop-i-test.true, ap length value)))

again : (c : goal.After-multiplicity) → Summed c.args.self.now (c.loop-i.i + 1) c.add_local_boundaries-ends.result (c.loop-i.multiplicity * c.multiplicity.result)
again c =
    let e = c.args.self.now in
    let x = c.cell-item.result in
    let value = c.as_slice-cell-items.ensures.value in
    let here = c.cell-item.is ∙ ap (λ xs. get_or xs c.loop-i.i x) value in
    summed_more e c.loop-i.i c.loop-i.ends c.loop-i.multiplicity c.loop-i.invariant x here (omega (arith, c.loop-i-test.true, ap length value)) c.add_local_boundaries-ends.result (c.loop-i.multiplicity * c.multiplicity.result)
    (c.add_local_boundaries-ends.ensures ∙ ap (λ ps. c.loop-i.ends + 2 ^ x.start * ends ps) c.sizes.ensures)
    (ap (λ k. c.loop-i.multiplicity * k) c.multiplicity.ensures)

pub overflow_mul-multiplicity : goal.overflow_mul-multiplicity
overflow_mul-multiplicity c =
    let b = summed_fits c.args.self.now (c.loop-i.i + 1) c.add_local_boundaries-ends.result (c.loop-i.multiplicity * c.multiplicity.result) (again c) (omega (arith, c.loop-i-test.true, ap length c.as_slice-cell-items.ensures.value)) in
    omega arith

pub loop-i-preserved : goal.loop-i-preserved
loop-i-preserved c = again c

pub returns : goal.returns
returns c =
    let e = c.args.self.now in
    let all : length e.cells.items ≤ c.loop-i.i = omega (arith, c.loop-i-test.false, ap length c.as_slice-cell-items.ensures.value) in
    let b = summed_next e c.loop-i.i c.loop-i.ends c.loop-i.multiplicity c.loop-i.invariant all in
    let w = summed_weight e c.loop-i.i c.loop-i.ends c.loop-i.multiplicity c.loop-i.invariant all in
    λ i. record { next = record { boundaries = b i }; leader = e.leader; multiplicity = w i }
