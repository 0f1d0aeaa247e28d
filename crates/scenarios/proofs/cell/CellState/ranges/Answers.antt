use Rattle.std.proofs.Common.{◌≡◌, ℕ, ◌+◌, ◌-◌, Bool, false, List, map, length, get_or, sym, refl, ◌∙◌, arith}
use Rattle.std.specs.List.{range_with_len}
use Rattle.std.proofs.lemmas.List.{length_push}
use Rattle.std.proofs.lemmas.List.FromFn.{get_or-map-range_with_len, length-map-range_with_len}
use Rattle.scenarios.specs.Masks.{bit}
use Rattle.scenarios.specs.Cells.{cells}
use Rattle.scenarios.proofs.Ranging.{ranged_parted, ranged_joined, ranged_all}
use Rattle.scenarios.proofs.cell.CellState.ranges.Goals as goal
use Rattle.scenarios.proofs.cell.CellState.ranges.Goals.{then-boundary_after, else-boundary_after}

pub loop-idx-init : goal.loop-idx-init
unfolding cells
loop-idx-init c = rw c.new-ranges.ensures (omega arith, omega arith, refl)

pub loop-idx-preserved : goal.loop-idx-preserved
loop-idx-preserved c =
    let n : ℕ = c.args.participants.number in
    let s : ℕ = c.args.self.boundaries in
    let i : ℕ = c.loop-idx.idx in
    let start : ℕ = c.loop-idx.start in
    let items = c.loop-idx.ranges.items in
    let flags : List Bool = map (bit s) (range_with_len 0 (n - 1)) in
    let l : length flags ≡ n - 1 = length-map-range_with_len (bit s) 0 (n - 1) in
    let flag : get_or flags i false ≡ c.boundary_after.result = get_or-map-range_with_len (bit s) 0 (n - 1) i i false (omega arith) (omega arith) ∙ sym c.boundary_after.ensures in
    elim c.if-boundary_after.branch [
      | then-boundary_after w ↦
          rw (w.start-is, w.ranges-is, w.push.ensures.items) (
            omega (arith, length_push items (start, i + 1 - start), c.loop-idx.invariant.0, c.loop-idx.invariant.1),
            omega arith,
            ranged_parted items start i flags (omega arith) (flag ∙ w.if-boundary_after.true) c.loop-idx.invariant.1 ∙ c.loop-idx.invariant.2,
          )
      | else-boundary_after w ↦
          rw (w.start-is, w.ranges-is) (
            c.loop-idx.invariant.0,
            omega (arith, c.loop-idx.invariant.1),
            ranged_joined items start i flags (omega arith) (flag ∙ w.if-boundary_after.false) c.loop-idx.invariant.1 ∙ c.loop-idx.invariant.2,
          )
    ]

pub returns-clause-listed : goal.returns-clause-listed
returns-clause-listed c =
    let n : ℕ = c.args.participants.number in
    let s : ℕ = c.args.self.boundaries in
    let flags : List Bool = map (bit s) (range_with_len 0 (n - 1)) in
    let l : length flags ≡ n - 1 = length-map-range_with_len (bit s) 0 (n - 1) in
    c.push-2.ensures.items ∙ ranged_all c.loop-idx.ranges.items c.loop-idx.start c.loop-idx.idx n flags (omega arith) (omega arith) ∙ c.loop-idx.invariant.2
