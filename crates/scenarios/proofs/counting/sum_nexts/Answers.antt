use Rattle.std.proofs.Common.{◌+◌, ◌^◌, ◌≤◌, length, sym, ap, subst, arith}
use Rattle.scenarios.specs.Cells.{cells}
use Rattle.scenarios.specs.Counting.{entry}
use Rattle.scenarios.specs.Slots.{FitsAs}
use Rattle.scenarios.specs.Edges.{left_of}
use Rattle.scenarios.proofs.Finding.{valued_in_front}
use Rattle.scenarios.proofs.Onward.{left_begun, left_moved}
use Rattle.scenarios.proofs.Turning.{share, last_value, shares_all, shares_found, sum_moved, sum_ended, sum_large}
use Rattle.scenarios.proofs.counting.sum_nexts.Goals as goal

pub returns-then-place-rounds : goal.returns-then-place-rounds
returns-then-place-rounds c xs i s l q = sym (last_value c.args.participants.number c.args.rounds c.args.place c.if-place-rounds.true)

pub loop-total-init : goal.loop-total-init
loop-total-init c xs i s l q =
    let n = c.args.participants.number in
    let R = c.args.rounds in
    let p = c.args.place in
    let ts = left_of c.of-edges.result in
    let b = left_begun n (cells n p.state.boundaries) c.of-edges.result c.of-edges.ensures in
    let a = shares_all n R p ts c.if-place-rounds.false b in
    (shares_found n R c.args.len i xs c.args.slots.now p ts c.args.participants.within.0 s l q c.if-place-rounds.false b, (omega arith))

pub returns-in_err-total : goal.returns-in_err-total
returns-in_err-total c xs i s l q =
    let R = c.args.rounds in
    let p = c.args.place in
    let S = (entry c.args.participants.number R p).value in
    let large : 2 ^ 64 ≤ S =
    sum_large (share R p) (p.depth + 1) c.args.len c.loop-total.total S c.args.slots.now c.loop-total.edges (c.loop-total.invariant xs i s l q)
    c.edge-edge.result c.edge-edge.ensures c.value_of-value.result (valued_in_front _ c.args.len c.min.result c.value_of-value.result c.args.slots.now c.min.ensures c.value_of-value.ensures) (2 ^ 64) c.in_err-total.ensures in
    subst (FitsAs S) (sym c.from_residual.ensures) large

pub returns-then-not-advance : goal.returns-then-not-advance
returns-then-not-advance c xs i s l q =
    let R = c.args.rounds in
    let p = c.args.place in
    sum_ended (share R p) (p.depth + 1) c.args.len c.loop-total.total (entry c.args.participants.number R p).value c.args.slots.now c.loop-total.edges (c.loop-total.invariant xs i s l q)
    c.edge-edge.result c.edge-edge.ensures c.value_of-value.result (valued_in_front _ c.args.len c.min.result c.value_of-value.result c.args.slots.now c.min.ensures c.value_of-value.ensures) c.in_ok-total.total c.in_ok-total.ensures c.if-not-advance.ensures

pub loop-total-smaller : goal.loop-total-smaller
loop-total-smaller c =
    let l = ap length (left_moved c.loop-total.edges c.advance.new.self c.if-not-advance.ensures) in
    omega arith

pub loop-total-preserved : goal.loop-total-preserved
loop-total-preserved c xs i s l q =
    let R = c.args.rounds in
    let p = c.args.place in
    sum_moved (share R p) (p.depth + 1) c.args.len c.loop-total.total (entry c.args.participants.number R p).value c.args.slots.now c.loop-total.edges (c.loop-total.invariant xs i s l q)
    c.edge-edge.result c.edge-edge.ensures c.value_of-value.result (valued_in_front _ c.args.len c.min.result c.value_of-value.result c.args.slots.now c.min.ensures c.value_of-value.ensures) c.in_ok-total.total c.advance.new.self c.in_ok-total.ensures c.if-not-advance.ensures
