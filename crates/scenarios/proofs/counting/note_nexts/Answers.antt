use Rattle.std.proofs.Common.{◌<◌, map, length, sym, refl, ap, ◌∙◌, subst, arith}
use Rattle.scenarios.specs.Cells.{cells}
use Rattle.scenarios.specs.Counting.{note, noted, place, same_place}
use Rattle.scenarios.specs.Slots.{Holds, Kept, afters, turned}
use Rattle.scenarios.specs.Edges.{left_of}
use Rattle.scenarios.proofs.Onward.{left_begun, left_moved}
use Rattle.scenarios.proofs.Turning.{turned_all, note_moved, note_ended, note_short}
use Rattle.scenarios.proofs.counting.note_nexts.Goals as goal

pub loop-used-init : goal.loop-used-init
loop-used-init c ps xs h = (ps, h, refl)

pub returns-in_err-used : goal.returns-in_err-used
returns-in_err-used c ps xs h =
    let n = c.args.participants.number in
    let m = c.args.depth in
    let p = c.args.place in
    let i = c.loop-used.invariant ps xs h in
    let ts = left_of c.of-edges.result in
    let s = note_short m (noted same_place ps (map (turned m) ts)) i.0 c.loop-used.edges i.2 c.edge.result c.edge.ensures in
    let b : length xs < length (note same_place i.0 (place m c.edge.result.next.boundaries)) = c.in_err-used.ensures i.0 xs i.1 in
    let all = noted same_place ps (afters n m p) in
    let q = ap length (turned_all n m ps p ts (left_begun n (cells n p.state.boundaries) c.of-edges.result c.of-edges.ensures)) in
    let short : length xs < length all = omega arith in
    subst (λ r. Kept all xs r c.note_place.new.slots) (sym c.from_residual.ensures) short

pub returns-then-not-advance : goal.returns-then-not-advance
returns-then-not-advance c ps xs h =
    let n = c.args.participants.number in
    let m = c.args.depth in
    let p = c.args.place in
    let i = c.loop-used.invariant ps xs h in
    let ts = left_of c.of-edges.result in
    let s = note_ended m (noted same_place ps (map (turned m) ts)) i.0 c.loop-used.edges i.2 c.edge.result c.edge.ensures c.if-not-advance.ensures in
    let q = turned_all n m ps p ts (left_begun n (cells n p.state.boundaries) c.of-edges.result c.of-edges.ensures) in
    subst (λ l. Holds l c.in_ok-used.used xs c.note_place.new.slots) (s ∙ q) (c.in_ok-used.ensures i.0 xs i.1)

pub loop-used-smaller : goal.loop-used-smaller
loop-used-smaller c =
    let l = ap length (left_moved c.loop-used.edges c.advance.new.self c.if-not-advance.ensures) in
    omega arith

pub loop-used-preserved : goal.loop-used-preserved
loop-used-preserved c ps xs h =
    let m = c.args.depth in
    let i = c.loop-used.invariant ps xs h in
    let all = noted same_place ps (map (turned m) (left_of c.of-edges.result)) in
    let s = note_moved m all i.0 c.loop-used.edges i.2 c.edge.result c.edge.ensures c.advance.new.self c.if-not-advance.ensures in
    (note same_place i.0 (place m c.edge.result.next.boundaries), c.in_ok-used.ensures i.0 xs i.1, s)
