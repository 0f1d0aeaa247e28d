use Rattle.std.proofs.Common.{◌≡◌, ℕ, suc, ◌+◌, ◌-◌, ◌<◌, length, sym, refl, ap, ◌∙◌, subst, arith}
use Rattle.scenarios.specs.declared.suffixes.SuffixCounts.{SuffixCounts}
use Rattle.scenarios.specs.declared.edge.Edges.{Edges}
use Rattle.scenarios.specs.declared.edge.TransitionEdge.{TransitionEdge}
use Rattle.scenarios.specs.Cells.{cells}
use Rattle.scenarios.specs.Turns.{round}
use Rattle.scenarios.specs.Fits.{Among}
use Rattle.scenarios.specs.Scenarios.{count}
use Rattle.scenarios.specs.Counting.{layer}
use Rattle.scenarios.specs.Edges.{cells_at, turn_at, edge_of, left_of}
use Rattle.scenarios.proofs.Onward.{left_begun, left_moved}
use Rattle.scenarios.proofs.Locating.{Seeking, seek_start}
use Rattle.scenarios.proofs.Stepping.{AtEdge, at_edge, edge_among, edge_layered, step_from}
use Rattle.scenarios.proofs.suffixes.SuffixCounts.first_round.Goals as goal

-- what holds at an edge of the walk, by the counts
standing : (k : SuffixCounts) (d s rank left v : ℕ) (e : Edges) (x : TransitionEdge) → d < k.rounds → Among (layer k.participants.number d) s
    → (cells_at e ≡ cells k.participants.number s) × Seeking (k.rounds - (d + 1)) (cells k.participants.number s) rank (left_of e) left
    → x ≡ edge_of (turn_at e) → v ≡ count (k.rounds - (d + 1)) (cells k.participants.number x.next.boundaries)
    → AtEdge k.participants.number k.rounds d s rank left v e x
standing k d s rank left v e x l lay i is v_is =
    at_edge k.participants.number k.rounds d s rank left v k.participants.within.0 l lay e i.0 i.1 x is (λ _. v_is) k.fits

pub loop-left-init : goal.loop-left-init
loop-left-init c =
    let k = c.args.self.now in
    let n = k.participants.number in
    let s = c.args.place.state.boundaries in
    let b = c.of-edges.ensures in
    let r = k.rounds - (c.args.place.depth + 1) in
    let l = c.requires.within in
    let one : k.rounds - c.args.place.depth ≡ suc r = omega arith in
    let start = seek_start r (cells n s) c.args.rank (subst (λ j. c.args.rank < count j (cells n s)) one c.requires.below) in
    let same = left_begun n (cells n s) c.of-edges.result b in
    (b.at, subst (λ ts. Seeking r (cells n s) c.args.rank ts c.args.rank) (sym same) start)

pub continuations-suffix-requires-clause-reached : goal.continuations-suffix-requires-clause-reached
continuations-suffix-requires-clause-reached c =
    let k = c.args.self.now in
    let i = c.loop-left.invariant in
    edge_layered k.participants.number k.rounds c.args.place.depth c.args.place.state.boundaries c.args.rank c.loop-left.left 0 k.participants.within.0 c.requires.within c.requires.reached
    c.loop-left.edges i.0 i.1 c.edge-edge.result c.edge-edge.ensures

pub overflow_cast-size : goal.overflow_cast-size
overflow_cast-size c =
    let at =
    standing c.args.self.now c.args.place.depth c.args.place.state.boundaries c.args.rank c.loop-left.left c.continuations-suffix.result c.loop-left.edges c.edge-edge.result
    c.requires.within c.requires.reached c.loop-left.invariant c.edge-edge.ensures c.continuations-suffix.ensures in
    let h = at.mult_small in
    omega arith

pub overflow_mul-size : goal.overflow_mul-size
overflow_mul-size c =
    let at =
    standing c.args.self.now c.args.place.depth c.args.place.state.boundaries c.args.rank c.loop-left.left c.continuations-suffix.result c.loop-left.edges c.edge-edge.result
    c.requires.within c.requires.reached c.loop-left.invariant c.edge-edge.ensures c.continuations-suffix.ensures in
    let h = at.size_small in
    omega arith

pub returns-then-left-size : goal.returns-then-left-size
returns-then-left-size c =
    let k = c.args.self.now in
    let n = k.participants.number in
    let d = c.args.place.depth in
    let s = c.args.place.state.boundaries in
    let e = c.loop-left.edges in
    let i = c.loop-left.invariant in
    let h = k.participants.within.0 in
    let at =
    standing c.args.self.now c.args.place.depth c.args.place.state.boundaries c.args.rank c.loop-left.left c.continuations-suffix.result c.loop-left.edges c.edge-edge.result
    c.requires.within c.requires.reached c.loop-left.invariant c.edge-edge.ensures c.continuations-suffix.ensures in
    step_from n k.rounds d s h c.requires.within c.requires.reached (turn_at e)
    (edge_among n k.rounds d s c.args.rank c.loop-left.left 0 h c.requires.within c.requires.reached e i.0 i.1)
    c.args.rank c.loop-left.left c.continuations-suffix.result _ (at.found c.if-left-size.true) at.suffix (c.round_at.ensures ∙ ap (round (turn_at e)) c.from.ensures) at.next_is refl

pub unreachable-requires : goal.unreachable-requires
unreachable-requires c =
    let at =
    standing c.args.self.now c.args.place.depth c.args.place.state.boundaries c.args.rank c.loop-left.left c.continuations-suffix.result c.loop-left.edges c.edge-edge.result
    c.requires.within c.requires.reached c.loop-left.invariant c.edge-edge.ensures c.continuations-suffix.ensures in
    at.ended c.if-not-advance.ensures c.if-left-size.false

pub loop-left-smaller : goal.loop-left-smaller
loop-left-smaller c =
    let q = ap length (left_moved c.loop-left.edges c.advance.new.self c.if-not-advance.ensures) in
    omega arith

pub loop-left-preserved : goal.loop-left-preserved
loop-left-preserved c =
    let m = c.if-not-advance.ensures in
    let at =
    standing c.args.self.now c.args.place.depth c.args.place.state.boundaries c.args.rank c.loop-left.left c.continuations-suffix.result c.loop-left.edges c.edge-edge.result
    c.requires.within c.requires.reached c.loop-left.invariant c.edge-edge.ensures c.continuations-suffix.ensures in
    (m.at ∙ c.loop-left.invariant.0, at.passed c.advance.new.self m c.if-left-size.false)
