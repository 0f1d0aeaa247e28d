use Rattle.std.proofs.Common.{◌≡◌, ℕ, ◌+◌, ◌-◌, ◌<◌, Bool, true, false, eqb, length, sym, ap, arith}
use Rattle.std.proofs.lemmas.Bool.Decides.{Decides-eqb}
use Rattle.scenarios.specs.declared.suffixes.SuffixCounts.{SuffixCounts}
use Rattle.scenarios.specs.declared.read.RoundRank.{RoundRank}
use Rattle.scenarios.specs.declared.edge.Edges.{Edges}
use Rattle.scenarios.specs.declared.edge.TransitionEdge.{TransitionEdge}
use Rattle.scenarios.specs.Cells.{cells}
use Rattle.scenarios.specs.Fits.{Among}
use Rattle.scenarios.specs.Scenarios.{count}
use Rattle.scenarios.specs.Counting.{layer}
use Rattle.scenarios.specs.Edges.{turn_at, edge_of}
use Rattle.scenarios.proofs.Onward.{left_moved}
use Rattle.scenarios.proofs.Passing.{Passing, Here, pass_start, edge_reached, stand_here, number_fits, pass_found, pass_on, pass_never}
use Rattle.scenarios.proofs.suffixes.SuffixCounts.rank_before.Goals.{else-edge-read-via-then-edge-read+else-eq, else-edge-read-via-else-edge-read}
use Rattle.scenarios.proofs.suffixes.SuffixCounts.rank_before.Goals as goal

-- what a comparison of two states tells of their boundaries
same_state : (a b : ℕ) → true ≡ eqb a b → a ≡ b
same_state a b t = (Decides-eqb a b).0 (sym t)

other_state : (a b : ℕ) (r : Bool) → r ≡ eqb a b → r ≡ false → a ≡ b → ⊥
other_state a b r p q e =
    let t = (Decides-eqb a b).1 e in
    cc

-- what holds at an edge of the walk, by the counts
standing : (k : SuffixCounts) (d s v w : ℕ) (x : RoundRank) (e : Edges) (y : TransitionEdge) → d < k.rounds → Among (layer k.participants.number d) s
    → Passing (k.rounds - (d + 1)) k.participants.number s x e v
    → y ≡ edge_of (turn_at e) → w ≡ count (k.rounds - (d + 1)) (cells k.participants.number y.next.boundaries)
    → Here (k.rounds - (d + 1)) k.participants.number s x e v y w
standing k d s v w x e y l lay i is w_is = stand_here k.rounds d k.participants.within.0 i is lay l k.fits (λ _. w_is)

pub loop-edge-init : goal.loop-edge-init
loop-edge-init c =
    let k = c.args.self.now in
    let b = c.of-edges.ensures in
    pass_start (k.rounds - (c.args.place.depth + 1)) k.participants.number c.args.place.state.boundaries c.args.read c.of-edges.result k.participants.within.0 b

pub continuations-ways-requires-clause-reached : goal.continuations-ways-requires-clause-reached
continuations-ways-requires-clause-reached c =
    edge_reached c.args.self.now.rounds c.args.place.depth c.args.self.now.participants.within.0 c.loop-edge.invariant c.edge-edge.ensures c.requires.reached

pub overflow_cast-result : goal.overflow_cast-result
overflow_cast-result c =
    let h = (standing c.args.self.now c.args.place.depth c.args.place.state.boundaries c.loop-edge.before c.continuations-ways.result c.args.read c.loop-edge.edges c.edge-edge.result
    c.requires.within c.requires.reached c.loop-edge.invariant c.edge-edge.ensures c.continuations-ways.ensures) in
    let t = c.requires.told in
    let g = number_fits c.args.self.now.participants.within.0 h c.if-edge-read.true (same_state _ _ c.if-eq.ensures) t.0 t.1 in
    let a = g.0 in
    omega arith

pub overflow_mul-result : goal.overflow_mul-result
overflow_mul-result c =
    let h = (standing c.args.self.now c.args.place.depth c.args.place.state.boundaries c.loop-edge.before c.continuations-ways.result c.args.read c.loop-edge.edges c.edge-edge.result
    c.requires.within c.requires.reached c.loop-edge.invariant c.edge-edge.ensures c.continuations-ways.ensures) in
    let t = c.requires.told in
    let g = number_fits c.args.self.now.participants.within.0 h c.if-edge-read.true (same_state _ _ c.if-eq.ensures) t.0 t.1 in
    let a = g.1 in
    omega arith

pub overflow_add-result : goal.overflow_add-result
overflow_add-result c =
    let h = (standing c.args.self.now c.args.place.depth c.args.place.state.boundaries c.loop-edge.before c.continuations-ways.result c.args.read c.loop-edge.edges c.edge-edge.result
    c.requires.within c.requires.reached c.loop-edge.invariant c.edge-edge.ensures c.continuations-ways.ensures) in
    let t = c.requires.told in
    let g = number_fits c.args.self.now.participants.within.0 h c.if-edge-read.true (same_state _ _ c.if-eq.ensures) t.0 t.1 in
    let a = g.1 in
    omega arith

pub returns-then-eq : goal.returns-then-eq
returns-then-eq c t f = pass_found c.args.self.now.participants.within.0 (standing c.args.self.now c.args.place.depth c.args.place.state.boundaries c.loop-edge.before c.continuations-ways.result c.args.read c.loop-edge.edges c.edge-edge.result
    c.requires.within c.requires.reached c.loop-edge.invariant c.edge-edge.ensures c.continuations-ways.ensures) c.if-edge-read.true (same_state _ _ c.if-eq.ensures) t f

pub overflow_cast-before : goal.overflow_cast-before
overflow_cast-before c =
    let h = (standing c.args.self.now c.args.place.depth c.args.place.state.boundaries c.loop-edge.before c.continuations-ways.result c.args.read c.loop-edge.edges c.edge-edge.result
    c.requires.within c.requires.reached c.loop-edge.invariant c.edge-edge.ensures c.continuations-ways.ensures) in
    let a = h.weight_fits in
    omega arith

pub overflow_mul-before : goal.overflow_mul-before
overflow_mul-before c =
    let h = (standing c.args.self.now c.args.place.depth c.args.place.state.boundaries c.loop-edge.before c.continuations-ways.result c.args.read c.loop-edge.edges c.edge-edge.result
    c.requires.within c.requires.reached c.loop-edge.invariant c.edge-edge.ensures c.continuations-ways.ensures) in
    let a = h.sum_fits in
    omega arith

pub overflow_add-before : goal.overflow_add-before
overflow_add-before c =
    let h = (standing c.args.self.now c.args.place.depth c.args.place.state.boundaries c.loop-edge.before c.continuations-ways.result c.args.read c.loop-edge.edges c.edge-edge.result
    c.requires.within c.requires.reached c.loop-edge.invariant c.edge-edge.ensures c.continuations-ways.ensures) in
    let a = h.sum_fits in
    omega arith

pub unreachable-requires : goal.unreachable-requires
unreachable-requires c =
    let other : c.edge-edge.result.leader ≡ c.args.read.leader_cell → c.edge-edge.result.next.boundaries ≡ c.args.read.next.boundaries → ⊥ =
    elim c.else-edge-read.branch [
      | else-edge-read-via-then-edge-read+else-eq w ↦ λ a b. other_state _ _ w.eq.result w.eq.ensures w.if-eq.false b
      | else-edge-read-via-else-edge-read w ↦ λ a b. w.if-edge-read.false a
    ] in
    let t = c.requires.told in
    pass_never c.args.self.now.participants.within.0 (standing c.args.self.now c.args.place.depth c.args.place.state.boundaries c.loop-edge.before c.continuations-ways.result c.args.read c.loop-edge.edges c.edge-edge.result
    c.requires.within c.requires.reached c.loop-edge.invariant c.edge-edge.ensures c.continuations-ways.ensures) other t.0 t.1 c.if-not-advance.ensures

pub loop-edge-smaller : goal.loop-edge-smaller
loop-edge-smaller c =
    let l = ap length (left_moved c.loop-edge.edges c.advance.new.self c.if-not-advance.ensures) in
    omega arith

pub loop-edge-preserved : goal.loop-edge-preserved
loop-edge-preserved c =
    let other : c.edge-edge.result.leader ≡ c.args.read.leader_cell → c.edge-edge.result.next.boundaries ≡ c.args.read.next.boundaries → ⊥ =
    elim c.else-edge-read.branch [
      | else-edge-read-via-then-edge-read+else-eq w ↦ λ a b. other_state _ _ w.eq.result w.eq.ensures w.if-eq.false b
      | else-edge-read-via-else-edge-read w ↦ λ a b. w.if-edge-read.false a
    ] in
    pass_on c.args.self.now.participants.within.0 (standing c.args.self.now c.args.place.depth c.args.place.state.boundaries c.loop-edge.before c.continuations-ways.result c.args.read c.loop-edge.edges c.edge-edge.result
    c.requires.within c.requires.reached c.loop-edge.invariant c.edge-edge.ensures c.continuations-ways.ensures) other c.advance.new.self c.if-not-advance.ensures
