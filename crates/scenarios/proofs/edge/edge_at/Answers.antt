use Rattle.std.proofs.Common.{◌≡◌, ℕ, ◌<◌, ◌||◌, eqb, ltb, ◌∷◌, map, drop, Some, sym, ap, ◌∙◌, subst, arith}
use Rattle.std.specs.List.{slice_get}
use Rattle.std.proofs.lemmas.Bool.{or_from, ne_eqb, le-ltb, cond-false}
use Rattle.scenarios.specs.declared.participants.Participants.{Participants}
use Rattle.scenarios.specs.Cells.{cells}
use Rattle.scenarios.specs.Turns.{turns}
use Rattle.scenarios.specs.Edges.{edge_of, edge_in, left_of, turn_at}
use Rattle.scenarios.proofs.Onward.{left_begun, left_moved, left_ended, left_here, drop_next, nth_at, nth_past}
use Rattle.scenarios.proofs.edge.edge_at.Goals as goal

some : (n : ℕ) → 0 < n → n ≡ 0 → ⊥
some n h e = omega arith

-- for so many participants there are edges
within : (p : Participants) (n s place : ℕ) → p.number ≡ n → edge_in n s place ≡ slice_get (map edge_of (turns (cells p.number s))) place
within p n s place e =
    let k = p.number in
    subst (λ m. edge_in m s place ≡ slice_get (map edge_of (turns (cells k s))) place) e
    (cond-false (eqb k 0 || ltb 64 k) _ _ (or_from (eqb k 0) (ltb 64 k) (ne_eqb k 0 (some k p.within.0)) (le-ltb 64 k p.within.1)))

pub returns-then-not-advance : goal.returns-then-not-advance
returns-then-not-advance c =
    let p = c.in_ok-new.field-0 in
    let s = c.args.state.boundaries in
    let b = left_begun p.number (cells p.number s) c.of-edges.result c.of-edges.ensures in
    let e = sym c.loop.invariant ∙ left_ended c.loop.edges c.if-not-advance.ensures in
    sym (within p c.args.n s c.args.place c.in_ok-new.ensures
    ∙ ap (λ ts. slice_get (map edge_of ts) c.args.place) (sym b)
    ∙ nth_past edge_of (left_of c.of-edges.result) c.loop.counter c.args.place (turn_at c.loop.edges) e c.loop-test.true)

pub loop-preserved : goal.loop-preserved
loop-preserved c =
    let m = c.if-not-advance.ensures in
    let e = sym c.loop.invariant ∙ left_moved c.loop.edges c.advance.new.self m in
    sym (drop_next (left_of c.of-edges.result) c.loop.counter (turn_at c.loop.edges) (left_of c.advance.new.self) e)

pub returns : goal.returns
returns c =
    let p = c.in_ok-new.field-0 in
    let s = c.args.state.boundaries in
    let b = left_begun p.number (cells p.number s) c.of-edges.result c.of-edges.ensures in
    let here = left_here c.loop.edges in
    let at : c.loop.counter ≡ c.args.place = omega arith in
    let e : drop c.args.place (left_of c.of-edges.result) ≡ turn_at c.loop.edges ∷ here.0 = ap (λ k. drop k (left_of c.of-edges.result)) (sym at) ∙ sym c.loop.invariant ∙ here.1 in
    sym (within p c.args.n s c.args.place c.in_ok-new.ensures
    ∙ ap (λ ts. slice_get (map edge_of ts) c.args.place) (sym b)
    ∙ nth_at edge_of (left_of c.of-edges.result) c.args.place (turn_at c.loop.edges) here.0 e
    ∙ ap Some (sym c.edge.ensures))
