-- Steps of a walk over the turns from one place: noting the places after it, and summing their counts.
use Rattle.std.proofs.Common.{◌≡◌, ℕ, ◌+◌, ◌-◌, ◌*◌, ◌<◌, ◌≤◌, List, [], ◌∷◌, map, length, get_or, None, sym, ap, ◌∙◌, subst, arith}
use mathlib.Core.List.{map-map}
use Rattle.scenarios.specs.declared.counting.Place.{Place}
use Rattle.scenarios.specs.declared.edge.Edges.{Edges}
use Rattle.scenarios.specs.declared.edge.TransitionEdge.{TransitionEdge}
use Rattle.scenarios.specs.Cells.{cells, boundaries}
use Rattle.scenarios.specs.Turns.{Turn, turns, weight, after}
use Rattle.scenarios.specs.Fits.{Among}
use Rattle.scenarios.specs.Steps.{next_turn}
use Rattle.scenarios.specs.Edges.{cells_at, turn_at, edge_of, Moved, left_of}
use Rattle.scenarios.specs.Scenarios.{sum_of, count}
use Rattle.scenarios.specs.Counting.{note, noted, place, same_place, places, Slot, entry, zero_slot}
use Rattle.scenarios.specs.Slots.{Settled, afters, turned, value_at, Valued, Finds}
use Rattle.scenarios.proofs.States.{cells_stand}
use Rattle.scenarios.proofs.Onward.{left_split, left_among, left_moved, left_ended}
use Rattle.scenarios.proofs.Members.{among_here, among_more}
use Rattle.scenarios.proofs.Noted.{noted_longer}
use Rattle.scenarios.proofs.Fitting.{turn_cells}
use Rattle.scenarios.proofs.Counts.{count_step, count_positive}
use Rattle.scenarios.proofs.Slots.{next_count}

-- the places after all turns are those after one more round
pub turned_all : (n m : ℕ) (ps : List Place) (p : Place) (ts : List Turn) → ts ≡ turns (cells n p.state.boundaries) → noted same_place ps (map (turned m) ts) ≡ noted same_place ps (afters n m p)
turned_all n m ps p ts e =
    ap (noted same_place ps) (ap (map (turned m)) e ∙ sym (map-map (place m) (λ t. boundaries (after t)) (turns (cells n p.state.boundaries))))

-- what a walk has yet to see begins with the turn at which it stands
pub left_stands : (e : Edges) → (rest : List Turn) × (left_of e ≡ turn_at e ∷ rest)
left_stands e = let a = left_among e in (a.1, left_split e a.0 a.1 a.2)

-- a walk stands at e, whose edge is x; behind qs the places after the turns that are left make all
module _ (m : ℕ) (all qs : List Place) (e : Edges) (h : noted same_place qs (map (turned m) (left_of e)) ≡ all) (x : TransitionEdge) (is : x ≡ edge_of (turn_at e)) where
  abbrev with_next : List Place
  with_next = note same_place qs (record { depth = m; state = x.next })

  note_turn : (rest : List Turn) → left_of e ≡ turn_at e ∷ rest → noted same_place with_next (map (turned m) rest) ≡ all
  note_turn rest s =
      ap (λ y. noted same_place (note same_place qs (record { depth = m; state = y.next })) (map (turned m) rest)) is
      ∙ ap (λ l. noted same_place qs (map (turned m) l)) (sym s) ∙ h

  pub note_moved : (f : Edges) → Moved e f → noted same_place with_next (map (turned m) (left_of f)) ≡ all
  note_moved f v = note_turn (left_of f) (left_moved e f v)

  pub note_ended : next_turn (cells_at e) (turn_at e) ≡ None → with_next ≡ all
  note_ended v = note_turn [] (left_ended e v)

  pub note_short : length with_next ≤ length all
  note_short =
      let s = left_stands e in
      let l = noted_longer same_place with_next (map (turned m) s.0) in
      let b = ap length (note_turn s.0 s.1) in
      omega arith

-- a walk stands at e, whose edge is x, and for the place after it v is found; a is the sum so far, and with the turns that are left it makes S
module _ (f : Turn → ℕ) (m len a S : ℕ) (ys : List Slot) (e : Edges) (h : Finds f m len ys (left_of e) × (a + sum_of f (left_of e) ≡ S))
    (x : TransitionEdge) (is : x ≡ edge_of (turn_at e)) (v : ℕ) (d : Valued (record { depth = m; state = x.next }) len ys v) where
  adds : (0 < v) × (f (turn_at e) ≡ x.multiplicity * v)
  adds =
      let s = left_stands e in
      let there = subst (λ l. Among l (turn_at e)) (sym s.1) (among_here (turn_at e) s.0) in
      let r = h.0 (turn_at e) there v (subst (λ y. Valued (record { depth = m; state = y.next }) len ys v) is d) in
      (r.0, r.1 ∙ ap (λ y. y.multiplicity * v) (sym is))

  pub sum_moved : (b : ℕ) (g : Edges) → (0 < v → b ≡ a + x.multiplicity * v) → Moved e g → Finds f m len ys (left_of g) × (b + sum_of f (left_of g) ≡ S)
  sum_moved b g q u =
      let s = left_moved e g u in
      let y = ap (sum_of f) s in
      let z = q adds.0 in
      let t = adds.1 in
      let k = h.1 in
      ((λ t n. h.0 t (subst (λ l. Among l t) (sym s) (among_more (turn_at e) (left_of g) t n))), (omega arith))

  pub sum_ended : (b : ℕ) → (0 < v → b ≡ a + x.multiplicity * v) → next_turn (cells_at e) (turn_at e) ≡ None → b ≡ S
  sum_ended b q u = let y = ap (sum_of f) (left_ended e u) in let z = q adds.0 in let t = adds.1 in let k = h.1 in omega arith

  pub sum_large : (b : ℕ) → (0 < v → b ≤ a + x.multiplicity * v) → b ≤ S
  sum_large b q = let y = ap (sum_of f) (left_stands e).1 in let z = q adds.0 in let t = adds.1 in let k = h.1 in omega arith

-- what a turn adds to the count of a place
abbrev pub share : ℕ → Place → Turn → ℕ
share R p t = weight t * count (R - (p.depth + 1)) (after t)

-- at the last depth one scenario is left
pub last_value : (n R : ℕ) (p : Place) → R ≤ p.depth → (entry n R p).value ≡ 1
last_value n R p h = ap (λ k. count k (cells n p.state.boundaries)) (let e : R - p.depth ≡ 0 = omega arith in e)

-- before it the shares of all turns are the count
pub shares_all : (n R : ℕ) (p : Place) (ts : List Turn) → p.depth < R → ts ≡ turns (cells n p.state.boundaries) → sum_of (share R p) ts ≡ (entry n R p).value
shares_all n R p ts h e = ap (sum_of (share R p)) e ∙ sym (count_step R p.depth (cells n p.state.boundaries) h)

-- a search finds the counts that the shares are made of
pub shares_found : (n R len i : ℕ) (xs ys : List Slot) (p : Place) (ts : List Turn) → 0 < n → Settled n R (places n R) len (i + 1) xs ys → i < len
    → p ≡ (get_or ys i zero_slot).key → p.depth < R → ts ≡ turns (cells n p.state.boundaries) → Finds (share R p) (p.depth + 1) len ys ts
shares_found n R len i xs ys p ts z s l q b e t a v f =
    let cs = cells n p.state.boundaries in
    let there : Among (turns cs) t = subst (λ x. Among x t) e a in
    let r = next_count n R len i t f.0 xs ys p z s l q b there f.1 in
    let is : v ≡ count (R - (p.depth + 1)) (after t) = f.2 ∙ ap (value_at ys) r.1 ∙ r.3 in
    let c = count_positive (R - (p.depth + 1)) n (after t) z (turn_cells n cs t (cells_stand n p.state.boundaries z) there) in
    ((omega arith), ap (λ x. weight t * x) (sym is))
