-- A walk over the turns from a state, up to the one that was read: what is passed, and its sum.
use Rattle.std.proofs.Common.{◌≡◌, ℕ, ◌+◌, ◌-◌, ◌*◌, ◌^◌, ◌<◌, ◌⊎◌, List, [], ◌∷◌, ◌++◌, None, sym, refl, ap, ◌∙◌, subst, inl, inr, arith}
use Rattle.std.proofs.lemmas.List.{append_assoc}
use Rattle.std.proofs.lemmas.Nat.{mul-le}
use Rattle.scenarios.specs.declared.edge.Edges.{Edges}
use Rattle.scenarios.specs.declared.edge.TransitionEdge.{TransitionEdge}
use Rattle.scenarios.specs.declared.read.RoundRank.{RoundRank}
use Rattle.scenarios.specs.Cells.{CellsOf, cells, boundaries}
use Rattle.scenarios.specs.Turns.{Turn, turns, weight, after}
use Rattle.scenarios.specs.Fits.{Among, Fits}
use Rattle.scenarios.specs.Steps.{next_turn}
use Rattle.scenarios.specs.Edges.{cells_at, turn_at, edge_of, Begun, Moved, left_of}
use Rattle.scenarios.specs.Scenarios.{sum_of, count}
use Rattle.scenarios.specs.Counting.{layer}
use Rattle.scenarios.specs.Ranking.{Tells, FirstRank}
use Rattle.scenarios.proofs.States.{cells_stand}
use Rattle.scenarios.proofs.Walks.{turns_fit}
use Rattle.scenarios.proofs.Members.{among_none, among_cases}
use Rattle.scenarios.proofs.Picks.{size, sum_of_append}
use Rattle.scenarios.proofs.Counts.{count_step, count_positive}
use Rattle.scenarios.proofs.Fitting.{turn_cells}
use Rattle.scenarios.proofs.Layers.{count_below, next_cells}
use Rattle.scenarios.proofs.Finding.{layer_after}
use Rattle.scenarios.proofs.Onward.{left_begun, left_moved, left_ended, left_here}
use Rattle.scenarios.proofs.Telling.{same_turn}

-- the walk stands at e, v sums the turns passed, and the turn that was read is still ahead
pub record Passing (r n s : ℕ) (x : RoundRank) (e : Edges) (v : ℕ) : Type 0 where
  pub at : cells_at e ≡ cells n s
  pub passed : List Turn
  pub splits : turns (cells n s) ≡ passed ++ left_of e
  pub sum : v ≡ sum_of (size r) passed
  pub ahead : (t : Turn) → Tells n s x t → Among (left_of e) t

pub pass_start : (r n s : ℕ) (x : RoundRank) (e : Edges) → 0 < n → Begun n (cells n s) e → Passing r n s x e 0
pass_start r n s x e h b =
    let l = left_begun n (cells n s) e b in
    record {
      at = b.at;
      passed = [];
      splits = sym l;
      sum = refl;
      ahead = λ t f. subst (λ ts. Among ts t) (sym l) ((turns_fit n (cells n s) (cells_stand n s h) t).1 f.fits);
    }

-- the edge y at which the walk stands, from which w scenarios of r rounds go on; the sum with all of its own still fits
pub record Here (r n s : ℕ) (x : RoundRank) (e : Edges) (v : ℕ) (y : TransitionEdge) (w : ℕ) : Type 0 where
  pub passing : Passing r n s x e v
  pub is : y ≡ edge_of (turn_at e)
  pub ways : w ≡ count r (after (turn_at e))
  pub fits : Fits (cells n s) (turn_at e)
  pub weight_fits : y.multiplicity < 2 ^ 64
  pub sum_fits : v + y.multiplicity * w < 2 ^ 64

module _ (R d : ℕ) {n s : ℕ} {x : RoundRank} {e : Edges} {v : ℕ} {y : TransitionEdge} (some : 0 < n) (so : Passing (R - (d + 1)) n s x e v) (is : y ≡ edge_of (turn_at e)) where
  abbrev here : Turn
  here = turn_at e

  stands : CellsOf n (cells n s)
  stands = cells_stand n s some

  fits_here : Fits (cells n s) here
  fits_here = subst (λ cs. Fits cs here) so.at e.stands.fits

  among_turns : Among (turns (cells n s)) here
  among_turns = (turns_fit n (cells n s) stands here).1 fits_here

  pub edge_reached : Among (layer n d) s → Among (layer n (d + 1)) y.next.boundaries
  edge_reached a = subst (λ z. Among (layer n (d + 1)) z.next.boundaries) (sym is) (layer_after n d s here a among_turns)

  -- the count of the state after the edge, where it is found for a state of its layer
  module _ {w : ℕ} (a : Among (layer n d) s) (l : d < R) (most : count R (n ∷ []) < 2 ^ 64)
      (found : Among (layer n (d + 1)) y.next.boundaries → w ≡ count (R - (d + 1)) (cells n y.next.boundaries)) where
    ways_here : w ≡ count (R - (d + 1)) (after here)
    ways_here =
        found (edge_reached a)
        ∙ ap (λ z. count (R - (d + 1)) (cells n z.next.boundaries)) is
        ∙ ap (count (R - (d + 1))) (next_cells n s here some among_turns)

    total_fits : v + y.multiplicity * w < 2 ^ 64
    total_fits =
        let p = left_here e in
        let q : count (R - d) (cells n s) ≡ sum_of (size (R - (d + 1))) so.passed + (size (R - (d + 1)) here + sum_of (size (R - (d + 1))) p.0) =
        count_step R d (cells n s) l ∙ ap (sum_of (size (R - (d + 1)))) (so.splits ∙ ap (λ ts. so.passed ++ ts) p.1) ∙ sum_of_append (size (R - (d + 1))) so.passed (here ∷ p.0) in
        let b = count_below n R d s some (omega arith) a in
        let m : y.multiplicity * w ≡ size (R - (d + 1)) here = ap (λ z. z.multiplicity * w) is ∙ ap (λ k. weight here * k) ways_here in
        let z = so.sum in
        omega arith

    -- each count is at least one, so the weight fits too
    pub stand_here : Here (R - (d + 1)) n s x e v y w
    stand_here =
        let c = count_positive (R - (d + 1)) n (after here) some (turn_cells n (cells n s) here stands among_turns) in
        let f = total_fits in
        let g = ways_here in
        let m = mul-le y.multiplicity 1 y.multiplicity w (omega arith) (omega arith) in
        record { passing = so; is = is; ways = g; fits = fits_here; weight_fits = (omega arith); sum_fits = f }

module _ {r n s : ℕ} {x : RoundRank} {e : Edges} {v : ℕ} {y : TransitionEdge} {w : ℕ} (some : 0 < n) (h : Here r n s x e v y w) where
  -- the turn here is the one that was read
  module _ (leads : y.leader ≡ x.leader_cell) (leaves : y.next.boundaries ≡ x.next.boundaries) where
    read_here : (t : Turn) → Tells n s x t → turn_at e ≡ t
    read_here t f =
        same_turn n (cells n s) (turn_at e) t some (cells_stand n s some) h.fits f.fits
        (sym (ap (λ z. z.leader) h.is) ∙ leads ∙ sym f.leads)
        (sym (ap (λ z. z.next.boundaries) h.is) ∙ leaves ∙ sym f.leaves)

    pub number_fits : (t : Turn) → Tells n s x t → (x.rank < 2 ^ 64) × (v + x.rank * w < 2 ^ 64)
    number_fits t f =
        let a : weight t ≡ y.multiplicity = ap weight (sym (read_here t f)) ∙ sym (ap (λ z. z.multiplicity) h.is) in
        let b = f.below in
        let g = h.weight_fits in
        let k = h.sum_fits in
        let m = mul-le x.rank w y.multiplicity w (omega arith) (omega arith) in
        ((omega arith), (omega arith))

    pub pass_found : (t : Turn) → Tells n s x t → FirstRank r (cells n s) t x.rank (v + x.rank * w)
    pass_found t f =
        let p = left_here e in
        let g : FirstRank r (cells n s) (turn_at e) x.rank (v + x.rank * w) = record {
          before = h.passing.passed;
          rest = p.0;
          splits = h.passing.splits ∙ ap (λ ts. h.passing.passed ++ ts) p.1;
          is = ap (λ k. k + x.rank * w) h.passing.sum ∙ ap (λ k. sum_of (size r) h.passing.passed + x.rank * k) h.ways;
        } in
        subst (λ u. FirstRank r (cells n s) u x.rank (v + x.rank * w)) (read_here t f) g

  -- it is another one
  module _ (other : y.leader ≡ x.leader_cell → y.next.boundaries ≡ x.next.boundaries → ⊥) where
    later : (t : Turn) (ts : List Turn) → Tells n s x t → left_of e ≡ turn_at e ∷ ts → Among ts t
    later t ts f q = go (among_cases (turn_at e) ts t (subst (λ l. Among l t) q (h.passing.ahead t f)))
      where
        go : (turn_at e ≡ t) ⊎ Among ts t → Among ts t
        go (inl z) = absurd (other (ap (λ u. u.leader) h.is ∙ ap (λ u. u.leader) z ∙ f.leads) (ap (λ u. u.next.boundaries) h.is ∙ ap (λ u. boundaries (after u)) z ∙ f.leaves))
        go (inr b) = b

    pub pass_on : (f : Edges) → Moved e f → Passing r n s x f (v + y.multiplicity * w)
    pass_on f m =
        let so = h.passing in
        let l = left_moved e f m in
        let z = so.sum in
        let k = sum_of_append (size r) so.passed (turn_at e ∷ []) in
        let j : y.multiplicity * w ≡ size r (turn_at e) = ap (λ u. u.multiplicity * w) h.is ∙ ap (λ u. weight (turn_at e) * u) h.ways in
        record {
          at = m.at ∙ so.at;
          passed = so.passed ++ (turn_at e ∷ []);
          splits = so.splits ∙ ap (λ ts. so.passed ++ ts) l ∙ sym (append_assoc so.passed (turn_at e ∷ []) (left_of f));
          sum = (omega arith);
          ahead = λ t g. later t (left_of f) g l;
        }

    pub pass_never : (t : Turn) → Tells n s x t → next_turn (cells_at e) (turn_at e) ≡ None → ⊥
    pass_never t f q = among_none t (later t [] f (left_ended e q))
