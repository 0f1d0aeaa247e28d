-- Unranking, one round after the other.
use Rattle.std.proofs.Common.{◌≡◌, ℕ, zero, suc, ◌+◌, ◌-◌, ◌*◌, ◌/◌, ◌%◌, ◌^◌, ◌<◌, ◌≤◌, List, [], ◌∷◌, ◌++◌, take, drop, None, sym, refl, ap, ◌∙◌, subst, arith}
use Rattle.std.proofs.lemmas.Nat.{mul-le}
use Rattle.std.proofs.lemmas.List.{append-nil, take-append-drop}
use Rattle.scenarios.specs.declared.round.RoundScenario.{RoundScenario}
use Rattle.scenarios.specs.declared.unrank.Step.{Step}
use Rattle.scenarios.specs.Cells.{cells, boundaries}
use Rattle.scenarios.specs.Turns.{Turn, turns, weight, after, round}
use Rattle.scenarios.specs.Fits.{Among}
use Rattle.scenarios.specs.Scenarios.{count, scenario, residual}
use Rattle.scenarios.specs.Counting.{layer}
use Rattle.scenarios.specs.Unranking.{Stepped}
use Rattle.scenarios.proofs.Picks.{size}
use Rattle.scenarios.proofs.States.{cells_stand}
use Rattle.scenarios.proofs.Counts.{sum_part, count_positive}
use Rattle.scenarios.proofs.Fitting.{turn_cells}
use Rattle.scenarios.proofs.Layers.{root_state, root_boundaries, layer_root, layer_reaches, next_cells, count_below}
use Rattle.scenarios.proofs.Members.{among_here}
use Rattle.scenarios.proofs.Finding.{layer_after}
use Rattle.scenarios.specs.declared.edge.Edges.{Edges}
use Rattle.scenarios.specs.declared.edge.TransitionEdge.{TransitionEdge}
use Rattle.scenarios.specs.Steps.{next_turn}
use Rattle.scenarios.specs.Edges.{Moved, cells_at, turn_at, edge_of, left_of}
use Rattle.scenarios.proofs.Onward.{left_here, left_moved, left_ended, left_among}
use Rattle.scenarios.proofs.Locating.{Found, Seeking, seek_found, seek_on}

-- one round, from a state that rounds can lead to

module _ (n R d s : ℕ) (h : 0 < n) (l : d < R) (lay : Among (layer n d) s) where
  pub one_more : suc (R - (d + 1)) ≡ R - d
  one_more = omega arith

  module _ (t : Turn) (a : Among (turns (cells n s)) t) where
    pub suffix_some : 1 ≤ count (R - (d + 1)) (after t)
    suffix_some = count_positive (R - (d + 1)) n (after t) h (turn_cells n (cells n s) t (cells_stand n s h) a)

    pub suffix_is : (v : ℕ) → v ≡ count (R - (d + 1)) (cells n (boundaries (after t))) → v ≡ count (R - (d + 1)) (after t)
    suffix_is v e = e ∙ ap (count (R - (d + 1))) (next_cells n s t h a)

    pub interval_small : count R (n ∷ []) < 2 ^ 64 → (weight t < 2 ^ 64) × (size (R - (d + 1)) t < 2 ^ 64)
    interval_small small =
        let p = sum_part (size (R - (d + 1))) (turns (cells n s)) t a in
        let c : count (suc (R - (d + 1))) (cells n s) ≡ count (R - d) (cells n s) = ap (λ k. count k (cells n s)) one_more in
        let b = count_below n R d s h (omega arith) lay in
        let m = mul-le (weight t) 1 (weight t) (count (R - (d + 1)) (after t)) (omega arith) suffix_some in
        (omega arith, omega arith)

    pub step_from : (rank left v : ℕ) (x : Step) → Found (R - (d + 1)) (cells n s) rank t left → v ≡ count (R - (d + 1)) (after t)
        → x.round ≡ round t (left / v) → x.next.boundaries ≡ boundaries (after t) → x.left ≡ left % v → Stepped n R d s rank x
    step_from rank left v x f q er en el =
        let r = R - (d + 1) in
        let cs : cells n x.next.boundaries ≡ after t = ap (cells n) en ∙ next_cells n s t h a in
        let lf : x.left ≡ left % count r (after t) = el ∙ ap (λ k. left % k) q in
        let rd : x.round ≡ round t (left / count r (after t)) = er ∙ ap (λ k. round t (left / k)) q in
        record {
          layered = subst (Among (layer n (d + 1))) (sym en) (layer_after n d s t lay a);
          below = subst (λ k. k < count r (cells n x.next.boundaries)) (sym lf) (subst (λ c. left % count r (after t) < count r c) (sym cs) f.left_below);
          rounds_are =
              ap (λ k. scenario k (cells n s) rank) (sym one_more) ∙ f.rounds_are
              ∙ sym (ap (λ y. y ∷ scenario r (cells n x.next.boundaries) x.left) rd
              ∙ ap (λ c. round t (left / count r (after t)) ∷ scenario r c x.left) cs
              ∙ ap (λ k. round t (left / count r (after t)) ∷ scenario r (after t) k) lf);
          cells_are =
              ap (λ k. residual k (cells n s) rank) (sym one_more) ∙ f.cells_are
              ∙ sym (ap (λ c. residual r c x.left) cs ∙ ap (residual r (after t)) lf);
        }

-- all rounds, written from the first slot on

pub record Unranked (n R rank : ℕ) (old ws : List RoundScenario) (i s left : ℕ) : Type 0 where
  pub layered : Among (layer n i) s
  pub below : left < count (R - i) (cells n s)
  pub rounds_are : take i ws ++ scenario (R - i) (cells n s) left ≡ scenario R (n ∷ []) rank
  pub cells_are : residual (R - i) (cells n s) left ≡ residual R (n ∷ []) rank
  pub kept : drop i ws ≡ drop i old

-- the walk stands at an edge, with v continuations behind it

module _ (n R d s rank left v : ℕ) (h : 0 < n) (l : d < R) (lay : Among (layer n d) s) (e : Edges) (cs : cells_at e ≡ cells n s)
    (seek : Seeking (R - (d + 1)) (cells n s) rank (left_of e) left) where
  pub edge_among : Among (turns (cells n s)) (turn_at e)
  edge_among = subst (λ x. Among (turns x) (turn_at e)) cs (left_among e)

  module _ (x : TransitionEdge) (is : x ≡ edge_of (turn_at e)) where
    pub edge_layered : Among (layer n (d + 1)) x.next.boundaries
    edge_layered = subst (Among (layer n (d + 1))) (sym (ap (λ y. y.next.boundaries) is)) (layer_after n d s (turn_at e) lay edge_among)

    module _ (v_is : v ≡ count (R - (d + 1)) (cells n x.next.boundaries)) where
      pub edge_suffix : v ≡ count (R - (d + 1)) (after (turn_at e))
      edge_suffix = suffix_is n R d s h l lay (turn_at e) edge_among v (v_is ∙ ap (λ y. count (R - (d + 1)) (cells n y.next.boundaries)) is)

      pub edge_some : 1 ≤ v
      edge_some = subst (λ k. 1 ≤ k) (sym edge_suffix) (suffix_some n R d s h l lay (turn_at e) edge_among)

      pub edge_size : x.multiplicity * v ≡ size (R - (d + 1)) (turn_at e)
      edge_size = (λ i. (is i).multiplicity * edge_suffix i)

      pub edge_small : count R (n ∷ []) < 2 ^ 64 → (x.multiplicity < 2 ^ 64) × (x.multiplicity * v < 2 ^ 64)
      edge_small small =
          let k = interval_small n R d s h l lay (turn_at e) edge_among small in
          (subst (λ m. m < 2 ^ 64) (sym (ap (λ y. y.multiplicity) is)) k.0, subst (λ m. m < 2 ^ 64) (sym edge_size) k.1)

      first_left : (rest : List Turn) → left_of e ≡ turn_at e ∷ rest → Seeking (R - (d + 1)) (cells n s) rank (turn_at e ∷ rest) left
      first_left rest q = subst (λ ts. Seeking (R - (d + 1)) (cells n s) rank ts left) q seek

      pub edge_found : left < x.multiplicity * v → Found (R - (d + 1)) (cells n s) rank (turn_at e) left
      edge_found b =
          let q = left_here e in
          seek_found (R - (d + 1)) (cells n s) rank (turn_at e) q.0 left (first_left q.0 q.1) (subst (λ k. left < k) edge_size b) (suffix_some n R d s h l lay (turn_at e) edge_among)

      pub edge_passed : (f : Edges) → Moved e f → x.multiplicity * v ≤ left → Seeking (R - (d + 1)) (cells n s) rank (left_of f) (left - x.multiplicity * v)
      edge_passed f m b =
          subst (λ k. Seeking (R - (d + 1)) (cells n s) rank (left_of f) (left - k)) (sym edge_size)
          (seek_on (R - (d + 1)) (cells n s) rank (turn_at e) (left_of f) left (first_left (left_of f) (left_moved e f m)) (subst (λ k. k ≤ left) edge_size b))

      pub edge_last : next_turn (cells_at e) (turn_at e) ≡ None → x.multiplicity * v ≤ left → ⊥
      edge_last q b =
          let k = (seek_on (R - (d + 1)) (cells n s) rank (turn_at e) [] left (first_left [] (left_ended e q)) (subst (λ m. m ≤ left) edge_size b)).below in
          omega arith

-- all of this together
pub record AtEdge (n R d s rank left v : ℕ) (e : Edges) (x : TransitionEdge) : Type 0 where
  pub mult_small : x.multiplicity < 2 ^ 64
  pub size_small : x.multiplicity * v < 2 ^ 64
  pub some : 1 ≤ v
  pub suffix : v ≡ count (R - (d + 1)) (after (turn_at e))
  pub next_is : x.next.boundaries ≡ boundaries (after (turn_at e))
  pub found : left < x.multiplicity * v → Found (R - (d + 1)) (cells n s) rank (turn_at e) left
  pub passed : (f : Edges) → Moved e f → x.multiplicity * v ≤ left → Seeking (R - (d + 1)) (cells n s) rank (left_of f) (left - x.multiplicity * v)
  pub ended : next_turn (cells_at e) (turn_at e) ≡ None → x.multiplicity * v ≤ left → ⊥

pub at_edge : (n R d s rank left v : ℕ) (h : 0 < n) (l : d < R) (lay : Among (layer n d) s) (e : Edges) (cs : cells_at e ≡ cells n s)
    → Seeking (R - (d + 1)) (cells n s) rank (left_of e) left → (x : TransitionEdge) → x ≡ edge_of (turn_at e)
    → (Among (layer n (d + 1)) x.next.boundaries → v ≡ count (R - (d + 1)) (cells n x.next.boundaries))
    → count R (n ∷ []) < 2 ^ 64 → AtEdge n R d s rank left v e x
at_edge n R d s rank left v h l lay e cs seek x is v_found small =
    let v_is = v_found (edge_layered n R d s rank left v h l lay e cs seek x is) in
    let k = edge_small n R d s rank left v h l lay e cs seek x is v_is small in
    record {
      mult_small = k.0;
      size_small = k.1;
      some = edge_some n R d s rank left v h l lay e cs seek x is v_is;
      suffix = edge_suffix n R d s rank left v h l lay e cs seek x is v_is;
      next_is = ap (λ y. y.next.boundaries) is;
      found = edge_found n R d s rank left v h l lay e cs seek x is v_is;
      passed = edge_passed n R d s rank left v h l lay e cs seek x is v_is;
      ended = edge_last n R d s rank left v h l lay e cs seek x is v_is;
    }

pub unranked_start : (n R rank : ℕ) (old : List RoundScenario) (s : ℕ) → 0 < n → s ≡ 0 → rank < count R (n ∷ []) → Unranked n R rank old old 0 s rank
unranked_start n R rank old s h z b =
    let root : cells n s ≡ n ∷ [] = ap (cells n) z ∙ root_state n h in
    let none : R - 0 ≡ R = omega arith in
    record {
      layered = subst (Among (layer n 0)) (sym z) (among_here 0 []);
      below = subst (λ c. rank < count (R - 0) c) (sym root) (subst (λ k. rank < count k (n ∷ [])) (sym none) b);
      rounds_are = (λ i. scenario (none i) (root i) rank);
      cells_are = (λ i. residual (none i) (root i) rank);
      kept = refl;
    }

-- a state that rounds can lead to is the mask of its cells
layer_mask : (n d s : ℕ) → 0 < n → Among (layer n d) s → boundaries (cells n s) ≡ s
layer_mask n zero s h a =
    let z = layer_root n s a in
    ap boundaries (ap (cells n) z ∙ root_state n h) ∙ root_boundaries n ∙ sym z
layer_mask n (suc d) s h a =
    let r = layer_reaches n d s a in
    let e = r.2.2 in
    ap boundaries (ap (cells n) (sym e) ∙ next_cells n r.0 r.2.0 h r.2.1) ∙ e

pub unranked_all : (n R rank : ℕ) (old ws : List RoundScenario) (i s left : ℕ) → 0 < n → i ≡ R → Unranked n R rank old ws i s left
    → (ws ≡ scenario R (n ∷ []) rank ++ drop R old) × (s ≡ boundaries (residual R (n ∷ []) rank))
unranked_all n R rank old ws i s left h e u =
    let z : R - i ≡ 0 = omega arith in
    let done : take i ws ≡ scenario R (n ∷ []) rank = sym (append-nil (take i ws)) ∙ ap (λ k. take i ws ++ scenario k (cells n s) left) (sym z) ∙ u.rounds_are in
    let cs : cells n s ≡ residual R (n ∷ []) rank = ap (λ k. residual k (cells n s) left) (sym z) ∙ u.cells_are in (
      sym (take-append-drop i ws) ∙ ap (λ x. x ++ drop i ws) done ∙ ap (λ x. scenario R (n ∷ []) rank ++ x) u.kept ∙ ap (λ k. scenario R (n ∷ []) rank ++ drop k old) e,
      sym (layer_mask n i s h u.layered) ∙ ap boundaries cs,
    )

-- a product above something has a factor above nothing
pub some_factor : (left m v : ℕ) → left < m * v → 1 ≤ v
some_factor left m zero h = absurd (omega arith)
some_factor left m (suc v) h = omega arith
