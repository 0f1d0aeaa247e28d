-- The states of each depth, and their counts under the total.
use Rattle.std.proofs.Common.{◌≡◌, ℕ, zero, suc, ◌+◌, ◌-◌, ◌*◌, ◌%◌, ◌^◌, ◌<◌, ◌≤◌, eqb, ◌⊎◌, [], ◌∷◌, sym, ap, ◌∙◌, inl, inr, arith}
use native.Mathlib.Nat.{mod_self}
use Rattle.std.specs.List.{flat_map}
use Rattle.std.proofs.lemmas.Bool.Decides.{Decides-eqb}
use Rattle.scenarios.specs.Cells.{cells, boundaries}
use Rattle.scenarios.specs.Turns.{Turn, turns, after}
use Rattle.scenarios.specs.Fits.{Among}
use Rattle.scenarios.proofs.Members.{among_none, among_cases, among_map, map_among, among_joined, joined_among}
use Rattle.scenarios.proofs.States.{cells_boundaries, cells_stand}
use Rattle.scenarios.proofs.Neighbours.{one_cell_of}
use Rattle.scenarios.proofs.Fitting.{turn_cells, turn_weight}
use Rattle.scenarios.specs.Scenarios.{count}
use Rattle.scenarios.specs.Counting.{nexts, layer}
use Rattle.scenarios.proofs.Noted.{noted_among, among_noted}
use Rattle.scenarios.proofs.Counts.{count_falls}

-- the first state

pub root_boundaries : (n : ℕ) → boundaries (n ∷ []) ≡ 0
unfolding boundaries
root_boundaries n =
    let e : n + 0 - 1 ≡ n - 1 = omega arith in
    let z : 2 ^ (n - 1) + 2 ^ n * 0 ≡ 2 ^ (n - 1) = omega arith in
    (λ i. z i % 2 ^ e i) ∙ mod_self (2 ^ (n - 1))

pub root_state : (n : ℕ) → 0 < n → cells n 0 ≡ n ∷ []
root_state n h = ap (cells n) (sym (root_boundaries n)) ∙ cells_boundaries n (n ∷ []) h (one_cell_of n h)

-- the states of a depth

pub layer_reaches : (n d s : ℕ) → Among (layer n (suc d)) s → (s' : ℕ) × Among (layer n d) s' × ((t : Turn) × Among (turns (cells n s')) t × (boundaries (after t) ≡ s))
layer_reaches n d s a = go (noted_among eqb [] (flat_map (nexts n) (layer n d)) s a)
  where
    go : Among [] s ⊎ Among (flat_map (nexts n) (layer n d)) s → (s' : ℕ) × Among (layer n d) s' × ((t : Turn) × Among (turns (cells n s')) t × (boundaries (after t) ≡ s))
    go (inl b) = absurd (among_none s b)
    go (inr b) =
        let r = joined_among (nexts n) (layer n d) s b in
        (r.0, r.1, map_among (λ t. boundaries (after t)) (turns (cells n r.0)) s r.2)

pub layer_next : (n d s : ℕ) (t : Turn) → Among (layer n d) s → Among (turns (cells n s)) t → Among (layer n (suc d)) (boundaries (after t))
layer_next n d s t a b =
    among_noted eqb Decides-eqb [] (flat_map (nexts n) (layer n d)) (boundaries (after t))
    (among_joined (nexts n) (layer n d) s (boundaries (after t)) a (among_map (λ u. boundaries (after u)) (turns (cells n s)) t b))

pub layer_root : (n s : ℕ) → Among (layer n 0) s → s ≡ 0
layer_root n s a = go (among_cases 0 [] s a)
  where
    go : (0 ≡ s) ⊎ Among [] s → s ≡ 0
    go (inl e) = sym e
    go (inr b) = absurd (among_none s b)

-- the cells that a turn leaves are those of the state that it leads to
pub next_cells : (n s : ℕ) (t : Turn) → 0 < n → Among (turns (cells n s)) t → cells n (boundaries (after t)) ≡ after t
next_cells n s t h a = cells_boundaries n (after t) h (turn_cells n (cells n s) t (cells_stand n s h) a)

pub count_below : (n R d s : ℕ) → 0 < n → d ≤ R → Among (layer n d) s → count (R - d) (cells n s) ≤ count R (n ∷ [])
count_below n R zero s h l a =
    let e : R - 0 ≡ R = omega arith in
    let z : count (R - 0) (cells n s) ≡ count R (n ∷ []) = (λ i. count (e i) (cells n s)) ∙ ap (λ x. count R (cells n x)) (layer_root n s a) ∙ ap (count R) (root_state n h) in
    omega arith
count_below n R (suc d) s h l a =
    let r = layer_reaches n d s a in
    let s' = r.0 in
    let t = r.2.0 in
    let e : suc (R - suc d) ≡ R - d = omega arith in
    let c : cells n s ≡ after t = ap (cells n) (sym r.2.2) ∙ next_cells n s' t h r.2.1 in
    let x : count (R - suc d) (cells n s) ≡ count (R - suc d) (after t) = ap (count (R - suc d)) c in
    let f = count_falls (R - suc d) (cells n s') t r.2.1 (turn_weight n (cells n s') t (cells_stand n s' h) r.2.1) in
    let y : count (suc (R - suc d)) (cells n s') ≡ count (R - d) (cells n s') = ap (λ k. count k (cells n s')) e in
    let b = count_below n R d s' h (omega arith) r.1 in
    omega arith
