-- The turns from given cells: which they are, each once, and the walk over them.
use Rattle.std.proofs.Common.{◌≡◌, ℕ, ◌+◌, ◌<◌, ◌≤◌, cond, eqb, ltb, List, [], ◌∷◌, map, length, Some, None, Option, sym, refl, ap, ◌∙◌, subst, inl, inr, arith}
use Rattle.std.specs.List.{range_with_len}
use Rattle.std.proofs.lemmas.Bool.{lt-ltb, le-ltb, cond-true, cond-false}
use Rattle.scenarios.specs.Cells.{CellsOf}
use Rattle.scenarios.specs.Turns.{Turn, splits, fills, turns}
use Rattle.scenarios.specs.Fits.{Fills, Fits}
use Rattle.scenarios.specs.Steps.{next_split, first_fill, next_fill, first_turn, next_turn}
use Rattle.scenarios.specs.Claims.{TurnsFit, TurnsApart, TurnsBegin, TurnsWalk}
use Rattle.scenarios.proofs.Composing.{through}
use Rattle.scenarios.proofs.Chains.{In, in_from_among, among_from_in, map_in, in_map, joined_in, in_joined, in_counting, counting_in, first_or_none, first_map, Walk, chain_map, walk_joined, walk_counting, chain_walks, chain_apart, chain_next_in, first_in}
use Rattle.scenarios.proofs.Compositions.{Filled, in_splits, split_found, splits_walk}

-- a split for each cell

pub in_fills : (l i : ℕ) (cs : List ℕ) (f : List (List ℕ)) → Filled cs → In (fills l i cs) f → Fills l i cs f
in_fills l i [] f p (inl e) = subst (Fills l i []) e tt
in_fills l i [] f p (inr h) = absurd h
in_fills l i (c ∷ cs) f p h =
    let t = in_joined (λ ps. map (λ g. ps ∷ g) (fills l (i + 1) cs)) (splits (eqb i l) c) f h in
    let u = in_map (λ g. t.0 ∷ g) (fills l (i + 1) cs) f t.2 in
    subst (Fills l i (c ∷ cs)) u.2 (in_splits (eqb i l) c t.0 p.0 t.1, in_fills l (i + 1) cs u.0 p.1 u.1)

pub fill_found : (l i : ℕ) (cs : List ℕ) (f : List (List ℕ)) → Filled cs → Fills l i cs f → In (fills l i cs) f
fill_found l i [] [] p h = inl refl
fill_found l i [] (ps ∷ f) p h = absurd h
fill_found l i (c ∷ cs) [] p h = absurd h
fill_found l i (c ∷ cs) (ps ∷ f) p h =
    joined_in (λ qs. map (λ g. qs ∷ g) (fills l (i + 1) cs)) (splits (eqb i l) c) ps (ps ∷ f) (split_found (eqb i l) c ps p.0 h.0)
    (map_in (λ g. ps ∷ g) (fills l (i + 1) cs) f (fill_found l (i + 1) cs f p.1 h.1))

-- the fill with a split of the first cell, and the first of the cells behind it
abbrev pub begun : ℕ → ℕ → List ℕ → Option (List ℕ) → Option (List (List ℕ))
begun l i cs = through (λ qs. qs ∷ first_fill l (i + 1) cs) None

pub next_fill_is : (l i c : ℕ) (cs : List ℕ) (ps : List ℕ) (f : List (List ℕ))
    → next_fill l i (c ∷ cs) (ps ∷ f) ≡ through (λ g. ps ∷ g) (begun l i cs (next_split (eqb i l) ps)) (next_fill l (i + 1) cs f)
next_fill_is l i c cs ps f = go (next_fill l (i + 1) cs f) (next_split (eqb i l) ps)
  where
    go : (o : Option (List (List ℕ))) (s : Option (List ℕ))
        → elim o [ Some g ↦ Some (ps ∷ g) | None ↦ elim s [ Some qs ↦ Some (qs ∷ first_fill l (i + 1) cs) | None ↦ None ] ]
        ≡ through (λ g. ps ∷ g) (begun l i cs s) o
    go (Some g) s = refl
    go None (Some qs) = refl
    go None None = refl

pub fills_walk : (l i : ℕ) (cs : List ℕ) → Walk (next_fill l i cs) (fills l i cs) None (Some (first_fill l i cs))
fills_walk l i [] = ((refl, tt), refl)
fills_walk l i (c ∷ cs) =
    let s = splits_walk (eqb i l) c in
    let w = fills_walk l (i + 1) cs in
    let j = walk_joined (next_split (eqb i l)) (next_fill l i (c ∷ cs)) (λ ps. map (λ g. ps ∷ g) (fills l (i + 1) cs)) (begun l i cs) None (splits (eqb i l) c)
    (λ ps _. (
      chain_map (λ g. ps ∷ g) (next_fill l (i + 1) cs) (next_fill l i (c ∷ cs)) (begun l i cs (next_split (eqb i l) ps)) (fills l (i + 1) cs) (λ f _. next_fill_is l i c cs ps f) w.0,
      first_map (λ g. ps ∷ g) (fills l (i + 1) cs) (begun l i cs (next_split (eqb i l) ps)) ∙ ap (through (λ g. ps ∷ g) (begun l i cs (next_split (eqb i l) ps))) w.1,
    ))
    s.0 in
    (j.0, j.1 ∙ ap (begun l i cs) s.1)

-- by the leader's cell

abbrev pub turn : ℕ → List (List ℕ) → Turn
turn l f = record { leader = l; fill = f }

-- where the turns with the leader's cell from l on begin
abbrev pub turn_from : List ℕ → ℕ → Option Turn
turn_from cs l = cond (ltb l (length cs)) (Some (turn l (first_fill l 0 cs))) None

pub next_turn_is : (cs : List ℕ) (l : ℕ) (f : List (List ℕ))
    → next_turn cs (turn l f) ≡ through (turn l) (turn_from cs (l + 1)) (next_fill l 0 cs f)
next_turn_is cs l f = go (next_fill l 0 cs f)
  where
    go : (o : Option (List (List ℕ))) → elim o [ Some g ↦ Some (turn l g) | None ↦ turn_from cs (l + 1) ] ≡ through (turn l) (turn_from cs (l + 1)) o
    go (Some g) = refl
    go None = refl

pub turns_from : (cs : List ℕ) → Walk (next_turn cs) (turns cs) None (turn_from cs 0)
unfolding turns
turns_from cs = walk_counting (next_turn cs) (λ l. map (turn l) (fills l 0 cs)) (turn_from cs) 0 (length cs) each (cond-false _ _ _ (le-ltb (0 + length cs) (length cs) (omega arith)))
  where
    each : (l : ℕ) → 0 ≤ l → l < 0 + length cs → Walk (next_turn cs) (map (turn l) (fills l 0 cs)) (turn_from cs (l + 1)) (turn_from cs l)
    each l h k =
        let w = fills_walk l 0 cs in
        let is : turn_from cs l ≡ Some (turn l (first_fill l 0 cs)) = cond-true _ _ _ (lt-ltb l (length cs) (omega arith)) in (
          chain_map (turn l) (next_fill l 0 cs) (next_turn cs) (turn_from cs (l + 1)) (fills l 0 cs) (λ f _. next_turn_is cs l f) w.0,
          first_map (turn l) (fills l 0 cs) (turn_from cs (l + 1)) ∙ ap (through (turn l) (turn_from cs (l + 1))) w.1 ∙ sym is,
        )

pub turns_fit : TurnsFit
unfolding turns
turns_fit n cs cells t = (λ a. there (in_from_among (turns cs) t a), λ h. among_from_in (turns cs) t (back h))
  where
    there : In (turns cs) t → Fits cs t
    there h =
        let u = in_joined (λ l. map (turn l) (fills l 0 cs)) (range_with_len 0 (length cs)) t h in
        let v = in_map (turn u.0) (fills u.0 0 cs) t u.2 in
        let low = in_counting 0 (length cs) u.0 u.1 in
        subst (Fits cs) v.2 (record { leads = omega (arith, low.1); split = in_fills u.0 0 cs v.0 cells.filled v.1 })

    back : Fits cs t → In (turns cs) t
    back h =
        joined_in (λ l. map (turn l) (fills l 0 cs)) (range_with_len 0 (length cs)) t.leader t (counting_in 0 (length cs) t.leader (omega arith) (omega (arith, h.leads)))
        (map_in (turn t.leader) (fills t.leader 0 cs) t.fill (fill_found t.leader 0 cs t.fill cells.filled h.split))

pub turns_apart : TurnsApart
turns_apart n cs cells t b r b' r' = chain_apart (next_turn cs) (turns cs) t b r b' r' (turns_from cs).0

pub turns_begin : TurnsBegin
turns_begin n cs cells h = sym (first_or_none (turns cs)) ∙ (turns_from cs).1 ∙ cond-true _ _ _ (lt-ltb 0 (length cs) h)

pub turns_walk : TurnsWalk
turns_walk n cs cells b t r = chain_walks (next_turn cs) (turns cs) b r t (turns_from cs).0

-- a step stays among the turns that fit
pub next_fits : (n : ℕ) (cs : List ℕ) (t u : Turn) → CellsOf n cs → Fits cs t → next_turn cs t ≡ Some u → Fits cs u
next_fits n cs t u cells h e =
    let at = in_from_among (turns cs) t ((turns_fit n cs cells t).1 h) in
    (turns_fit n cs cells u).0 (among_from_in (turns cs) u (chain_next_in (next_turn cs) (turns cs) t u (turns_from cs).0 at e))

-- where all cells stand at their first splits, any of them may lead
pub first_fits_led : (n : ℕ) (cs : List ℕ) (l : ℕ) → CellsOf n cs → l < length cs → Fits cs (turn l (first_fill l 0 cs))
first_fits_led n cs l cells h = record { leads = h; split = in_fills l 0 cs (first_fill l 0 cs) cells.filled (first_in (fills l 0 cs) (first_fill l 0 cs) (fills_walk l 0 cs).1) }

pub first_fits : (n : ℕ) (cs : List ℕ) → CellsOf n cs → 0 < length cs → Fits cs (first_turn cs)
first_fits n cs cells h = first_fits_led n cs 0 cells h
