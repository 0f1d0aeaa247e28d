-- A turn is told by the cell that leads and the state after it.
use Rattle.std.proofs.Common.{◌≡◌, ℕ, ◌+◌, ◌<◌, List, [], ◌∷◌, ◌++◌, sym, refl, ap, ◌∙◌, subst, arith}
use Rattle.std.specs.List.{flat_map, AllByRecursion}
use Rattle.scenarios.specs.Cells.{total, CellsOf, cells, boundaries}
use Rattle.scenarios.specs.Turns.{Turn, after}
use Rattle.scenarios.specs.Fits.{Fills, Fits}
use Rattle.scenarios.proofs.States.{cells_boundaries}
use Rattle.scenarios.proofs.Rounding.{rounds_stand}
use Rattle.scenarios.proofs.Weighing.{weight_some}

-- positive parts that begin two equal lists and have one total are the same
same_front : (ps qs xs ys : List ℕ) → AllByRecursion (λ p. 0 < p) ps → AllByRecursion (λ p. 0 < p) qs → total ps ≡ total qs → ps ++ xs ≡ qs ++ ys → (ps ≡ qs) × (xs ≡ ys)
same_front [] [] xs ys a b t e = (refl, e)
same_front [] (q ∷ qs) xs ys a b t e = absurd (let h = b.0 in omega arith)
same_front (p ∷ ps) [] xs ys a b t e = absurd (let h = a.0 in omega arith)
same_front (p ∷ ps) (q ∷ qs) xs ys a b t e =
    let h : p ≡ q = cc in
    let k : ps ++ xs ≡ qs ++ ys = cc in
    let ih = same_front ps qs xs ys a.1 b.1 (omega arith) k in
    (cc (h, ih.0), ih.1)

same_fill : (l i : ℕ) (cs : List ℕ) (f g : List (List ℕ)) → Fills l i cs f → Fills l i cs g → flat_map (λ ps. ps) f ≡ flat_map (λ ps. ps) g → f ≡ g
same_fill l i [] [] [] a b e = refl
same_fill l i [] [] (q ∷ g) a b e = absurd b
same_fill l i [] (p ∷ f) g a b e = absurd a
same_fill l i (c ∷ cs) [] g a b e = absurd a
same_fill l i (c ∷ cs) (p ∷ f) [] a b e = absurd b
same_fill l i (c ∷ cs) (p ∷ f) (q ∷ g) a b e =
    let s = same_front p q (flat_map (λ ps. ps) f) (flat_map (λ ps. ps) g) a.0.filled b.0.filled (a.0.whole ∙ sym b.0.whole) e in
    let r = same_fill l (i + 1) cs f g a.1 b.1 s.1 in
    cc (s.0, r)

-- the cells after a turn are cells of all participants
pub fits_cells : (n : ℕ) (cs : List ℕ) (t : Turn) → CellsOf n cs → Fits cs t → CellsOf n (after t)
fits_cells n cs t c f = (rounds_stand n cs t 0 c f (weight_some cs t f)).cells

pub same_turn : (n : ℕ) (cs : List ℕ) (t u : Turn) → 0 < n → CellsOf n cs → Fits cs t → Fits cs u → t.leader ≡ u.leader → boundaries (after t) ≡ boundaries (after u) → t ≡ u
unfolding after
same_turn n cs t u h c ft fu l b =
    let a : after t ≡ after u = sym (cells_boundaries n (after t) h (fits_cells n cs t c ft)) ∙ ap (cells n) b ∙ cells_boundaries n (after u) h (fits_cells n cs u c fu) in
    let s : Fills t.leader 0 cs u.fill = subst (λ k. Fills k 0 cs u.fill) (sym l) fu.split in
    let f = same_fill t.leader 0 cs t.fill u.fill ft.split s a in
    λ i. record { leader = l i; fill = f i }
