-- Ranks and canonical legal scenarios correspond, from any cells. Takes what holds of one round as arguments.
use Rattle.std.proofs.Common.{◌≡◌, ℕ, zero, suc, ◌<◌, List, [], ◌∷◌, ◌++◌, refl, ap, subst, append_assoc, arith}
use Rattle.std.proofs.lemmas.List.{append-nil}
use Rattle.scenarios.specs.declared.round.RoundScenario.{RoundScenario}
use Rattle.scenarios.specs.Cells.{CellsOf}
use Rattle.scenarios.specs.Turns.{Turn, turns, weight, after, round}
use Rattle.scenarios.specs.Fits.{Fits}
use Rattle.scenarios.specs.Canonical.{Legal}
use Rattle.scenarios.specs.Claims.{TurnsFit, TurnsApart, RoundsStand, RoundsFound, RoundsApart, RoundStands}
use Rattle.scenarios.specs.Scenarios.{count, scenario, residual}
use Rattle.scenarios.specs.Claims.{RanksCorrespond, CellsResidual}
use Rattle.scenarios.proofs.Picks.{Begins, rank, scenario_step, scenario_first}
use Rattle.scenarios.proofs.Neighbours.{Follows, canonical_from, canonical_to, Tied, one_cell_of, tied_first, tied_step}

-- after the rounds before, rs are r legal rounds in order, and leave the cells cs
pub record Stands (n r : ℕ) (before rs : List RoundScenario) (cs : List ℕ) : Type 0 where
  pub legal : Legal n r rs
  pub follows : Follows n before rs
  pub cells : CellsOf n cs
  pub tied : Tied n cs (before ++ rs)

module _ (fit : TurnsFit) (stand : RoundsStand) (n : ℕ) where
  pub fits_at : (cs : List ℕ) → CellsOf n cs → {r k : ℕ} → (b : Begins r cs k) → Fits cs b.turn
  fits_at cs c b = (fit n cs c b.turn).0 (b.before, b.rest, b.splits)

  pub stands_at : (cs : List ℕ) → CellsOf n cs → {r k : ℕ} → (b : Begins r cs k) → RoundStands n cs b.turn b.number
  stands_at cs c b = stand n cs b.turn b.number c (fits_at cs c b) b.number_below

  stands_more : (r : ℕ) (cs : List ℕ) (t : Turn) (d : ℕ) (before rs rs' : List RoundScenario) (cs' cs'' : List ℕ) → Tied n cs before → RoundStands n cs t d
      → rs ≡ round t d ∷ rs' → cs' ≡ cs'' → Stands n r (before ++ (round t d ∷ [])) rs' cs'' → Stands n (suc r) before rs cs'
  stands_more r cs t d before rs rs' cs' cs'' w s e e' h = rw (e, e') (record {
    legal = record { enough = ap suc h.legal.enough; each = (s.legal, h.legal.each) };
    follows = (λ i l k. s.ordered i l ((w i l).1 k), h.follows);
    cells = h.cells;
    tied = rw append_assoc at h.tied;
  })

  pub scenario_stands : (r : ℕ) (cs : List ℕ) (before : List RoundScenario) (k : ℕ) → CellsOf n cs → Tied n cs before → k < count r cs
      → Stands n r before (scenario r cs k) (residual r cs k)
  scenario_stands zero cs before k c w l = record { legal = record { enough = refl; each = tt }; follows = tt; cells = c; tied = rw append-nil w }
  scenario_stands (suc r) cs before k c w l =
      let b = scenario_first r cs k l in
      let s = stands_at cs c b in
      stands_more r cs b.turn b.number before (scenario (suc r) cs k) (scenario r (after b.turn) b.left) (residual (suc r) cs k) (residual r (after b.turn) b.left) w s b.scenario_is b.residual_is
      (scenario_stands r (after b.turn) (before ++ (round b.turn b.number ∷ [])) b.left s.cells (tied_step n cs b.turn b.number before s w) b.left_below)

  pub scenario_apart : TurnsApart → RoundsApart → (r : ℕ) (cs : List ℕ) (k j : ℕ) → CellsOf n cs → k < count r cs → j < count r cs
      → scenario r cs k ≡ scenario r cs j → k ≡ j
  scenario_apart turns_apart rounds_apart zero cs k j c lk lj e = omega arith
  scenario_apart turns_apart rounds_apart (suc r) cs k j c lk lj e =
      let a = scenario_first r cs k lk in
      let b = scenario_first r cs j lj in
      let heads : round a.turn a.number ≡ round b.turn b.number = cc in
      let same = rounds_apart n cs a.turn b.turn a.number b.number c (fits_at cs c a) (fits_at cs c b) a.number_below b.number_below heads in
      let same_turn = same.0 in
      let splits : turns cs ≡ b.before ++ (a.turn ∷ b.rest) = cc in
      let same_before = (turns_apart n cs c a.turn a.before a.rest b.before b.rest a.splits splits).0 in
      let rests : scenario r (after a.turn) a.left ≡ scenario r (after a.turn) b.left = cc in
      let below : b.left < count r (after a.turn) = rw same_turn b.left_below in
      let same_left = scenario_apart turns_apart rounds_apart r (after a.turn) a.left b.left (stands_at cs c a).cells a.left_below below rests in
      cc

  pub scenario_found : RoundsFound → (r : ℕ) (cs : List ℕ) (before rs : List RoundScenario) → CellsOf n cs → Tied n cs before → Legal n r rs → Follows n before rs
      → (k : ℕ) × (k < count r cs) × (scenario r cs k ≡ rs)
  scenario_found found zero cs before [] c w g f = (0, omega arith, refl)
  scenario_found found zero cs before (x ∷ rs) c w g f = absurd (omega arith)
  scenario_found found (suc r) cs before [] c w g f = absurd (omega arith)
  scenario_found found (suc r) cs before (x ∷ rs) c w g f =
      let h = found n cs x c g.each.0 (λ i l e. f.0 i l ((w i l).0 e)) in
      go h.0 h.1 h.2 h.3 h.4 (λ cs' c' w'. scenario_found found r cs' (before ++ (x ∷ [])) rs c' w' (record { enough = omega arith; each = g.each.1 }) f.1)
    where
      go : (t : Turn) (d : ℕ) → Fits cs t → d < weight t → round t d ≡ x
          → ((cs' : List ℕ) → CellsOf n cs' → Tied n cs' (before ++ (x ∷ [])) → (k : ℕ) × (k < count r cs') × (scenario r cs' k ≡ rs))
          → (k : ℕ) × (k < count (suc r) cs) × (scenario (suc r) cs k ≡ x ∷ rs)
      go t d fits l e more =
          let s = stand n cs t d c fits l in
          let a = (fit n cs c t).1 fits in
          let m = more (after t) s.cells (subst (λ y. Tied n (after t) (before ++ (y ∷ []))) e (tied_step n cs t d before s w)) in
          let b = scenario_step r cs a.0 t a.1 d m.0 a.2 l m.1 in
          let same = m.2 in
          let begins = b.0 in
          (rank r a.0 t d m.0, b.2, cc)

pub ranks_correspond : TurnsFit → TurnsApart → RoundsStand → RoundsFound → RoundsApart → RanksCorrespond
ranks_correspond fit turns_apart stand found rounds_apart n R h = record {
  legal = λ k l. (stands k l).legal;
  canonical = λ k l. canonical_to n (scenario R (n ∷ []) k) (stands k l).follows;
  apart = λ k j. scenario_apart fit stand n turns_apart rounds_apart R (n ∷ []) k j (one_cell_of n h);
  found = λ rs g c. scenario_found fit stand n found R (n ∷ []) [] rs (one_cell_of n h) (tied_first n) g (canonical_from n rs c);
}
  where
    stands : (k : ℕ) → k < count R (n ∷ []) → Stands n R [] (scenario R (n ∷ []) k) (residual R (n ∷ []) k)
    stands k = scenario_stands fit stand n R (n ∷ []) [] k (one_cell_of n h) (tied_first n)

pub cells_residual : TurnsFit → RoundsStand → CellsResidual
cells_residual fit stand n R k h l =
    let s = scenario_stands fit stand n R (n ∷ []) [] k (one_cell_of n h) (tied_first n) l in
    (s.cells, s.tied)
