-- Theorems on one round from given cells, and on scenarios of many rounds.
use Rattle.std.specs.Prelude.{◌≡◌, ℕ, ◌+◌, ◌<◌, true, ◌↔◌, List, [], ◌∷◌, ◌++◌, length, replicate, Some}
use Rattle.scenarios.specs.declared.round.RoundScenario.{RoundScenario}
use Rattle.scenarios.specs.Cells.{CellsOf, inner}
use Rattle.scenarios.specs.Turns.{Turn, turns, weight, after, round}
use Rattle.scenarios.specs.Fits.{Among, Fits}
use Rattle.scenarios.specs.Steps.{first_of, first_turn, next_turn}
use Rattle.scenarios.specs.Canonical.{LegalRound, Legal, Alike, InOrder, Canonical, Together}
use Rattle.scenarios.specs.Scenarios.{count, scenario, residual}

-- within the cells the round stands in order, by neighbours
abbrev pub Ordered : ℕ → List ℕ → RoundScenario → Type 0
Ordered n cs r = (i : ℕ) → i + 1 < n → inner cs i ≡ true → InOrder r i (i + 1)

-- the turns are those that fit, each once, and the walk takes them in their order
abbrev pub TurnsFit : Type 0
TurnsFit = (n : ℕ) (cs : List ℕ) → CellsOf n cs → (t : Turn) → Among (turns cs) t ↔ Fits cs t

abbrev pub TurnsApart : Type 0
TurnsApart = (n : ℕ) (cs : List ℕ) → CellsOf n cs → (t : Turn) (b r b' r' : List Turn)
    → turns cs ≡ b ++ (t ∷ r) → turns cs ≡ b' ++ (t ∷ r') → (b ≡ b') × (r ≡ r')

abbrev pub TurnsBegin : Type 0
TurnsBegin = (n : ℕ) (cs : List ℕ) → CellsOf n cs → 0 < length cs → first_of (turns cs) ≡ Some (first_turn cs)

abbrev pub TurnsWalk : Type 0
TurnsWalk = (n : ℕ) (cs : List ℕ) → CellsOf n cs → (b : List Turn) (t : Turn) (r : List Turn)
    → turns cs ≡ b ++ (t ∷ r) → next_turn cs t ≡ first_of r

-- the round of a turn is legal and in order, and parts the cells as the turn says
pub record RoundStands (n : ℕ) (cs : List ℕ) (t : Turn) (d : ℕ) : Type 0 where
  pub cells : CellsOf n (after t)
  pub legal : LegalRound n (round t d)
  pub ordered : Ordered n cs (round t d)
  pub parts : (i : ℕ) → i + 1 < n → (inner (after t) i ≡ true) ↔ ((inner cs i ≡ true) × Alike (round t d) i)

abbrev pub RoundsStand : Type 0
RoundsStand = (n : ℕ) (cs : List ℕ) (t : Turn) (d : ℕ) → CellsOf n cs → Fits cs t → d < weight t → RoundStands n cs t d

-- each legal round that stands in order is the round of a turn and a number
abbrev pub RoundsFound : Type 0
RoundsFound = (n : ℕ) (cs : List ℕ) (r : RoundScenario) → CellsOf n cs → LegalRound n r → Ordered n cs r
    → (t : Turn) × (d : ℕ) × Fits cs t × (d < weight t) × (round t d ≡ r)

-- and of only one
abbrev pub RoundsApart : Type 0
RoundsApart = (n : ℕ) (cs : List ℕ) (t t' : Turn) (d d' : ℕ) → CellsOf n cs → Fits cs t → Fits cs t' → d < weight t → d' < weight t'
    → round t d ≡ round t' d' → (t ≡ t') × (d ≡ d')

-- ranks below the total and canonical legal scenarios correspond one to one
pub record Corresponds (n R : ℕ) : Type 0 where
  pub legal : (k : ℕ) → k < count R (n ∷ []) → Legal n R (scenario R (n ∷ []) k)
  pub canonical : (k : ℕ) → k < count R (n ∷ []) → Canonical n (scenario R (n ∷ []) k)
  pub apart : (k j : ℕ) → k < count R (n ∷ []) → j < count R (n ∷ []) → scenario R (n ∷ []) k ≡ scenario R (n ∷ []) j → k ≡ j
  pub found : (rs : List RoundScenario) → Legal n R rs → Canonical n rs → (k : ℕ) × (k < count R (n ∷ [])) × (scenario R (n ∷ []) k ≡ rs)

abbrev pub RanksCorrespond : Type 0
RanksCorrespond = (n R : ℕ) → 0 < n → Corresponds n R

-- the residual cells: neighbours share one exactly if all rounds leave them alike
abbrev pub CellsResidual : Type 0
CellsResidual = (n R k : ℕ) → 0 < n → k < count R (n ∷ [])
    → CellsOf n (residual R (n ∷ []) k) × ((i : ℕ) → i + 1 < n → (inner (residual R (n ∷ []) k) i ≡ true) ↔ Together (scenario R (n ∷ []) k) i)

-- one round, repeated, is canonical exactly if the round is
abbrev pub RepeatsCanonical : Type 0
RepeatsCanonical = (n R : ℕ) (r : RoundScenario) → 0 < R → Canonical n (replicate R r) ↔ Canonical n (r ∷ [])
