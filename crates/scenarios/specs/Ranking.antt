-- The rank of a script: where the scenarios that begin with a round start, and the rank of all its rounds.
use Rattle.std.specs.Prelude.{◌≡◌, ℕ, ◌+◌, ◌*◌, ◌<◌, List, [], ◌∷◌, ◌++◌, length, Some, None, Option}
use Rattle.std.specs.List.{AllByRecursion}
use Rattle.scenarios.specs.declared.round.RoundScenario.{RoundScenario}
use Rattle.scenarios.specs.declared.read.RoundRank.{RoundRank}
use Rattle.scenarios.specs.Cells.{cells, boundaries}
use Rattle.scenarios.specs.Turns.{Turn, turns, weight, after}
use Rattle.scenarios.specs.Fits.{Fits}
use Rattle.scenarios.specs.Canonical.{LegalRound, Canonical}
use Rattle.scenarios.specs.Scenarios.{sum_of, count, scenario}

-- what was read tells of the turn t from the cells of s, and of the number of a round in it
pub record Tells (n s : ℕ) (x : RoundRank) (t : Turn) : Type 0 where
  pub fits : Fits (cells n s) t
  pub leads : t.leader ≡ x.leader_cell
  pub leaves : boundaries (after t) ≡ x.next.boundaries
  pub below : x.rank < weight t

-- v is the rank of the first scenario that begins with the round d of t and goes on for r rounds:
-- before it stand the scenarios of the turns before t, and those of the rounds before d
pub record FirstRank (r : ℕ) (cs : List ℕ) (t : Turn) (d v : ℕ) : Type 0 where
  pub before : List Turn
  pub rest : List Turn
  pub splits : turns cs ≡ before ++ (t ∷ rest)
  pub is : v ≡ sum_of (λ u. weight u * count r (after u)) before + d * count r (after t)

-- the rank of the rounds; none only if they are not legal or not canonical
abbrev pub RankTold : ℕ → List RoundScenario → Option ℕ → Type 0
RankTold n rs (Some k) = (k < count (length rs) (n ∷ [])) × (scenario (length rs) (n ∷ []) k ≡ rs)
RankTold n rs None = AllByRecursion (LegalRound n) rs → Canonical n rs → ⊥
