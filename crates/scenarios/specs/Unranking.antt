-- The steps of unranking.
use Rattle.std.specs.Prelude.{◌≡◌, ℕ, ◌+◌, ◌-◌, ◌<◌, List, [], ◌∷◌, ◌++◌, drop}
use Rattle.scenarios.specs.declared.cell.CellState.{CellState}
use Rattle.scenarios.specs.declared.round.RoundScenario.{RoundScenario}
use Rattle.scenarios.specs.declared.unrank.Step.{Step}
use Rattle.scenarios.specs.Cells.{cells, boundaries}
use Rattle.scenarios.specs.Fits.{Among}
use Rattle.scenarios.specs.Counting.{layer}
use Rattle.scenarios.specs.Scenarios.{count, scenario, residual}

-- the first round of the continuation of this rank from the state s after d of R rounds, and what continues behind it
pub record Stepped (n R d s rank : ℕ) (x : Step) : Type 0 where
  pub layered : Among (layer n (d + 1)) x.next.boundaries
  pub below : x.left < count (R - (d + 1)) (cells n x.next.boundaries)
  pub rounds_are : scenario (R - d) (cells n s) rank ≡ x.round ∷ scenario (R - (d + 1)) (cells n x.next.boundaries) x.left
  pub cells_are : residual (R - d) (cells n s) rank ≡ residual (R - (d + 1)) (cells n x.next.boundaries) x.left

-- the scenario of this rank stands in front, nothing behind it has changed, and the state is that of the cells that it leaves
abbrev pub RoundsTold : ℕ → ℕ → ℕ → List RoundScenario → CellState → List RoundScenario → Type 0
RoundsTold n R rank xs s ys =
    (ys ≡ scenario R (n ∷ []) rank ++ drop R xs) × (s.boundaries ≡ boundaries (residual R (n ∷ []) rank))
