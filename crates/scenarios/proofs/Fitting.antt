-- What a turn from given cells leaves: whole cells, and a weight of at least one. From any cells there is a turn.
use Rattle.std.proofs.Common.{ℕ, ◌<◌, ◌≤◌, List, [], ◌∷◌, length, arith}
use Rattle.scenarios.specs.Cells.{CellsOf}
use Rattle.scenarios.specs.Turns.{Turn, weight, after, turns}
use Rattle.scenarios.specs.Fits.{Among}
use Rattle.scenarios.specs.Steps.{first_turn}
use Rattle.scenarios.proofs.Walks.{turns_fit, first_fits}
use Rattle.scenarios.proofs.Weighing.{weight_some}
use Rattle.scenarios.proofs.Rounding.{rounds_stand}

pub turn_cells : (n : ℕ) (cs : List ℕ) (t : Turn) → CellsOf n cs → Among (turns cs) t → CellsOf n (after t)
turn_cells n cs t c a = let f = (turns_fit n cs c t).0 a in (rounds_stand n cs t 0 c f (weight_some cs t f)).cells

pub turn_weight : (n : ℕ) (cs : List ℕ) (t : Turn) → CellsOf n cs → Among (turns cs) t → 1 ≤ weight t
turn_weight n cs t c a = weight_some cs t ((turns_fit n cs c t).0 a)

some_cell : (n : ℕ) (cs : List ℕ) → 0 < n → CellsOf n cs → 0 < length cs
some_cell n [] h c = absurd (let w = c.whole in omega arith)
some_cell n (d ∷ ds) h c = omega arith

pub turns_some : (n : ℕ) (cs : List ℕ) → 0 < n → CellsOf n cs → Among (turns cs) (first_turn cs)
turns_some n cs h c = (turns_fit n cs c (first_turn cs)).1 (first_fits n cs c (some_cell n cs h c))
