-- The refinements of the code as lists of parts.
use Rattle.std.specs.Prelude.{◌≡◌, ℕ, ◌<◌, ◌≤◌, Bool, List, length, take, Some, None, Option, slice_index}
use Rattle.scenarios.specs.Steps.{next_composition, next_split}
use Rattle.scenarios.specs.declared.refinement.LocalRefinement.{LocalRefinement}

abbrev pub sizes : LocalRefinement → List ℕ
sizes r = take r.len r.parts

-- the last part with more than one member
abbrev pub LastAbove : List ℕ → Option ℕ → Type 0
LastAbove ps None = (k : ℕ) → k < length ps → slice_index ps k ≤ 1
LastAbove ps (Some j) = (j < length ps) × (1 < slice_index ps j) × ((k : ℕ) → j < k → k < length ps → slice_index ps k ≤ 1)

-- what a step to the next composition answers: parts without a leader
abbrev pub Composed : List ℕ → Option LocalRefinement → Type 0
Composed ps None = next_composition ps ≡ None
Composed ps (Some r) = (next_composition ps ≡ Some (sizes r)) × (r.len ≤ 4)

-- what a step to the next refinement answers
abbrev pub Refined : Bool → List ℕ → Option LocalRefinement → Type 0
Refined led ps None = next_split led ps ≡ None
Refined led ps (Some r) = next_split led ps ≡ Some (sizes r)
