-- Finite sets of numbers, as lists.
use Rattle.std.specs.Prelude.{ℕ, Bool, false, ◌||◌, List, [], ◌∷◌, ◌==◌}

abbrev pub member : List ℕ → ℕ → Bool
member [] i = false
member (x ∷ xs) i = x == i || member xs i
