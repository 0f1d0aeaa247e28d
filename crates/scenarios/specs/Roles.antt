-- The roles of the code as letters.
use Rattle.std.specs.Prelude.{◌≡◌, ℕ, ◌-◌, ◌<◌, List, map, Some, None, Option}
use Rattle.scenarios.specs.declared.role.Role.{Role}
use Rattle.scenarios.specs.declared.role.Role.TheVariants.{Outside, Both, Secondary, Primary}

abbrev pub number : Role → ℕ
number Outside = 0
number Both = 1
number Secondary = 2
number Primary = 3

abbrev pub letters : List Role → List ℕ
letters rs = map number rs

-- the placement of a leader whose role stands at the place h; none at the first place, where no half hears it
abbrev pub PlacedAs : ℕ → Option ℕ → Type 0
PlacedAs h None = h ≡ 0
PlacedAs h (Some k) = (0 < h) × (k ≡ 3 - h)
