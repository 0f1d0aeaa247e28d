-- Residual cells: by their sizes, in the order of participants, and by the mask of their boundaries.
use Rattle.std.specs.Prelude.{◌≡◌, ℕ, ◌+◌, ◌-◌, ◌*◌, ◌%◌, ◌^◌, ◌<◌, Bool, false, cond, List, [], ◌∷◌, map, nat_lt}
use Rattle.std.specs.List.{range_with_len, AllByRecursion}
use Rattle.scenarios.specs.Masks.{bit}

abbrev pub total : List ℕ → ℕ
total [] = 0
total (x ∷ xs) = x + total xs

-- cells of n participants: none is empty, and together they hold all
pub record CellsOf (n : ℕ) (cs : List ℕ) : Type 0 where
  pub filled : AllByRecursion (λ c. 0 < c) cs
  pub whole : total cs ≡ n

-- the sizes of the cells, from a flag for each participant but the last: whether a cell ends after it
abbrev pub cut : ℕ → List Bool → List ℕ
cut size [] = size ∷ []
cut size (b ∷ bs) = cond b (size ∷ cut 1 bs) (cut (size + 1) bs)

-- the cells of n participants that a mask of boundaries says
unfoldable pub cells : ℕ → ℕ → List ℕ
cells n s = cut 1 (map (bit s) (range_with_len 0 (n - 1)))

-- the mask with a bit at the last participant of each cell
abbrev pub ends : List ℕ → ℕ
ends [] = 0
ends (c ∷ cs) = 2 ^ (c - 1) + 2 ^ c * ends cs

-- the mask of boundaries of these cells: no bit stands for the last participant of all
unfoldable pub boundaries : List ℕ → ℕ
boundaries cs = ends cs % 2 ^ (total cs - 1)

-- whether participants i and i + 1 are in one cell
abbrev pub inner : List ℕ → ℕ → Bool
inner [] i = false
inner (c ∷ cs) i = cond (nat_lt i c) (nat_lt (i + 1) c) (inner cs (i - c))

-- cells of these sizes as (start, len) ranges
abbrev pub ranges_from : ℕ → List ℕ → List (ℕ × ℕ)
ranges_from start [] = []
ranges_from start (c ∷ cs) = (start, c) ∷ ranges_from (start + c) cs
