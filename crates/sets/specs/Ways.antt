-- Words for the walks over the cells: what they carry from cell to cell.
use Rattle.std.specs.Prelude.{◌≡◌, ℕ, ◌+◌, ◌-◌, ◌<◌, ◌≤◌, min, List, [], ◌∷◌, ◌++◌, map, length, slice_index, slice_index_or}
use Rattle.std.specs.List.{range_with_len}
use Rattle.scenarios.specs.Cells.{total}
use Rattle.sets.specs.Sets.{amounts}

-- the sizes of cells given as (start, len) ranges
abbrev pub sizes : List (ℕ × ℕ) → List ℕ
sizes rs = map (λ (x : ℕ × ℕ). x.1) rs

-- cells that are not empty, each from where the one before it ends, up to 64 at most
abbrev pub RowFrom : ℕ → List (ℕ × ℕ) → Type 0
RowFrom start [] = start ≤ 64
RowFrom start (r ∷ rs) = (r.0 ≡ start) × (0 < r.1) × RowFrom (start + r.1) rs

abbrev pub InRow : List (ℕ × ℕ) → Type 0
InRow rs = (start : ℕ) × RowFrom start rs

-- for each number of faults below 64, how many sets the cells have
abbrev pub Ways : List ℕ → List ℕ → Type 0
Ways ways cs = (k : ℕ) → k < 64 → slice_index ways k ≡ length (amounts cs k)

-- how many sets of k faults take fewer than n from a cell before those that have these ways
abbrev pub ways_below : List ℕ → ℕ → ℕ → ℕ
ways_below ways k n = total (map (λ t. slice_index ways (k - t)) (range_with_len 0 n))

-- how many sets of k faults there are with a cell of c members before those that have these ways
abbrev pub with_one_more : List ℕ → ℕ → ℕ → ℕ
with_one_more ways c k = ways_below ways k (min c k + 1)

-- the first few members of each of these cells, so many of each
abbrev pub members_of : List (ℕ × ℕ) → List ℕ → List ℕ
members_of [] ts = []
members_of (r ∷ rs) [] = []
members_of (r ∷ rs) (t ∷ ts) = range_with_len r.0 t ++ members_of rs ts

-- the set of number k, of those of f faults that these cells have
abbrev pub allocated : List (ℕ × ℕ) → ℕ → ℕ → List ℕ
allocated rs f k = members_of rs (slice_index_or (amounts (sizes rs) f) k [])
