-- Compromised sets: sets of f participants, and those that take a first few members of each cell, in their order.
use Rattle.std.specs.Prelude.{◌≡◌, ℕ, suc, ◌+◌, ◌-◌, ◌<◌, ◌≤◌, min, true, cond, List, [], ◌∷◌, ◌++◌, map, length, ◌==◌, nat_lt, slice_index_or}
use Rattle.orders.specs.Members.{member}
use Rattle.std.specs.List.{range_with_len, flat_map}

-- numbers that rise, from low on and below n
abbrev pub Upwards : ℕ → ℕ → List ℕ → Type 0
Upwards low n [] = Unit {0}
Upwards low n (x ∷ xs) = (low ≤ x) × (x < n) × Upwards (suc x) n xs

-- a set of f of the participants 0 to n - 1, written upwards
pub record SetOf (n f : ℕ) (s : List ℕ) : Type 0 where
  pub upwards : Upwards 0 n s
  pub exactly : length s ≡ f

-- which of the cells of these sizes participant i is in
abbrev pub cell_of : List ℕ → ℕ → ℕ
cell_of [] i = 0
cell_of (c ∷ cs) i = cond (nat_lt i c) 0 (suc (cell_of cs (i - c)))

-- the set takes a first few members of each cell
abbrev pub FirstFew : ℕ → List ℕ → List ℕ → Type 0
FirstFew n cs s = (i j : ℕ) → i < j → j < n → cell_of cs i ≡ cell_of cs j → member s j ≡ true → member s i ≡ true

-- how many to take from each cell, f in all: by the number taken from the first cell, 0 first, then by the next
abbrev pub amounts : List ℕ → ℕ → List (List ℕ)
amounts [] f = cond (f == 0) ([] ∷ []) []
amounts (c ∷ cs) f = flat_map (λ t. map (λ ts. t ∷ ts) (amounts cs (f - t))) (range_with_len 0 (min c f + 1))

-- the first few members of each cell, so many of each; the first cell begins at start
abbrev pub firsts : ℕ → List ℕ → List ℕ → List ℕ
firsts start cs [] = []
firsts start [] (t ∷ ts) = []
firsts start (c ∷ cs) (t ∷ ts) = range_with_len start t ++ firsts (start + c) cs ts

-- the sets that take a first few members of each cell, f in all, in their order
unfoldable pub sets : List ℕ → ℕ → List (List ℕ)
sets cs f = map (firsts 0 cs) (amounts cs f)

abbrev pub set_at : List ℕ → ℕ → ℕ → List ℕ
set_at cs f k = slice_index_or (sets cs f) k []
