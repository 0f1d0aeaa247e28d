-- What the slots hold while counting goes on.
use Rattle.std.specs.Prelude.{◌≡◌, ℕ, ◌*◌, ◌^◌, ◌<◌, ◌≤◌, min, List, [], ◌∷◌, map, length, get_or, take, drop, Some, None, Option, slice_index_or}
use Rattle.scenarios.specs.Cells.{boundaries}
use Rattle.scenarios.specs.Turns.{Turn, weight, after}
use Rattle.scenarios.specs.Fits.{Among}
use Rattle.table.specs.Places.{Place as Found}
use Rattle.scenarios.specs.declared.counting.Place.{Place}
use Rattle.scenarios.specs.Scenarios.{count}
use Rattle.scenarios.specs.Counting.{Slot, place, places, nexts, entry, zero_slot}

-- what a place means as a key
abbrev pub meant : Place → List ℕ
meant p = p.depth ∷ (p.state.boundaries ∷ [])

-- the places at depth m after one more round
abbrev pub afters : ℕ → ℕ → Place → List Place
afters n m p = map (place m) (nexts n p.state.boundaries)

-- the place at depth m after a turn
abbrev pub turned : ℕ → Turn → Place
turned m t = place m (boundaries (after t))

-- the first len of the slots ys hold the places ps, and those behind are as in xs
pub record Holds (ps : List Place) (len : ℕ) (xs ys : List Slot) : Type 0 where
  pub used : length ps ≡ len
  pub fits : len ≤ length ys
  pub long : length ys ≡ length xs
  pub keys : map (λ e. e.key) (take len ys) ≡ ps
  pub rest : drop len ys ≡ drop len xs

-- and from the slot i on each of them has its count
pub record Settled (n R : ℕ) (ps : List Place) (len i : ℕ) (xs ys : List Slot) : Type 0 where
  pub holds : Holds ps len xs ys
  pub done : (j : ℕ) → i ≤ j → j < len → slice_index_or ys j zero_slot ≡ entry n R (slice_index_or ps j (place 0 0))

-- a number of slots suffices for the places ps and they hold them, or there are too few
abbrev pub Kept : List Place → List Slot → Option ℕ → List Slot → Type 0
Kept ps xs (Some len) ys = Holds ps len xs ys
Kept ps xs None ys = length xs < length ps

-- the value at a place of the slots, if any
abbrev pub value_at : List Slot → Option ℕ → ℕ
value_at xs (Some i) = (get_or xs i zero_slot).value
value_at xs None = 0

-- v is the value that a search of the first len slots finds for a place, or 0
abbrev pub Valued : Place → ℕ → List Slot → ℕ → Type 0
Valued p len xs v = (o : Option ℕ) × Found (λ e. meant e.key ≡ meant p) xs (min len (length xs)) o × (v ≡ value_at xs o)

-- for the place after each of these turns a value is found, and f of the turn is its weight times that value
abbrev pub Finds : (Turn → ℕ) → ℕ → ℕ → List Slot → List Turn → Type 0
Finds f m len xs ts = (t : Turn) → Among ts t → (v : ℕ) → Valued (turned m t) len xs v → (0 < v) × (f t ≡ weight t * v)

-- a number is v, or v does not fit in 64 bits
abbrev pub FitsAs : ℕ → Option ℕ → Type 0
FitsAs v (Some x) = x ≡ v
FitsAs v None = 2 ^ 64 ≤ v

-- each place has its count, or the total does not fit
abbrev pub SettledOr : ℕ → ℕ → ℕ → List Slot → Option Unit → List Slot → Type 0
SettledOr n R len xs (Some _) ys = Settled n R (places n R) len 0 xs ys
SettledOr n R len xs None ys = 2 ^ 64 ≤ count R (n ∷ [])
