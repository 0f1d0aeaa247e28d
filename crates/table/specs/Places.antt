-- Where an entry stands in the first n slots of a table, and what adding one does.
use Rattle.std.specs.Prelude.{◌≡◌, ℕ, ◌<◌, ◌≤◌, List, length, Some, None, Option, Ok, Err, Result, slice_set}
use Rattle.std.specs.List.{AllWithin, HoldsAt}
use Rattle.table.specs.declared.NotAdded.{NotAdded}
use Rattle.table.specs.declared.NotAdded.TheVariants.{There, Full}

-- the first of n slots that passes, or none of them does
abbrev pub Place : {E : Type 0} → (E → Type 0) → List E → ℕ → Option ℕ → Type 0
Place P xs n None = AllWithin (λ e. P e → ⊥) xs 0 n
Place P xs n (Some i) = (i < n) × HoldsAt P xs i × AllWithin (λ e. P e → ⊥) xs 0 i

-- the slots ys after an entry e is added behind the first n of xs; that one of them passes is said before that no slot is left
abbrev pub AddedAs : {E : Type 0} → (E → Type 0) → E → List E → ℕ → Result ℕ NotAdded → List E → Type 0
AddedAs P e xs n (Ok i) ys = (i ≡ n) × (n < length xs) × Place P xs n None × (ys ≡ slice_set xs n e)
AddedAs P e xs n (Err There) ys = ((i : ℕ) × Place P xs n (Some i)) × (ys ≡ xs)
AddedAs P e xs n (Err Full) ys = (length xs ≤ n) × Place P xs n None × (ys ≡ xs)
