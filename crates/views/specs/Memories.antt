-- Words for the contracts of inner functions.
use Rattle.std.specs.Prelude.{◌≡◌, ℕ, List, length, Some, None, Ok, Err, Option, Result}
use Rattle.refusals.specs.declared.Refusal.{Refusal}
use Rattle.refusals.specs.Refusals.{number_of}
use Rattle.views.specs.Groups.{memory_fault, Written}

-- two groups written into two memories; or one memory is too short, and nothing has changed
abbrev pub BothWritten : {N : Type 0} → List N → List N → List N → List N → Result (ℕ × ℕ) Refusal → List N → List N → Type 0
BothWritten first second xs ys (Ok sizes) xs' ys' = (memory_fault first second (length xs) (length ys) ≡ None) × Written first second xs ys sizes xs' ys'
BothWritten first second xs ys (Err e) xs' ys' = (memory_fault first second (length xs) (length ys) ≡ Some (number_of e)) × (xs' ≡ xs) × (ys' ≡ ys)

-- no fault, and a value of which something holds; or the fault's number
abbrev pub UnlessFault : {X : Type 0} → Option ℕ → (X → Type 0) → Result X Refusal → Type 0
UnlessFault fault P (Ok x) = (fault ≡ None) × P x
UnlessFault fault P (Err e) = fault ≡ Some (number_of e)
