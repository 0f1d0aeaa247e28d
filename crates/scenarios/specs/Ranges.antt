-- What asking a residual state for its cells answers.
use Rattle.std.specs.Prelude.{◌≡◌, ℕ, ◌≤◌, cond, length, Some, None, Ok, Err, Option, Result, nat_lt}
use Rattle.arrayvec.specs.ArrayVec.{ArrayVec}
use Rattle.refusals.specs.declared.Refusal.{Refusal}
use Rattle.refusals.specs.Refusals.{number_of}
use Rattle.scenarios.specs.Cells.{cells, ranges_from}

-- the number of the rule that so many participants break
abbrev pub participants_fault : ℕ → Option ℕ
participants_fault n = cond (nat_lt n 2) (Some 1) (cond (nat_lt 64 n) (Some 2) None)

-- the cells are answered, no more than there are participants
abbrev pub RangesTold : ℕ → ℕ → Result (ArrayVec (ℕ × ℕ)) Refusal → Type 0
RangesTold n s (Ok r) = (participants_fault n ≡ None) × (r.items ≡ ranges_from 0 (cells n s)) × (length r.items ≤ n)
RangesTold n s (Err e) = participants_fault n ≡ Some (number_of e)
