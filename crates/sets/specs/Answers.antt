-- What the calls on compromised sets answer, and leave in memory.
use Rattle.std.specs.Prelude.{◌≡◌, ℕ, cond, List, ◌++◌, length, drop, Some, None, Ok, Err, Option, Result, ◌==◌, nat_le, nat_lt}
use Rattle.refusals.specs.declared.Refusal.{Refusal}
use Rattle.refusals.specs.Refusals.{number_of}
use Rattle.scenarios.specs.Cells.{cells}
use Rattle.sets.specs.Sets.{sets, set_at}
use Rattle.sets.specs.Claims.{SetsCorrespond, SetsSuffice}

-- the number of the first rule that participants and faults break
abbrev pub faults_fault : ℕ → ℕ → Option ℕ
faults_fault n f = cond (nat_lt n 2) (Some 1) (cond (nat_lt 64 n) (Some 2) (cond (f == 0) (Some 3) (cond (nat_le n f) (Some 4) None)))

-- how many sets of f of n participants take a first few of each cell, and what that number stands for
abbrev pub SetsCounted : ℕ → ℕ → ℕ → Result ℕ Refusal → Type 0
SetsCounted n f s (Ok v) = (faults_fault n f ≡ None) × (v ≡ length (sets (cells n s) f)) × SetsCorrespond n f (cells n s) × SetsSuffice n f (cells n s)
SetsCounted n f s (Err e) = faults_fault n f ≡ Some (number_of e)

-- and of the first cause to refuse a set: memory too short, or no such number
abbrev pub set_fault : ℕ → ℕ → ℕ → ℕ → ℕ → Option ℕ
set_fault n f s k long =
    cond (nat_lt n 2) (Some 1) (cond (nat_lt 64 n) (Some 2) (cond (f == 0) (Some 3) (cond (nat_le n f) (Some 4)
    (cond (nat_lt long f) (Some 15) (cond (nat_le (length (sets (cells n s) f)) k) (Some 16) None)))))

-- the members of set k stand in front, and nothing behind them has changed; or nothing has changed
abbrev pub SetWritten : ℕ → ℕ → ℕ → ℕ → List ℕ → Result (Unit {0}) Refusal → List ℕ → Type 0
SetWritten n f s k xs (Ok _) ys = (set_fault n f s k (length xs) ≡ None) × (ys ≡ set_at (cells n s) f k ++ drop f xs)
SetWritten n f s k xs (Err e) ys = (set_fault n f s k (length xs) ≡ Some (number_of e)) × (ys ≡ xs)
