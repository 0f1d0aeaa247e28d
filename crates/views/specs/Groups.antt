-- The groups of names that the two halves hear at a view, by a script of rounds.
use Rattle.std.specs.Prelude.{◌≡◌, ℕ, ◌+◌, cond, ◌||◌, List, [], ◌∷◌, ◌++◌, length, drop, Some, None, Ok, Err, Option, Result, ◌==◌, nat_lt}
use Rattle.std.specs.List.{slice_get}
use Rattle.refusals.specs.declared.Refusal.{Refusal}
use Rattle.refusals.specs.Refusals.{number_of}
use Rattle.scenarios.specs.declared.round.RoundScenario.{RoundScenario}
use Rattle.scenarios.specs.Masks.{bit}
use Rattle.terms.specs.Terms.{script_place}

-- the round that a script plays at a view, or none past the script
abbrev pub round_at : List RoundScenario → ℕ → ℕ → Option RoundScenario
round_at rounds term view = slice_get rounds (script_place term view)

-- the names whose places are in the mask, in list order; the first place is i
abbrev pub picked : {N : Type 0} → ℕ → ℕ → List N → List N
picked mask i [] = []
picked mask i (x ∷ xs) = cond (bit mask i) (x ∷ picked mask (i + 1) xs) (picked mask (i + 1) xs)

-- whom each half hears: by its mask, and past the script all names
abbrev pub primary_group : {N : Type 0} → Option RoundScenario → List N → List N
primary_group None names = names
primary_group (Some r) names = picked r.primary 0 names

abbrev pub secondary_group : {N : Type 0} → Option RoundScenario → List N → List N
secondary_group None names = names
secondary_group (Some r) names = picked r.secondary 0 names

-- the number of the first cause to refuse a script, a term length or a list of names
abbrev pub script_fault : {N : Type 0} → List RoundScenario → ℕ → List N → Option ℕ
script_fault rounds term names = cond (nat_lt 64 (length rounds)) (Some 7) (cond (term == 0) (Some 18) (cond (nat_lt 64 (length names)) (Some 19) None))

-- two groups, and what memory of this length holds of them
abbrev pub memory_fault : {N : Type 0} → List N → List N → ℕ → ℕ → Option ℕ
memory_fault first second long long' = cond (nat_lt long (length first) || nat_lt long' (length second)) (Some 22) None

abbrev pub or_else : Option ℕ → Option ℕ → Option ℕ
or_else None b = b
or_else (Some a) b = Some a

-- the first group stands in front of its memory, the second in front of its own, and nothing behind them has changed;
-- the answer is their sizes
pub record Written {N : Type 0} (first second xs ys : List N) (sizes : ℕ × ℕ) (xs' ys' : List N) : Type 0 where
  pub first_size : sizes.0 ≡ length first
  pub second_size : sizes.1 ≡ length second
  pub first_written : xs' ≡ first ++ drop (length first) xs
  pub second_written : ys' ≡ second ++ drop (length second) ys

abbrev pub groups_fault : {N : Type 0} → List RoundScenario → ℕ → ℕ → List N → ℕ → ℕ → Option ℕ
groups_fault rounds term view names long long' =
    or_else (script_fault rounds term names) (memory_fault (primary_group (round_at rounds term view) names) (secondary_group (round_at rounds term view) names) long long')

-- the groups at a view; or nothing has changed
abbrev pub GroupsTold : {N : Type 0} → List RoundScenario → ℕ → ℕ → List N → List N → List N → Result (ℕ × ℕ) Refusal → List N → List N → Type 0
GroupsTold rounds term view names xs ys (Ok sizes) xs' ys' =
    (groups_fault rounds term view names (length xs) (length ys) ≡ None)
    × Written (primary_group (round_at rounds term view) names) (secondary_group (round_at rounds term view) names) xs ys sizes xs' ys'
GroupsTold rounds term view names xs ys (Err e) xs' ys' =
    (groups_fault rounds term view names (length xs) (length ys) ≡ Some (number_of e)) × (xs' ≡ xs) × (ys' ≡ ys)
