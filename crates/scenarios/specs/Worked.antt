-- Worked numbers, as theorems about the definitions.
use Rattle.std.specs.Prelude.{◌≡◌, ℕ, ◌^◌, ◌≤◌, [], ◌∷◌, Some, None}
use Rattle.scenarios.specs.declared.round.RoundScenario.{RoundScenario}
use Rattle.scenarios.specs.declared.mode.Mode.TheVariants.{Sampled}
use Rattle.scenarios.specs.declared.plan.Plan.{Plan}
use Rattle.scenarios.specs.Scenarios.{count, scenario}
use Rattle.scenarios.specs.PlanCounts.{scenario_fault}

abbrev pub round_at : ℕ → ℕ → ℕ → RoundScenario
round_at l p s = record { leader = l; primary = p; secondary = s }

abbrev pub WorkedTotals : Type 0
WorkedTotals =
    (count 14 (2 ∷ []) ≡ 10517860061584293888)
    × (2 ^ 64 ≤ count 15 (2 ∷ []))
    × (count 1 (3 ∷ []) ≡ 30)
    × (count 2 (3 ∷ []) ≡ 3528)

-- 3 participants, one of them compromised, and a round
abbrev three : Plan
three = record { participants = 3; faults = 1; rounds = 1; mode = Sampled; cap = 1 }

abbrev pub WorkedRanks : Type 0
WorkedRanks =
    (scenario 1 (3 ∷ []) 11 ≡ round_at 2 7 4 ∷ [])
    × (scenario 1 (3 ∷ []) 12 ≡ round_at 2 6 2 ∷ [])
    × (scenario 1 (3 ∷ []) 29 ≡ round_at 2 6 5 ∷ [])
    × (scenario_fault three 29 1 ≡ None)
    × (scenario_fault three 30 1 ≡ Some 16)
    × (scenario 2 (2 ∷ []) 1 ≡ round_at 1 2 0 ∷ round_at 0 0 1 ∷ [])
    × (scenario 2 (3 ∷ []) 48 ≡ round_at 2 4 0 ∷ round_at 2 4 0 ∷ [])
