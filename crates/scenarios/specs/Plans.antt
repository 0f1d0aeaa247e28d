-- Plans: which are refused, how many scenarios a plan has, and the scenario of a rank.
use Rattle.std.specs.Prelude.{◌≡◌, ℕ, ◌<◌, cond, List, [], ◌∷◌, length, replicate, Some, None, Option, ◌==◌, nat_le, nat_lt, slice_index_or}
use Rattle.std.specs.List.{flat_map}
use Rattle.scenarios.specs.declared.mode.Mode.{Mode}
use Rattle.scenarios.specs.declared.mode.Mode.TheVariants.{Sampled, Sustained}
use Rattle.scenarios.specs.declared.round.RoundScenario.{RoundScenario}
use Rattle.scenarios.specs.Canonical.{Legal, Canonical}
use Rattle.scenarios.specs.Scenarios.{count, scenario, residual}

-- the number of the first rule that a plan breaks
abbrev pub plan_fault : ℕ → ℕ → ℕ → ℕ → Option ℕ
plan_fault n f R cap =
    cond (nat_lt n 2) (Some 1) (cond (nat_lt 64 n) (Some 2) (cond (f == 0) (Some 3) (cond (nat_le n f) (Some 4)
    (cond (R == 0) (Some 5) (cond (cap == 0) (Some 6) (cond (nat_lt 64 R) (Some 7) None))))))

-- how many rounds are counted: in sustained mode one stands for all
abbrev pub depth_of : Mode → ℕ → ℕ
depth_of Sampled R = R
depth_of Sustained R = 1

-- one round, R times
abbrev pub repeated : ℕ → List RoundScenario → List RoundScenario
repeated R rs = flat_map (replicate R) rs

-- all rounds are alike
abbrev pub AllAlike : List RoundScenario → Type 0
AllAlike rs = (i j : ℕ) (d : RoundScenario) → i < length rs → j < length rs → slice_index_or rs i d ≡ slice_index_or rs j d

-- a legal scenario of a plan
abbrev pub LegalIn : Mode → ℕ → ℕ → List RoundScenario → Type 0
LegalIn Sampled n R rs = Legal n R rs
LegalIn Sustained n R rs = Legal n R rs × AllAlike rs

abbrev pub total_of : Mode → ℕ → ℕ → ℕ
total_of mode n R = count (depth_of mode R) (n ∷ [])

abbrev pub scenario_of : Mode → ℕ → ℕ → ℕ → List RoundScenario
scenario_of Sampled n R k = scenario R (n ∷ []) k
scenario_of Sustained n R k = repeated R (scenario 1 (n ∷ []) k)

-- the cells that the scenario of rank k leaves
abbrev pub residual_of : Mode → ℕ → ℕ → ℕ → List ℕ
residual_of mode n R k = residual (depth_of mode R) (n ∷ []) k

-- ranks below the total and canonical legal scenarios of a plan correspond one to one
pub record CorrespondsIn (mode : Mode) (n R : ℕ) : Type 0 where
  pub legal : (k : ℕ) → k < total_of mode n R → LegalIn mode n R (scenario_of mode n R k)
  pub canonical : (k : ℕ) → k < total_of mode n R → Canonical n (scenario_of mode n R k)
  pub apart : (k j : ℕ) → k < total_of mode n R → j < total_of mode n R → scenario_of mode n R k ≡ scenario_of mode n R j → k ≡ j
  pub found : (rs : List RoundScenario) → LegalIn mode n R rs → Canonical n rs → (k : ℕ) × (k < total_of mode n R) × (scenario_of mode n R k ≡ rs)
