-- What counting a plan answers and leaves in memory.
use Rattle.std.specs.Prelude.{◌≡◌, ℕ, ◌^◌, ◌<◌, ◌≤◌, cond, ◌⊎◌, List, ◌++◌, length, take, drop, Some, None, Ok, Err, Option, Result, nat_le, nat_lt}
use Rattle.refusals.specs.declared.Refusal.{Refusal}
use Rattle.refusals.specs.Refusals.{number_of}
use Rattle.scenarios.specs.declared.mode.Mode.{Mode}
use Rattle.scenarios.specs.declared.mode.Mode.TheVariants.{Sampled, Sustained}
use Rattle.scenarios.specs.declared.plan.Plan.{Plan}
use Rattle.scenarios.specs.declared.cell.CellState.{CellState}
use Rattle.scenarios.specs.declared.round.RoundScenario.{RoundScenario}
use Rattle.scenarios.specs.Cells.{boundaries}
use Rattle.scenarios.specs.Canonical.{Canonical, Residual}
use Rattle.scenarios.specs.Counting.{Slot, entries, CountedAs, RefusedAs}
use Rattle.scenarios.specs.Plans.{plan_fault, depth_of, total_of, scenario_of, residual_of, AllAlike, LegalIn}

-- the number of the first rule that a plan breaks; none, if it was made by the check
abbrev pub fault_of : Plan → Option ℕ
fault_of p = plan_fault p.participants p.faults p.rounds p.cap

-- the memory holds the counts of the plan, as counting leaves them
pub record Counted (p : Plan) (total : ℕ) (ys : List Slot) : Type 0 where
  pub rules : fault_of p ≡ None
  pub total_is : total ≡ total_of p.mode p.participants p.rounds
  pub fits : total < 2 ^ 64
  pub entries_are : take (length (entries p.participants (depth_of p.mode p.rounds))) ys ≡ entries p.participants (depth_of p.mode p.rounds)

-- a counted plan as contracts see it: the plan, its total, and the memory that holds its counts
pub record CountedNumbers : Type 0 where
  pub plan : Plan
  pub total : ℕ
  pub memory : List Slot

-- the plan breaks no rule, and its scenarios are counted
abbrev pub PlanCounted : Plan → List Slot → ℕ → List Slot → Type 0
PlanCounted p xs v ys = Counted p v ys × CountedAs p.participants (depth_of p.mode p.rounds) xs v ys

-- the plan breaks no rule, and counting is refused
abbrev pub PlanRefused : Plan → List Slot → Refusal → List Slot → Type 0
PlanRefused p xs e ys = (fault_of p ≡ None) × RefusedAs p.participants (depth_of p.mode p.rounds) xs e ys

-- the number of the first cause to refuse a scenario: memory too short, or no such rank
abbrev pub scenario_fault : Plan → ℕ → ℕ → Option ℕ
scenario_fault p rank long = cond (nat_lt long p.rounds) (Some 15) (cond (nat_le (total_of p.mode p.participants p.rounds) rank) (Some 16) None)

-- the scenario of the rank stands in front, and nothing behind it has changed; or nothing has changed
abbrev pub ScenarioTold : Plan → ℕ → List RoundScenario → Result CellState Refusal → List RoundScenario → Type 0
ScenarioTold p rank xs (Ok s) ys =
    (scenario_fault p rank (length xs) ≡ None)
    × (ys ≡ scenario_of p.mode p.participants p.rounds rank ++ drop p.rounds xs)
    × (s.boundaries ≡ boundaries (residual_of p.mode p.participants p.rounds rank))
    × LegalIn p.mode p.participants p.rounds (scenario_of p.mode p.participants p.rounds rank)
    × Canonical p.participants (scenario_of p.mode p.participants p.rounds rank)
ScenarioTold p rank xs (Err e) ys = (scenario_fault p rank (length xs) ≡ Some (number_of e)) × (ys ≡ xs)

-- the work of it, where the rank is below the total and the memory long enough
abbrev pub UnrankedTold : Plan → ℕ → List RoundScenario → CellState → List RoundScenario → Type 0
UnrankedTold p rank xs s ys =
    (ys ≡ scenario_of p.mode p.participants p.rounds rank ++ drop p.rounds xs)
    × (s.boundaries ≡ boundaries (residual_of p.mode p.participants p.rounds rank))

-- more than 64 rounds, or rounds that are no canonical scenario of the plan
abbrev pub IsNotCanonical : Plan → List RoundScenario → Refusal → Type 0
IsNotCanonical p rs e =
    ((number_of e ≡ 7) × (64 < length rs))
    ⊎ ((number_of e ≡ 17) × (length rs ≤ 64) × (LegalIn p.mode p.participants p.rounds rs → Canonical p.participants rs → ⊥))

-- as many rounds as the plan has, in sustained mode all alike
abbrev pub Shaped : Mode → ℕ → List RoundScenario → Type 0
Shaped Sampled R rs = length rs ≡ R
Shaped Sustained R rs = (length rs ≡ R) × AllAlike rs

abbrev pub ShapeTold : Plan → List RoundScenario → Result Unit Refusal → Type 0
ShapeTold p rs (Ok _) = Shaped p.mode p.rounds rs × (length rs ≤ 64)
ShapeTold p rs (Err e) = IsNotCanonical p rs e

-- the rank whose scenario these rounds are
abbrev pub RankAnswered : Plan → List RoundScenario → Result ℕ Refusal → Type 0
RankAnswered p rs (Ok k) = (k < total_of p.mode p.participants p.rounds) × (scenario_of p.mode p.participants p.rounds k ≡ rs)
RankAnswered p rs (Err e) = IsNotCanonical p rs e

-- the state that these rounds leave, if they are a canonical scenario of a plan that breaks no rule
abbrev pub CanonicalAnswered : Plan → List RoundScenario → Result CellState Refusal → Type 0
CanonicalAnswered p rs (Ok s) =
    (fault_of p ≡ None) × LegalIn p.mode p.participants p.rounds rs × Canonical p.participants rs × Residual p.participants rs s.boundaries
CanonicalAnswered p rs (Err e) = (fault_of p ≡ None) × IsNotCanonical p rs e
