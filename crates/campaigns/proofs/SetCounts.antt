-- A counted plan has a scenario for each rank below its total, and a number of sets for that.
use Rattle.std.proofs.Common.{◌≡◌, ℕ, ◌<◌, ◌≤◌, List, length, Some, None, Ok, Err, Result, replicate, ap, ◌∙◌, subst, arith}
use Rattle.std.specs.Result.{result_ok}
use Rattle.std.proofs.lemmas.Bool.Decides.{nat_tests}
use Rattle.refusals.specs.declared.Refusal.{Refusal}
use Rattle.scenarios.specs.declared.mode.Mode.{Mode}
use Rattle.scenarios.specs.declared.mode.Mode.TheVariants.{Sampled, Sustained}
use Rattle.scenarios.specs.declared.plan.Plan.{Plan}
use Rattle.scenarios.specs.declared.cell.CellState.{CellState}
use Rattle.scenarios.specs.declared.round.RoundScenario.{RoundScenario}
use Rattle.scenarios.specs.Cells.{CellsOf, cells}
use Rattle.scenarios.specs.Counting.{Slot}
use Rattle.scenarios.specs.Plans.{total_of, residual_of}
use Rattle.scenarios.specs.PlanCounts.{Counted, scenario_fault, ScenarioTold}
use Rattle.scenarios.proofs.Walks.{turns_fit}
use Rattle.scenarios.proofs.Rounding.{rounds_stand}
use Rattle.scenarios.proofs.Ranks.{cells_residual}
use Rattle.scenarios.proofs.States.{cells_boundaries}
use Rattle.scenarios.proofs.Planning.{plan_sound}
use Rattle.sets.specs.Sets.{sets}
use Rattle.sets.specs.Answers.{faults_fault, SetsCounted}
use Rattle.campaigns.specs.Tickets.{set_count}

-- the memory that a scenario is written to
abbrev pub blank : List RoundScenario
blank = replicate 64 (record { leader = 0; primary = 0; secondary = 0 })

residual_cells : (mode : Mode) (n R k : ℕ) → 0 < n → k < total_of mode n R → CellsOf n (residual_of mode n R k)
residual_cells Sampled n R k h b = (cells_residual turns_fit rounds_stand n R k h b).0
residual_cells Sustained n R k h b = (cells_residual turns_fit rounds_stand n 1 k h b).0

no_fault : (n f : ℕ) → 2 ≤ n → n ≤ 64 → 0 < f → f < n → faults_fault n f ≡ None
no_fault n f a b c d = grind (arith, nat_tests)

scenario_there : (p : Plan) (rank long : ℕ) → p.rounds ≤ long → rank < total_of p.mode p.participants p.rounds → scenario_fault p rank long ≡ None
scenario_there p rank long a b = grind (arith, nat_tests)

module _ (p : Plan) (total : ℕ) (memory : List Slot) (counted : Counted p total memory) (rank : ℕ) (below : rank < total) where
  lower : rank < total_of p.mode p.participants p.rounds
  lower = let e = counted.total_is in omega arith

  pub scenario_refused : (xs ys : List RoundScenario) (q : Result CellState Refusal) → length xs ≡ 64 → None ≡ result_ok q → ScenarioTold p rank xs q ys → ⊥
  scenario_refused xs ys (Ok s) l none t = let z : None ≡ Some s = none in cc
  scenario_refused xs ys (Err e) l none t =
      let s = plan_sound p.participants p.faults p.rounds p.cap counted.rules in
      let q = scenario_there p rank (length xs) (omega arith) lower in
      let b = t.0 in
      let z : ◌≡◌ {A = ℕ} 0 1 = cc in omega arith

  counted_sets : (xs ys : List RoundScenario) (s : CellState) (r : Result ℕ Refusal) → ScenarioTold p rank xs (Ok s) ys → SetsCounted p.participants p.faults s.boundaries r → r ≡ Ok (set_count p rank)
  counted_sets xs ys s (Ok v) t c =
      let b = plan_sound p.participants p.faults p.rounds p.cap counted.rules in
      let cs = residual_of p.mode p.participants p.rounds rank in
      let h : 0 < p.participants = omega arith in
      let e : cells p.participants s.boundaries ≡ cs = ap (cells p.participants) t.2 ∙ cells_boundaries p.participants cs h (residual_cells p.mode p.participants p.rounds rank h lower) in
      ap Ok (c.1 ∙ ap (λ l. length (sets l p.faults)) e)
  counted_sets xs ys s (Err e) t c =
      let b = plan_sound p.participants p.faults p.rounds p.cap counted.rules in
      let q = no_fault p.participants p.faults b.0 b.1 b.2 b.3 in
      absurd (let z : ◌≡◌ {A = ℕ} 0 1 = cc in omega arith)

  pub sets_of_rank : (xs ys : List RoundScenario) (q : Result CellState Refusal) (s : CellState) (r : Result ℕ Refusal) → Some s ≡ result_ok q → ScenarioTold p rank xs q ys → SetsCounted p.participants p.faults s.boundaries r
      → r ≡ Ok (set_count p rank)
  sets_of_rank xs ys (Ok s₀) s r is t c =
      let same : s₀ ≡ s = let z : Some s ≡ Some s₀ = is in cc in
      counted_sets xs ys s r (subst (λ s. ScenarioTold p rank xs (Ok s) ys) same t) c
  sets_of_rank xs ys (Err e) s r is t c = absurd (let z : Some s ≡ None = is in cc)
