-- Which plan a text asks for, and when it is refused one.
use Rattle.std.specs.Prelude.{◌≡◌, ℕ, ◌⊎◌, List, Some, None}
use Rattle.refusals.specs.Refusals.{number_of}
use Rattle.refusals.specs.declared.Refusal.{Refusal}
use Rattle.scenarios.specs.declared.plan.Plan.{Plan}
use Rattle.scenarios.specs.Plans.{plan_fault}
use Rattle.text.specs.Lines.{Line, Refused}
use Rattle.text.specs.declared.PlanLine.{PlanLine}

-- the text is a line with the numbers of the plan, and they break no rule
abbrev pub Planned : List ℕ → Plan → Type 0
Planned text p = (line : PlanLine) × Line text line × (plan_fault line.participants line.faults line.rounds line.cap ≡ None)
    × (p.participants ≡ line.participants) × (p.faults ≡ line.faults) × (p.rounds ≡ line.rounds) × (p.mode ≡ line.mode) × (p.cap ≡ line.cap)

-- the text is no line, or it is one whose numbers break a rule
abbrev pub Unplanned : List ℕ → Refusal → Type 0
Unplanned text e = Refused text e ⊎ ((line : PlanLine) × Line text line × (plan_fault line.participants line.faults line.rounds line.cap ≡ Some (number_of e)))
