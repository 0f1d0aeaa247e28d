-- The cases drawn up: each once, and where nothing is cut, all there are.
use Rattle.std.specs.Prelude.{◌≡◌, ℕ, ◌-◌, ◌<◌, ◌≤◌, length, None, slice_index_or}
use Rattle.orders.specs.Orders.{ExactlyOne}
use Rattle.scenarios.specs.declared.plan.Plan.{Plan}
use Rattle.scenarios.specs.PlanCounts.{fault_of}
use Rattle.words.specs.Words.{Words}
use Rattle.cases.specs.Cases.{Case, LegalCase, Renamed, case_at}
use Rattle.campaigns.specs.declared.ticket.Ticket.{Ticket}
use Rattle.campaigns.specs.Tickets.{total_for, all_tickets, shuffling, drawn_up}
use Rattle.campaigns.specs.Openings.{no_ticket, SampleDrawn}

-- the scenario of a ticket's rank, with the set of its number
abbrev pub case_of : Plan → Ticket → Case
case_of p t = case_at p.mode p.participants p.faults p.rounds t.rank t.set

-- the case drawn up at a position
abbrev pub case_drawn : Plan → Words → ℕ → Case
case_drawn p w i = case_of p (slice_index_or (drawn_up p w) i no_ticket)

abbrev pub LegalFor : Plan → Case → Type 0
LegalFor p c = LegalCase p.mode p.participants p.faults p.rounds c

pub record CasesDrawnUp (p : Plan) (w : Words) : Type 0 where
  pub no_more : length (drawn_up p w) ≤ p.cap
  pub legal : (i : ℕ) → i < length (drawn_up p w) → LegalFor p (case_drawn p w i)
  -- no two are renamings of each other
  pub apart : (i j : ℕ) → i < j → j < length (drawn_up p w) → Renamed p.participants (case_drawn p w i) (case_drawn p w j) → ⊥
  -- where the cap cuts nothing, every legal case is a renaming of exactly one
  pub complete : total_for p ≤ p.cap → length (all_tickets p w) ≤ p.cap → (c : Case) → LegalFor p c
      → ExactlyOne (λ i. (i < length (drawn_up p w)) × Renamed p.participants (case_drawn p w i) c)

-- of every plan that keeps the rules, and all words that suffice
abbrev pub EachDrawnOnce : Type 0
EachDrawnOnce = (p : Plan) (w : Words) → fault_of p ≡ None → SampleDrawn p w → length (shuffling p w).numbers ≡ length (all_tickets p w) - 1 → CasesDrawnUp p w
