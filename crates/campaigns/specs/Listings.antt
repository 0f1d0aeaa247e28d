-- What the steps of an opening leave: tickets written from the first slot on, and the ranks chosen for them.
use Rattle.std.specs.Prelude.{◌≡◌, ℕ, ◌-◌, ◌<◌, ◌≤◌, true, ◌⊎◌, List, ◌++◌, map, length, drop, Some, None, Ok, Err, Option, Result}
use Rattle.std.specs.List.{range_with_len}
use Rattle.refusals.specs.declared.Refusal.{Refusal}
use Rattle.refusals.specs.Refusals.{number_of}
use Rattle.scenarios.specs.declared.plan.Plan.{Plan}
use Rattle.words.specs.Words.{Words}
use Rattle.sampling.specs.Samples.{Slot}
use Rattle.campaigns.specs.declared.ticket.Ticket.{Ticket}
use Rattle.campaigns.specs.Tickets.{samples, sampling, after_choice, all_tickets, shuffling}
use Rattle.campaigns.specs.Openings.{SampleDrawn, ranks_after}

-- tickets of a rank with the first set numbers
abbrev pub numbered : ℕ → ℕ → List Ticket
numbered rank count = map (λ number. record { rank = rank; set = number }) (range_with_len 0 count)

-- memory that held xs holds these tickets in front, up to a place, and behind them what it held
pub record Front (xs tickets : List Ticket) (at : ℕ) (ys : List Ticket) : Type 0 where
  pub place : length tickets ≡ at
  pub room : at ≤ length xs
  pub held : ys ≡ tickets ++ drop at xs

-- the place answered, if one is, is none past the end of the memory
abbrev pub Within : Option ℕ → List Ticket → Type 0
Within (Some at) ys = at ≤ length ys
Within None ys = Unit {0}

-- all of these tickets stand in front; or there are more than the memory has room for
abbrev pub Listed : List Ticket → List Ticket → Option ℕ → List Ticket → Type 0
Listed xs tickets (Some at) ys = Front xs tickets at ys
Listed xs tickets None ys = (length xs < length tickets) × (length ys ≡ length xs)

-- rank memory suffices for the sample, if there is one
abbrev pub RankRoom : Plan → List Slot → Type 0
RankRoom p ranks = samples p ≡ true → p.cap ≤ length ranks

-- the tickets of the ranks chosen stand in front
pub record ChosenAs (p : Plan) (w : Words) (ranks : List Slot) (tickets : List Ticket) (at : ℕ) (w' : Words) (ranks' : List Slot) (tickets' : List Ticket) : Type 0 where
  pub rank_room : samples p ≡ true → p.cap ≤ length ranks
  pub sample_drawn : SampleDrawn p w
  pub words_left : w' ≡ after_choice p w
  pub ranks_left : ranks' ≡ ranks_after p w ranks
  pub front : Front tickets (all_tickets p w) at tickets'

-- why an opening is refused once rank memory suffices, and the words left: they run out while ranks are sampled; or the ticket
-- memory is too short; or they run out while tickets are shuffled
abbrev pub Cause : Plan → Words → List Ticket → ℕ → Words → Type 0
Cause p w tickets number w' =
    ((number ≡ 11) × (samples p ≡ true) × (length (sampling p w).numbers < p.cap) × (w' ≡ (sampling p w).rest))
    ⊎ ((number ≡ 12) × SampleDrawn p w × (length tickets < length (all_tickets p w)) × (w' ≡ after_choice p w))
    ⊎ ((number ≡ 11) × SampleDrawn p w × (length (all_tickets p w) ≤ length tickets) × (length (shuffling p w).numbers < length (all_tickets p w) - 1) × (w' ≡ (shuffling p w).rest))

abbrev pub ChoiceTold : Plan → Words → List Slot → List Ticket → Result ℕ Refusal → Words → List Slot → List Ticket → Type 0
ChoiceTold p w ranks tickets (Ok at) w' ranks' tickets' = ChosenAs p w ranks tickets at w' ranks' tickets'
ChoiceTold p w ranks tickets (Err e) w' ranks' tickets' = Cause p w tickets (number_of e) w'
