-- What opening a campaign answers, and leaves in each memory and of the words.
use Rattle.std.specs.Prelude.{◌≡◌, ℕ, ◌-◌, ◌<◌, ◌≤◌, true, cond, ◌⊎◌, List, ◌++◌, map, length, drop, replicate}
use Rattle.scenarios.specs.declared.plan.Plan.{Plan}
use Rattle.words.specs.Words.{Words}
use Rattle.sampling.specs.Floyd.{sample}
use Rattle.sampling.specs.Samples.{Slot, slot}
use Rattle.campaigns.specs.declared.ticket.Ticket.{Ticket}
use Rattle.campaigns.specs.Tickets.{total_for, samples, sampling, after_choice, all_tickets, shuffling, shuffled_tickets, drawn_up}

abbrev pub no_ticket : Ticket
no_ticket = record { rank = 0; set = 0 }

-- the words suffice for the sample, if there is one
abbrev pub SampleDrawn : Plan → Words → Type 0
SampleDrawn p w = samples p ≡ true → length (sampling p w).numbers ≡ p.cap

-- what rank memory holds after the choice: the sampled ranks in front, or what it held
abbrev pub ranks_after : Plan → Words → List Slot → List Slot
ranks_after p w xs = cond (samples p) (map slot (sample (total_for p) (sampling p w).numbers) ++ drop p.cap xs) xs

-- all is drawn up
pub record OpenedAs (p : Plan) (w : Words) (ranks : List Slot) (tickets : List Ticket) (cases : ℕ) (w' : Words) (ranks' : List Slot) (tickets' : List Ticket) : Type 0 where
  pub rank_room : samples p ≡ true → p.cap ≤ length ranks
  pub sample_drawn : SampleDrawn p w
  pub ticket_room : length (all_tickets p w) ≤ length tickets
  pub shuffle_drawn : length (shuffling p w).numbers ≡ length (all_tickets p w) - 1
  pub how_many : cases ≡ length (drawn_up p w)
  pub words_left : w' ≡ (shuffling p w).rest
  pub ranks_left : ranks' ≡ ranks_after p w ranks
  pub tickets_left : tickets' ≡ shuffled_tickets p w ++ drop (length (all_tickets p w)) tickets

-- rank and ticket memory are all zero
pub record Cleared (ranks : List Slot) (tickets : List Ticket) (ranks' : List Slot) (tickets' : List Ticket) : Type 0 where
  pub ranks_zero : ranks' ≡ replicate (length ranks) (slot 0)
  pub tickets_zero : tickets' ≡ replicate (length tickets) no_ticket

-- the rank memory is too short for a sample, and nothing has changed
pub record RanksShort (p : Plan) (w : Words) (ranks : List Slot) (tickets : List Ticket) (w' : Words) (ranks' : List Slot) (tickets' : List Ticket) : Type 0 where
  pub sampled : samples p ≡ true
  pub short : length ranks < p.cap
  pub same_words : w' ≡ w
  pub same_ranks : ranks' ≡ ranks
  pub same_tickets : tickets' ≡ tickets

-- the words run out while ranks are sampled
pub record SampleSpent (p : Plan) (w : Words) (ranks : List Slot) (tickets : List Ticket) (w' : Words) (ranks' : List Slot) (tickets' : List Ticket) : Type 0 where
  pub sampled : samples p ≡ true
  pub room : p.cap ≤ length ranks
  pub spent : length (sampling p w).numbers < p.cap
  pub words_left : w' ≡ (sampling p w).rest
  pub cleared : Cleared ranks tickets ranks' tickets'

-- the ticket memory is too short for the list before the cut
pub record TicketsShort (p : Plan) (w : Words) (ranks : List Slot) (tickets : List Ticket) (w' : Words) (ranks' : List Slot) (tickets' : List Ticket) : Type 0 where
  pub rank_room : samples p ≡ true → p.cap ≤ length ranks
  pub sample_drawn : SampleDrawn p w
  pub short : length tickets < length (all_tickets p w)
  pub words_left : w' ≡ after_choice p w
  pub cleared : Cleared ranks tickets ranks' tickets'

-- the words run out while tickets are shuffled
pub record ShuffleSpent (p : Plan) (w : Words) (ranks : List Slot) (tickets : List Ticket) (w' : Words) (ranks' : List Slot) (tickets' : List Ticket) : Type 0 where
  pub rank_room : samples p ≡ true → p.cap ≤ length ranks
  pub sample_drawn : SampleDrawn p w
  pub ticket_room : length (all_tickets p w) ≤ length tickets
  pub spent : length (shuffling p w).numbers < length (all_tickets p w) - 1
  pub words_left : w' ≡ (shuffling p w).rest
  pub cleared : Cleared ranks tickets ranks' tickets'

-- why an opening is refused, by the number of the cause
abbrev pub OpeningRefused : Plan → Words → List Slot → List Ticket → ℕ → Words → List Slot → List Ticket → Type 0
OpeningRefused p w ranks tickets number w' ranks' tickets' =
    ((number ≡ 10) × RanksShort p w ranks tickets w' ranks' tickets')
    ⊎ ((number ≡ 11) × SampleSpent p w ranks tickets w' ranks' tickets')
    ⊎ ((number ≡ 12) × TicketsShort p w ranks tickets w' ranks' tickets')
    ⊎ ((number ≡ 11) × ShuffleSpent p w ranks tickets w' ranks' tickets')
