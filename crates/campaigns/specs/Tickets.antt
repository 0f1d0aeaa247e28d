-- Tickets: a rank with the number of a set, for each set of each chosen scenario.
use Rattle.std.specs.Prelude.{ℕ, ◌-◌, Bool, cond, List, map, length, take, nat_lt}
use Rattle.std.specs.List.{range_with_len, flat_map}
use Rattle.scenarios.specs.declared.plan.Plan.{Plan}
use Rattle.scenarios.specs.Plans.{total_of, residual_of}
use Rattle.words.specs.Words.{Words}
use Rattle.words.specs.Draws.{Draws, draws}
use Rattle.sampling.specs.Floyd.{bounds, sample}
use Rattle.sampling.specs.Shuffles.{down_from, exchanges}
use Rattle.sets.specs.Sets.{sets}
use Rattle.campaigns.specs.declared.ticket.Ticket.{Ticket}

abbrev pub total_for : Plan → ℕ
total_for p = total_of p.mode p.participants p.rounds

-- how many compromised sets the scenario of a rank has
abbrev pub set_count : Plan → ℕ → ℕ
set_count p rank = length (sets (residual_of p.mode p.participants p.rounds rank) p.faults)

abbrev pub tickets_for : Plan → ℕ → List Ticket
tickets_for p rank = map (λ number. record { rank = rank; set = number }) (range_with_len 0 (set_count p rank))

-- a ticket for each set of each scenario of these ranks, in order
abbrev pub tickets_of : Plan → List ℕ → List Ticket
tickets_of p ranks = flat_map (tickets_for p) ranks

-- ranks are sampled where there are more than the cap
abbrev pub samples : Plan → Bool
samples p = nat_lt p.cap (total_for p)

-- the numbers drawn for the sample
abbrev pub sampling : Plan → Words → Draws
sampling p w = draws (bounds (total_for p) p.cap) w

-- the ranks chosen, and the words left after that: every rank in order, or as many as the cap, sampled
abbrev pub chosen : Plan → Words → List ℕ
chosen p w = cond (samples p) (sample (total_for p) (sampling p w).numbers) (range_with_len 0 (total_for p))

abbrev pub after_choice : Plan → Words → Words
after_choice p w = cond (samples p) (sampling p w).rest w

-- all tickets before the shuffle, and the numbers drawn for it
abbrev pub all_tickets : Plan → Words → List Ticket
all_tickets p w = tickets_of p (chosen p w)

abbrev pub shuffling : Plan → Words → Draws
shuffling p w = draws (down_from (length (all_tickets p w) - 1)) (after_choice p w)

abbrev pub shuffled_tickets : Plan → Words → List Ticket
shuffled_tickets p w = exchanges (all_tickets p w) (length (all_tickets p w) - 1) (shuffling p w).numbers

-- the tickets of the cases drawn up: no more than the cap
abbrev pub drawn_up : Plan → Words → List Ticket
drawn_up p w = take p.cap (shuffled_tickets p w)
