-- Cases are drawn up each once, and where the cap cuts nothing, all there are.
use Rattle.std.proofs.Common.{◌≡◌, ℕ, ◌<◌, ◌≤◌, ◌⊎◌, List, length, get_or, None, sym, ap, ◌∙◌, subst, inl, inr, arith}
use Rattle.std.specs.List.{range_with_len}
use Rattle.std.specs.List.Sorted.{IsPermutation}
use Rattle.std.proofs.lemmas.List.{length-take}
use Rattle.std.proofs.lemmas.Bool.{cases_order}
use Rattle.orders.specs.Orders.{ExactlyOne}
use Rattle.scenarios.specs.declared.plan.Plan.{Plan}
use Rattle.scenarios.specs.PlanCounts.{fault_of}
use Rattle.scenarios.specs.Fits.{Among}
use Rattle.scenarios.proofs.Chains.{in_from_among, among_from_in, in_counting, counting_in}
use Rattle.scenarios.proofs.Members.{among_map, map_among, among_joined, joined_among}
use Rattle.scenarios.proofs.Querying.{ruled}
use Rattle.words.specs.Words.{Words}
use Rattle.cases.specs.Cases.{Case, Renamed}
use Rattle.cases.specs.Claims.{Numbers, CasesStand}
use Rattle.cases.proofs.Standing.{each_case_once}
use Rattle.campaigns.specs.declared.ticket.Ticket.{Ticket}
use Rattle.campaigns.specs.Tickets.{total_for, set_count, tickets_for, tickets_of, chosen, after_choice, all_tickets, shuffled_tickets, drawn_up}
use Rattle.campaigns.specs.Openings.{no_ticket, SampleDrawn}
use Rattle.campaigns.specs.Deals.{case_of, case_drawn, LegalFor, CasesDrawnUp, EachDrawnOnce}
use Rattle.campaigns.proofs.Different.{Once, once_counting, once_map, once_joined}
use Rattle.campaigns.proofs.Choosing.{RanksStand, chosen_stand, chosen_all}
use Rattle.campaigns.proofs.Mixing.{drawn_shuffled, cut_among, cut_once, cut_all}

abbrev ticket : ℕ → ℕ → Ticket
ticket rank number = record { rank = rank; set = number }

among_counting : (n i : ℕ) → i < n → Among (range_with_len 0 n) i
among_counting n i h = among_from_in (range_with_len 0 n) i (counting_in 0 n i (omega arith) (omega arith))

-- the tickets of different ranks are different, have a rank and a set number, and of all ranks they are all there are

module _ (p : Plan) where
  abbrev Numbered : ℕ → ℕ → Type 0
  Numbered rank number = Numbers p.mode p.participants p.faults p.rounds rank number

  once_tickets : (ranks : List ℕ) → Once ranks → Once (tickets_of p ranks)
  once_tickets ranks o =
      once_joined (tickets_for p) ranks (λ rank. once_map (ticket rank) (range_with_len 0 (set_count p rank)) (λ x y e. ap (λ t. t.set) e) (once_counting 0 (set_count p rank))) same o
    where
      rank_is : (rank : ℕ) (t : Ticket) → Among (tickets_for p rank) t → rank ≡ t.rank
      rank_is rank t a = ap (λ u. u.rank) (map_among (ticket rank) (range_with_len 0 (set_count p rank)) t a).2

      same : (x y : ℕ) (t : Ticket) → Among (tickets_for p x) t → Among (tickets_for p y) t → x ≡ y
      same x y t a b = rank_is x t a ∙ sym (rank_is y t b)

  numbered : (ranks : List ℕ) → RanksStand (total_for p) ranks → (t : Ticket) → Among (tickets_of p ranks) t → Numbered t.rank t.set
  numbered ranks h t a =
      let r = joined_among (tickets_for p) ranks t a in
      let k = map_among (ticket r.0) (range_with_len 0 (set_count p r.0)) t r.2 in
      let b = in_counting 0 (set_count p r.0) k.0 (in_from_among (range_with_len 0 (set_count p r.0)) k.0 k.1) in
      subst (λ u. Numbered u.rank u.set) k.2 (record { rank_below = h.below r.0 r.1; number_below = omega (arith, b.1) })

  ticketed : (rank number : ℕ) → Numbered rank number → Among (tickets_of p (range_with_len 0 (total_for p))) (ticket rank number)
  ticketed rank number h =
      among_joined (tickets_for p) (range_with_len 0 (total_for p)) rank (ticket rank number) (among_counting (total_for p) rank h.rank_below)
      (among_map (ticket rank) (range_with_len 0 (set_count p rank)) number (among_counting (set_count p rank) number h.number_below))

module _ (p : Plan) (w : Words) (rules : fault_of p ≡ None) (drawn : SampleDrawn p w) where
  stands : CasesStand p.mode p.participants p.faults p.rounds
  stands = let r = ruled p rules in each_case_once p.mode p.participants p.faults p.rounds r.0 r.2

  ranks : RanksStand (total_for p) (chosen p w)
  ranks = chosen_stand p w drawn

  mixed : IsPermutation (all_tickets p w) (shuffled_tickets p w)
  mixed = drawn_shuffled (all_tickets p w) (after_choice p w)

  abbrev at : ℕ → Ticket
  at i = get_or (drawn_up p w) i no_ticket

  numbered_at : (i : ℕ) → i < length (drawn_up p w) → Numbered p (at i).rank (at i).set
  numbered_at i h = numbered p (chosen p w) ranks (at i) (cut_among (all_tickets p w) (shuffled_tickets p w) p.cap mixed no_ticket i h)

  legal_at : (i : ℕ) → i < length (drawn_up p w) → LegalFor p (case_drawn p w i)
  legal_at i h = stands.legal (at i).rank (at i).set (numbered_at i h)

  apart_at : (i j : ℕ) → i < j → j < length (drawn_up p w) → Renamed p.participants (case_drawn p w i) (case_drawn p w j) → ⊥
  apart_at i j h l r =
      let e = stands.apart (at i).rank (at i).set (at j).rank (at j).set (numbered_at i (omega arith)) (numbered_at j l) r in
      cut_once (all_tickets p w) (shuffled_tickets p w) p.cap mixed no_ticket (once_tickets p (chosen p w) ranks.once) i j h l (λ k. record { rank = e.0 k; set = e.1 k })

  -- of the places whose cases are renamings of one case there is only one
  only_at : (c : Case) → LegalFor p c → (i j : ℕ) → i < length (drawn_up p w) → j < length (drawn_up p w) → Renamed p.participants (case_drawn p w i) c → Renamed p.participants (case_drawn p w j) c → i ≡ j
  only_at c lc i j hi hj ri rj = go (cases_order i j)
    where
      between : (a b : ℕ) → a < length (drawn_up p w) → b < length (drawn_up p w) → Renamed p.participants (case_drawn p w a) c → Renamed p.participants (case_drawn p w b) c → Renamed p.participants (case_drawn p w a) (case_drawn p w b)
      between a b ha hb ra rb =
          let back = stands.relates.back (case_drawn p w b) c (legal_at b hb) lc rb in
          stands.relates.on (case_drawn p w a) c (case_drawn p w b) (legal_at a ha) lc (legal_at b hb) ra back

      go : (i ≡ j) ⊎ ((i < j) ⊎ (j < i)) → i ≡ j
      go (inl e) = e
      go (inr (inl h)) = absurd (apart_at i j h hj (between i j hi hj ri rj))
      go (inr (inr h)) = absurd (apart_at j i h hi (between j i hj hi rj ri))

  one_at : total_for p ≤ p.cap → length (all_tickets p w) ≤ p.cap → (c : Case) → LegalFor p c → ExactlyOne (λ i. (i < length (drawn_up p w)) × Renamed p.participants (case_drawn p w i) c)
  one_at few short c lc =
      let f = stands.found c lc in
      let t = ticket f.0 f.1 in
      let there = subst (λ rs. Among (tickets_of p rs) t) (sym (chosen_all p w few)) (ticketed p f.0 f.1 f.2) in
      let i = cut_all (all_tickets p w) (shuffled_tickets p w) p.cap mixed no_ticket short t there in
      let here : Renamed p.participants (case_drawn p w i.0) c = subst (λ u. Renamed p.participants (case_of p u) c) (sym i.2) f.3 in
      record { the = i.0; holds = (i.1, here); only = λ j h. only_at c lc j i.0 h.0 i.1 h.1 here }

  drawn_stand : CasesDrawnUp p w
  drawn_stand = record { no_more = let l = length-take p.cap (shuffled_tickets p w) in omega arith; legal = legal_at; apart = apart_at; complete = one_at }

pub each_drawn_once : EachDrawnOnce
each_drawn_once p w rules drawn long = drawn_stand p w rules drawn
