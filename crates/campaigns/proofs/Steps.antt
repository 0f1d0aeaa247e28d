-- The choice of an opening, put together: ranks sampled, and their tickets listed.
use Rattle.std.proofs.Common.{◌≡◌, ℕ, zero, suc, ◌+◌, ◌<◌, ◌≤◌, min, true, List, [], ◌∷◌, ◌++◌, map, length, take, drop, ok_or, Some, None, Option, Result, sym, refl, ap, ◌∙◌, subst, inl, inr, arith}
use Rattle.std.specs.List.{AllByRecursion, range_with_len}
use Rattle.std.specs.Iterator.{AlwaysYields}
use Rattle.std.proofs.lemmas.Iterator.{YieldsList}
use Rattle.std.proofs.lemmas.List.{length-map, take_at}
use Rattle.std.proofs.lemmas.Bool.{lt-ltb, cond-true}
use Rattle.refusals.specs.declared.Refusal.{Refusal}
use Rattle.refusals.specs.declared.Refusal.TheVariants.{TicketMemory}
use Rattle.scenarios.specs.declared.plan.Plan.{Plan}
use Rattle.scenarios.specs.Counting.{Slot as CountSlot}
use Rattle.scenarios.specs.PlanCounts.{Counted}
use Rattle.words.specs.Words.{Words}
use Rattle.sampling.specs.Floyd.{sample}
use Rattle.sampling.specs.Samples.{Slot, slot, Sampled}
use Rattle.campaigns.specs.declared.ticket.Ticket.{Ticket}
use Rattle.campaigns.specs.Tickets.{total_for, samples, sampling, after_choice, tickets_of, all_tickets}
use Rattle.campaigns.specs.Openings.{ranks_after}
use Rattle.campaigns.specs.Listings.{Listed, ChoiceTold}

-- what an iterator gives, by an equal list
pub gives : {S A B : Type 0} {steps : S → Option A → S → Type 0} {v : A → B} {s : S} {xs ys : List B} → xs ≡ ys → YieldsList steps v s xs → AlwaysYields steps v s ys
gives {steps = steps} {v = v} {s = s} e road = (subst (λ l. YieldsList steps v s l) e road).runs

keys_slots : (ks : List ℕ) → map (λ (x : Slot). x.key) (map slot ks) ≡ ks
keys_slots [] = refl
keys_slots (k ∷ ks) = ap (λ l. k ∷ l) (keys_slots ks)

every_below : (a n total : ℕ) → a + n ≤ total → AllByRecursion (λ k. k < total) (range_with_len a n)
every_below a zero total h = tt
every_below a (suc n) total h = (omega arith, every_below (a + 1) n total (omega arith))

pub ranks_below : (total : ℕ) → AllByRecursion (λ k. k < total) (range_with_len 0 total)
ranks_below total = every_below 0 total total (omega arith)

module _ (p : Plan) (total : ℕ) (memory : List CountSlot) (counted : Counted p total memory) (more : p.cap < total) (w w' : Words) (ranks ranks₁ : List Slot) where
  -- what is told of the total and the smaller of two is told of the plan
  sampled_plan : Sampled total (min p.cap total) w ranks w' ranks₁ → Sampled (total_for p) p.cap w ranks w' ranks₁
  sampled_plan s =
      let m : min p.cap total ≡ p.cap = omega arith in
      subst (λ t. Sampled t p.cap w ranks w' ranks₁) counted.total_is (subst (λ k. Sampled total k w ranks w' ranks₁) m s)

  module _ (sampled : Sampled total (min p.cap total) w ranks w' ranks₁) where
    s : Sampled (total_for p) p.cap w ranks w' ranks₁
    s = sampled_plan sampled

    abbrev pub drawn : List ℕ
    drawn = sample (total_for p) (sampling p w).numbers

    length_drawn : length (map slot drawn) ≡ p.cap
    length_drawn = length-map drawn slot ∙ s.fair.as_many ∙ s.enough

    -- the keys of the first slots are the ranks sampled, all below the total
    pub drawn_keys : (k : ℕ) → k ≡ min p.cap total → map (λ (x : Slot). x.key) (take k ranks₁) ≡ drawn
    drawn_keys k e =
        let m : k ≡ p.cap = omega arith in
        ap (map (λ (x : Slot). x.key)) (ap (λ j. take j ranks₁) m ∙ ap (take p.cap) s.ranks ∙ take_at (map slot drawn) (drop p.cap ranks) p.cap length_drawn) ∙ keys_slots drawn

    pub drawn_below : AllByRecursion (λ k. k < total) drawn
    drawn_below = subst (λ t. AllByRecursion (λ k. k < t) drawn) (sym counted.total_is) s.fair.below

    samples_true : samples p ≡ true
    samples_true = lt-ltb p.cap (total_for p) (let e = counted.total_is in omega arith)

    tickets_drawn : tickets_of p drawn ≡ all_tickets p w
    tickets_drawn = ap (tickets_of p) (sym (cond-true (samples p) drawn _ samples_true))

    words_after : w' ≡ after_choice p w
    words_after = s.words_left ∙ sym (cond-true (samples p) (sampling p w).rest w samples_true)

    ranks_are : ranks₁ ≡ ranks_after p w ranks
    ranks_are = s.ranks ∙ sym (cond-true (samples p) (map slot drawn ++ drop p.cap ranks) ranks samples_true)

    pub sampled_told : (at : Option ℕ) (ts ys : List Ticket) (r : Result ℕ Refusal) → Listed ts (tickets_of p drawn) at ys → r ≡ ok_or at TicketMemory → ChoiceTold p w ranks ts r w' ranks₁ ys
    sampled_told (Some n) ts ys r l f =
        subst (λ x. ChoiceTold p w ranks ts x w' ranks₁ ys) (sym f)
        (record {
          rank_room = λ _. s.room;
          sample_drawn = λ _. s.enough;
          words_left = words_after;
          ranks_left = ranks_are;
          front = record { place = ap length (sym tickets_drawn) ∙ l.place; room = l.room; held = l.held ∙ ap (λ x. x ++ drop n ts) tickets_drawn };
        })
    sampled_told None ts ys r l f =
        subst (λ x. ChoiceTold p w ranks ts x w' ranks₁ ys) (sym f)
        (inr (inl (refl, (λ _. s.enough), subst (λ x. length ts < length x) tickets_drawn l.0, words_after)))
