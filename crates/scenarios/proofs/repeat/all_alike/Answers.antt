use Rattle.std.proofs.Common.{◌≡◌, ℕ, zero, suc, ◌<◌, ◌≢◌, Bool, true, false, List, ◌∷◌, length, get_or, sym, refl, ◌∙◌, subst, arith, rules}
use borrow.Author.Tests.{tests}
use Rattle.std.specs.Bool.{MatchBool, Decides}
use Rattle.std.specs.List.{AllWithin, HoldsAt}
use Rattle.std.proofs.lemmas.Iterator.{cases_from_all, YieldsList-from_slice}
use Rattle.scenarios.specs.declared.round.RoundScenario.{RoundScenario}
use Rattle.scenarios.specs.Plans.{AllAlike}
use Rattle.scenarios.proofs.repeat.all_alike.Goals as goal

-- each of a list whose others are its first is the first
at_first : (x : RoundScenario) (xs : List RoundScenario) → AllWithin (λ y. y ≡ x) xs 0 (length xs) → (i : ℕ) (d : RoundScenario) → i < length (x ∷ xs) → get_or (x ∷ xs) i d ≡ x
at_first x xs h zero d k = refl
at_first x xs h (suc i) d k = h i d (omega arith) (omega arith)

alike_as_first : (x : RoundScenario) (xs : List RoundScenario) (b : Bool) → MatchBool b (AllWithin (λ y. y ≡ x) xs 0 (length xs)) ((k : ℕ) × (k < length xs) × HoldsAt (λ y. y ≢ x) xs k) → Decides b (AllAlike (x ∷ xs))
alike_as_first x xs true h = (λ t i j d a b. at_first x xs h i d a ∙ sym (at_first x xs h j d b), λ t. refl)
alike_as_first x xs false h = (λ t. absurd cc, λ t. absurd (h.2 x (t (suc h.0) 0 x (omega (arith, h.1)) (omega arith))))

pub returns : goal.returns
returns c =
    let first = c.in-Some.first.now in
    let cases = cases_from_all _ _ _ (λ y. y ≡ first) (λ y. y ≢ first) c.all.ensures.ran (YieldsList-from_slice c.in-Some.rest.now cc) (λ x q k. search (rules, tests)) (λ x q k. search (rules, tests)) in
    subst (λ rs. Decides c.all.result (AllAlike rs)) (sym (c.in-Some.ensures.cases.0)) (alike_as_first first c.in-Some.rest.now c.all.result cases)
