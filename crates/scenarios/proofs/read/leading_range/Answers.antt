use Rattle.std.proofs.Common.{◌≡◌, ℕ, ◌+◌, ◌<◌, ◌≤◌, ◌≢◌, List, length, Some, None, Option, MatchOption, sym, ◌∙◌, arith, rules}
use borrow.Author.Tests.{tests}
use Rattle.std.specs.List.{AllWithin, HoldsAt}
use Rattle.std.proofs.lemmas.List.{get_or_default}
use Rattle.std.proofs.lemmas.Iterator.{IsFirst-from_position, YieldsList-from_slice}
use Rattle.std.proofs.lemmas.Iterator.Adapters.{serves_from_places}
use Rattle.scenarios.specs.Readings.{LeadsRange}
use Rattle.scenarios.proofs.read.leading_range.Goals as goal

pub position-requires-clause-callable : goal.position-requires-clause-callable
position-requires-clause-callable c =
    serves_from_places (YieldsList-from_slice c.args.ranges.now cc) (λ x q k. search (rules, tests)) (λ x k h e.
    let few = c.requires.few in
    let within : x.now.0 + x.now.1 ≤ 64 = rw (e ∙ get_or_default c.args.ranges.now k x.now (0, 0) h) (c.requires.within k h) in
    search rules)

first_leads : (rs : List (ℕ × ℕ)) (l : ℕ) (o : Option ℕ)
    → MatchOption o (AllWithin {X = ℕ × ℕ} (λ r. r.0 + r.1 ≢ l + 1) rs 0 (length rs)) (λ i. (i < length rs) × HoldsAt {X = ℕ × ℕ} (λ r. r.0 + r.1 ≡ l + 1) rs i × AllWithin {X = ℕ × ℕ} (λ r. r.0 + r.1 ≢ l + 1) rs 0 i)
    → LeadsRange rs l o
first_leads rs l None h = λ k b e. h k (0, 0) (omega arith) b (sym e)
first_leads rs l (Some i) h = (h.0, sym (h.1 (0, 0)))

pub returns : goal.returns
returns c =
    first_leads c.args.ranges.now c.args.leader c.position.result
    (IsFirst-from_position _ _ _ (λ (r : ℕ × ℕ). r.0 + r.1 ≡ c.args.leader + 1) (λ (r : ℕ × ℕ). r.0 + r.1 ≢ c.args.leader + 1) c.position.ensures.ran (YieldsList-from_slice c.args.ranges.now cc) (λ x q k. search (rules, tests)) (λ x q k. search (rules, tests)))
