-- The route of a script, by what is known of the term, of the round and of the sender. Assumes nothing.
use Rattle.std.proofs.Common.{◌≡◌, ℕ, Bool, true, false, cond, eqb, ltb, List, map, length, Some, None, Ok, Err, Option, Result, sym, refl, ap, ◌∙◌, zero-add, arith}
use Rattle.std.proofs.lemmas.List.{length-map}
use Rattle.refusals.specs.declared.Refusal.{Refusal}
use Rattle.scenarios.specs.declared.round.RoundScenario.{RoundScenario}
use Rattle.scenarios.specs.Masks.{bit}
use Rattle.views.specs.declared.target.SplitTarget.{SplitTarget}
use Rattle.views.specs.Groups.{round_at, primary_group, secondary_group, script_fault, or_else}
use Rattle.views.specs.Routes.{target_of, reaches_primary, reaches_secondary, place_of, holds, sender_fault, route_fault, scripted_target, RouteTold, Distinct, RouteAgrees}
use Rattle.views.proofs.Agreeing.{holds_picked}

-- of two faults that come to none, the first is none
pub first_none : (a b : Option ℕ) → or_else a b ≡ None → a ≡ None
first_none None b e = refl
first_none (Some k) b e = e

pub reaches_primary_of : (a b : Bool) → reaches_primary (target_of a b) ≡ a
reaches_primary_of false false = refl
reaches_primary_of true false = refl
reaches_primary_of false true = refl
reaches_primary_of true true = refl

pub reaches_secondary_of : (a b : Bool) → reaches_secondary (target_of a b) ≡ b
reaches_secondary_of false false = refl
reaches_secondary_of true false = refl
reaches_secondary_of false true = refl
reaches_secondary_of true true = refl

module _ {N : Type 0} (value : N → List ℕ) (sender : List ℕ) (names : List N) where
  module _ (rounds : List RoundScenario) (term view : ℕ) where
    -- what the names mean does not matter to the script
    script_fault_map : (f : Option ℕ) → script_fault rounds term names ≡ f → script_fault rounds term (map value names) ≡ f
    script_fault_map f e = ap (λ n. cond (ltb 64 (length rounds)) (Some 7) (cond (eqb term 0) (Some 18) (cond (ltb 64 n) (Some 19) None))) (length-map names value) ∙ e

    route_fault_is : (f : Option ℕ) (o : Option RoundScenario) → script_fault rounds term names ≡ f → o ≡ round_at rounds term view
        → route_fault rounds term view sender (map value names) ≡ or_else f (elim o [ None ↦ None | Some r ↦ sender_fault (holds sender (map value names)) ])
    route_fault_is f o e q =
        ap (λ g. or_else g (elim (round_at rounds term view) [ None ↦ None | Some r ↦ sender_fault (holds sender (map value names)) ])) (script_fault_map f e)
        ∙ ap (λ (x : Option RoundScenario). or_else f (elim x [ None ↦ None | Some r ↦ sender_fault (holds sender (map value names)) ])) (sym q)

    primary_agrees : (o : Option RoundScenario) → Distinct (map value names) → holds sender (map value names) ≡ true
        → reaches_primary (scripted_target o (place_of sender (map value names))) ≡ holds sender (map value (primary_group o names))
    primary_agrees None d h = sym h
    primary_agrees (Some r) d h =
        let at = place_of sender (map value names) in
        reaches_primary_of (bit r.primary at) (bit r.secondary at)
        ∙ ap (bit r.primary) (sym (zero-add at))
        ∙ sym (holds_picked value sender r.primary 0 names d h)

    secondary_agrees : (o : Option RoundScenario) → Distinct (map value names) → holds sender (map value names) ≡ true
        → reaches_secondary (scripted_target o (place_of sender (map value names))) ≡ holds sender (map value (secondary_group o names))
    secondary_agrees None d h = sym h
    secondary_agrees (Some r) d h =
        let at = place_of sender (map value names) in
        reaches_secondary_of (bit r.primary at) (bit r.secondary at)
        ∙ ap (bit r.secondary) (sym (zero-add at))
        ∙ sym (holds_picked value sender r.secondary 0 names d h)

    listed_fault_none : (o : Option RoundScenario) → holds sender (map value names) ≡ true → ◌≡◌ {A = Option ℕ} (elim o [ None ↦ None | Some r ↦ sender_fault (holds sender (map value names)) ]) None
    listed_fault_none None h = refl
    listed_fault_none (Some r) h = ap sender_fault h

    -- the law of the route, from what is told of it
    pub route_agrees : (t : Result SplitTarget Refusal) → RouteTold rounds term view sender (map value names) t → RouteAgrees value rounds term view sender names t
    route_agrees (Ok t) told long long' g d h = record {
      target = t;
      given = refl;
      primary = ap reaches_primary told.1 ∙ primary_agrees (round_at rounds term view) d h;
      secondary = ap reaches_secondary told.1 ∙ secondary_agrees (round_at rounds term view) d h;
    }
    route_agrees (Err x) told long long' g d h =
        let none = first_none (script_fault rounds term names) _ g in
        let fine = route_fault_is None (round_at rounds term view) none refl ∙ listed_fault_none (round_at rounds term view) h in
        absurd (let z : ◌≡◌ {A = ℕ} 0 1 = cc in omega arith)
