-- The split of the names at a view, and the route by it. Assumes nothing.
use Rattle.std.proofs.Common.{◌≡◌, ℕ, ◌-◌, ◌%◌, Bool, true, false, cond, ◌||◌, eqb, ltb, List, map, length, take, drop, Some, None, Ok, Err, Option, Result, sym, refl, ap, ◌∙◌, arith}
use Rattle.std.proofs.lemmas.List.{length-map, take-map, drop-map, take_rest, take-append-drop}
use Rattle.refusals.specs.declared.Refusal.{Refusal}
use Rattle.terms.specs.Terms.{term_start}
use Rattle.views.specs.declared.target.SplitTarget.{SplitTarget}
use Rattle.views.specs.Groups.{or_else}
use Rattle.views.specs.Routes.{target_of, reaches_primary, reaches_secondary, holds, sender_fault}
use Rattle.views.specs.Splits.{cut_at, before_cut, behind_cut, split_fault, split_route_fault, SplitRouteTold, SplitAgrees}
use Rattle.views.proofs.Holding.{holds_append}
use Rattle.views.proofs.Routing.{first_none, reaches_primary_of, reaches_secondary_of}

module _ {N : Type 0} (term view : ℕ) (names : List N) (cut : ℕ) (at : cut ≡ cut_at term view names) where
  -- the two slices of the code are the two parts
  front_is : take cut names ≡ before_cut term view names
  front_is = ap (λ k. take k names) at

  rest_is : take (length names - cut) (drop cut names) ≡ behind_cut term view names
  rest_is = take_rest names cut ∙ ap (λ k. drop k names) at

module _ {N : Type 0} (value : N → List ℕ) (term view : ℕ) (sender : List ℕ) (names : List N) where
  cut_at_map : cut_at term view (map value names) ≡ cut_at term view names
  cut_at_map = ap (λ n. term_start term view % n) (length-map names value)

  before_cut_map : before_cut term view (map value names) ≡ map value (before_cut term view names)
  before_cut_map = ap (λ k. take k (map value names)) cut_at_map ∙ take-map value (cut_at term view names) names

  behind_cut_map : behind_cut term view (map value names) ≡ map value (behind_cut term view names)
  behind_cut_map = ap (λ k. drop k (map value names)) cut_at_map ∙ drop-map value (cut_at term view names) names

  split_fault_map : (f : Option ℕ) → split_fault term names ≡ f → split_fault term (map value names) ≡ f
  split_fault_map f e = ap (λ n. cond (eqb term 0) (Some 18) (cond (ltb 64 n) (Some 19) (cond (eqb n 0) (Some 20) None))) (length-map names value) ∙ e

  -- by whether each of the two slices holds the sender
  module _ (cut : ℕ) (at : cut ≡ cut_at term view names) (none : split_fault term names ≡ None) (a b : Bool) (p : a ≡ holds sender (map value (take cut names)))
      (q : b ≡ holds sender (map value (take (length names - cut) (drop cut names)))) where
    first_held : a ≡ holds sender (before_cut term view (map value names))
    first_held = p ∙ ap (λ l. holds sender (map value l)) (front_is term view names cut at) ∙ ap (holds sender) (sym before_cut_map)

    second_held : b ≡ holds sender (behind_cut term view (map value names))
    second_held = q ∙ ap (λ l. holds sender (map value l)) (rest_is term view names cut at) ∙ ap (holds sender) (sym behind_cut_map)

    split_route_fault_is : (t : Bool) → (a || b) ≡ t → split_route_fault term view sender (map value names) ≡ sender_fault t
    split_route_fault_is t e =
        ap (λ g. or_else g (sender_fault (holds sender (before_cut term view (map value names)) || holds sender (behind_cut term view (map value names))))) (split_fault_map None none)
        ∙ ap (λ u. sender_fault (u || holds sender (behind_cut term view (map value names)))) (sym first_held)
        ∙ ap (λ u. sender_fault (a || u)) (sym second_held)
        ∙ ap sender_fault e

    pub split_nowhere : (a || b) ≡ false → split_route_fault term view sender (map value names) ≡ Some 21
    split_nowhere e = split_route_fault_is false e

    pub split_there : (t : SplitTarget) → (a || b) ≡ true → t ≡ target_of a b → SplitRouteTold term view sender (map value names) (Ok t)
    split_there t e f = (
      split_route_fault_is true e,
      f ∙ ap (λ u. target_of u b) first_held ∙ ap (target_of (holds sender (before_cut term view (map value names)))) second_held,
    )

  -- the law of the split's route, from what is told of it
  pub split_agrees : (t : Result SplitTarget Refusal) → SplitRouteTold term view sender (map value names) t → SplitAgrees value term view sender names t
  split_agrees (Ok t) told long long' g h = record {
    target = t;
    given = refl;
    primary = ap reaches_primary told.1 ∙ reaches_primary_of _ _ ∙ ap (holds sender) before_cut_map;
    secondary = ap reaches_secondary told.1 ∙ reaches_secondary_of _ _ ∙ ap (holds sender) behind_cut_map;
  }
  split_agrees (Err x) told long long' g h =
      let all = map value names in
      let cut = cut_at term view all in
      let either = sym (holds_append sender (take cut all) (drop cut all)) ∙ ap (holds sender) (take-append-drop cut all) ∙ h in
      let none = split_fault_map None (first_none (split_fault term names) _ g) in
      let fine : split_route_fault term view sender all ≡ None =
      ap (λ f. or_else f (sender_fault (holds sender (before_cut term view all) || holds sender (behind_cut term view all)))) none ∙ ap sender_fault either in
      absurd (let z : ◌≡◌ {A = ℕ} 0 1 = cc in omega arith)
