-- Where a message goes at a view, by a script of rounds.
use Rattle.std.specs.Prelude.{◌≡◌, ℕ, ◌<◌, Bool, true, false, cond, not, ◌&&◌, ◌≢◌, List, [], ◌∷◌, map, length, Some, None, Ok, Err, Option, Result, ◌==◌, nat_lt, slice_index_or}
use Rattle.std.specs.List.{prefix_len}
use Rattle.refusals.specs.declared.Refusal.{Refusal}
use Rattle.refusals.specs.Refusals.{number_of}
use Rattle.scenarios.specs.declared.round.RoundScenario.{RoundScenario}
use Rattle.scenarios.specs.Masks.{bit}
use Rattle.views.specs.declared.target.SplitTarget.{SplitTarget}
use Rattle.views.specs.declared.target.SplitTarget.TheVariants.{None as Neither, Primary, Secondary, Both}
use Rattle.views.specs.Groups.{round_at, primary_group, secondary_group, script_fault, groups_fault, or_else}

-- the target, by whether the first half is reached and whether the second is
abbrev pub target_of : Bool → Bool → SplitTarget
target_of false false = Neither
target_of true false = Primary
target_of false true = Secondary
target_of true true = Both

abbrev pub reaches_primary : SplitTarget → Bool
reaches_primary Neither = false
reaches_primary Primary = true
reaches_primary Secondary = false
reaches_primary Both = true

abbrev pub reaches_secondary : SplitTarget → Bool
reaches_secondary Neither = false
reaches_secondary Primary = false
reaches_secondary Secondary = true
reaches_secondary Both = true

-- names mean values, and values are lists of numbers
abbrev pub same_value : List ℕ → List ℕ → Bool
same_value [] [] = true
same_value [] (y ∷ ys) = false
same_value (x ∷ xs) [] = false
same_value (x ∷ xs) (y ∷ ys) = x == y && same_value xs ys

-- the place of the first name with this value; the number of names if there is none
abbrev pub place_of : List ℕ → List (List ℕ) → ℕ
place_of value names = prefix_len (λ x. not (same_value x value)) names

abbrev pub holds : List ℕ → List (List ℕ) → Bool
holds value names = nat_lt (place_of value names) (length names)

-- the place of the first name with this value, if there is one
abbrev pub first_place : List ℕ → List (List ℕ) → Option ℕ
first_place value names = cond (holds value names) (Some (place_of value names)) None

abbrev pub sender_fault : Bool → Option ℕ
sender_fault listed = cond listed None (Some 21)

-- in a scripted round the sender has to be listed
abbrev pub route_fault : List RoundScenario → ℕ → ℕ → List ℕ → List (List ℕ) → Option ℕ
route_fault rounds term view sender names =
    or_else (script_fault rounds term names) (elim (round_at rounds term view) [ None ↦ None | Some r ↦ sender_fault (holds sender names) ])

-- by the masks of the round at the sender's place; past the script both halves are reached
abbrev pub scripted_target : Option RoundScenario → ℕ → SplitTarget
scripted_target None place = Both
scripted_target (Some r) place = target_of (bit r.primary place) (bit r.secondary place)

abbrev pub RouteTold : List RoundScenario → ℕ → ℕ → List ℕ → List (List ℕ) → Result SplitTarget Refusal → Type 0
RouteTold rounds term view sender names (Ok t) =
    (route_fault rounds term view sender names ≡ None) × (t ≡ scripted_target (round_at rounds term view) (place_of sender names))
RouteTold rounds term view sender names (Err e) = route_fault rounds term view sender names ≡ Some (number_of e)

-- no two names mean the same value
abbrev pub Distinct : List (List ℕ) → Type 0
Distinct names = (i j : ℕ) → i < j → j < length names → slice_index_or names i [] ≢ slice_index_or names j []

-- a listed sender is not refused, and reaches a half exactly if that half's group holds it
pub record Reaches (sender : List ℕ) (first second : List (List ℕ)) (r : Result SplitTarget Refusal) : Type 0 where
  pub target : SplitTarget
  pub given : r ≡ Ok target
  pub primary : reaches_primary target ≡ holds sender first
  pub secondary : reaches_secondary target ≡ holds sender second

-- where the groups are given, for names that mean these values, all different
abbrev pub RouteAgrees : {N : Type 0} → (N → List ℕ) → List RoundScenario → ℕ → ℕ → List ℕ → List N → Result SplitTarget Refusal → Type 0
RouteAgrees value rounds term view sender names r =
    (long long' : ℕ) → groups_fault rounds term view names long long' ≡ None → Distinct (map value names) → holds sender (map value names) ≡ true
    → Reaches sender (map value (primary_group (round_at rounds term view) names)) (map value (secondary_group (round_at rounds term view) names)) r
