-- The split of the names at a view, with no script: those before a cut, and the others.
use Rattle.std.specs.Prelude.{◌≡◌, ℕ, ◌%◌, true, cond, ◌||◌, List, map, length, take, drop, Some, None, Ok, Err, Option, Result, ◌==◌, nat_lt}
use Rattle.refusals.specs.declared.Refusal.{Refusal}
use Rattle.refusals.specs.Refusals.{number_of}
use Rattle.terms.specs.Terms.{term_start}
use Rattle.views.specs.declared.target.SplitTarget.{SplitTarget}
use Rattle.views.specs.Groups.{memory_fault, or_else, Written}
use Rattle.views.specs.Routes.{target_of, holds, sender_fault, Reaches}

-- the names are cut at the first view of the term, modulo their number
abbrev pub cut_at : {N : Type 0} → ℕ → ℕ → List N → ℕ
cut_at term view names = term_start term view % length names

abbrev pub before_cut : {N : Type 0} → ℕ → ℕ → List N → List N
before_cut term view names = take (cut_at term view names) names

abbrev pub behind_cut : {N : Type 0} → ℕ → ℕ → List N → List N
behind_cut term view names = drop (cut_at term view names) names

-- the number of the first cause to refuse a split: a term length, or a list of names that is too long or empty
abbrev pub split_fault : {N : Type 0} → ℕ → List N → Option ℕ
split_fault term names = cond (term == 0) (Some 18) (cond (nat_lt 64 (length names)) (Some 19) (cond (length names == 0) (Some 20) None))

abbrev pub split_groups_fault : {N : Type 0} → ℕ → ℕ → List N → ℕ → ℕ → Option ℕ
split_groups_fault term view names long long' = or_else (split_fault term names) (memory_fault (before_cut term view names) (behind_cut term view names) long long')

-- both parts; or nothing has changed
abbrev pub SplitTold : {N : Type 0} → ℕ → ℕ → List N → List N → List N → Result (ℕ × ℕ) Refusal → List N → List N → Type 0
SplitTold term view names xs ys (Ok sizes) xs' ys' =
    (split_groups_fault term view names (length xs) (length ys) ≡ None) × Written (before_cut term view names) (behind_cut term view names) xs ys sizes xs' ys'
SplitTold term view names xs ys (Err e) xs' ys' =
    (split_groups_fault term view names (length xs) (length ys) ≡ Some (number_of e)) × (xs' ≡ xs) × (ys' ≡ ys)

abbrev pub split_route_fault : ℕ → ℕ → List ℕ → List (List ℕ) → Option ℕ
split_route_fault term view sender names =
    or_else (split_fault term names) (sender_fault (holds sender (before_cut term view names) || holds sender (behind_cut term view names)))

-- by the part that holds the sender; names that repeat may be in both
abbrev pub SplitRouteTold : ℕ → ℕ → List ℕ → List (List ℕ) → Result SplitTarget Refusal → Type 0
SplitRouteTold term view sender names (Ok t) =
    (split_route_fault term view sender names ≡ None) × (t ≡ target_of (holds sender (before_cut term view names)) (holds sender (behind_cut term view names)))
SplitRouteTold term view sender names (Err e) = split_route_fault term view sender names ≡ Some (number_of e)

-- where the parts are given
abbrev pub SplitAgrees : {N : Type 0} → (N → List ℕ) → ℕ → ℕ → List ℕ → List N → Result SplitTarget Refusal → Type 0
SplitAgrees value term view sender names r =
    (long long' : ℕ) → split_groups_fault term view names long long' ≡ None → holds sender (map value names) ≡ true
    → Reaches sender (map value (before_cut term view names)) (map value (behind_cut term view names)) r
