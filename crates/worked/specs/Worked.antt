-- Worked numbers: what the definitions say at given values, as one table.
use Rattle.std.specs.Prelude.{◌≡◌, ℕ, List, [], ◌∷◌, map}
use Rattle.scenarios.specs.declared.round.RoundScenario.{RoundScenario}
use Rattle.scenarios.specs.Worked.{round_at}
use Rattle.words.specs.Words.{written}
use Rattle.words.specs.Draws.{draws}
use Rattle.sampling.specs.Floyd.{bounds, sample}
use Rattle.sampling.specs.Shuffles.{down_from, exchanges}
use Rattle.sets.specs.Sets.{sets}
use Rattle.terms.specs.Terms.{script_place, term_start}
use Rattle.views.specs.Groups as groups
use Rattle.views.specs.Groups.{primary_group, secondary_group}
use Rattle.views.specs.Routes.{place_of, scripted_target}
use Rattle.views.specs.declared.target.SplitTarget.TheVariants.{Both}

-- sampling: 5 ranks of 12, by the words 3 3 9 10 2
abbrev five : List ℕ
five = (draws (bounds 12 5) (written (3 ∷ 3 ∷ 9 ∷ 10 ∷ 2 ∷ []))).numbers

-- the shuffle: a b c d, by the words 5 4 1
abbrev three_draws : List ℕ
three_draws = (draws (down_from 3) (written (5 ∷ 4 ∷ 1 ∷ []))).numbers

abbrev pub WorkedDraws : Type 0
WorkedDraws =
    (sample 12 five ≡ 3 ∷ 8 ∷ 9 ∷ 10 ∷ 2 ∷ [])
    × ((a b c d : ℕ) → exchanges (a ∷ b ∷ c ∷ d ∷ []) 3 three_draws ≡ a ∷ c ∷ d ∷ b ∷ [])

-- compromised sets of cells of 2 and 1 participants, in their order
abbrev pub WorkedSets : Type 0
WorkedSets =
    (sets (2 ∷ 1 ∷ []) 1 ≡ (2 ∷ []) ∷ (0 ∷ []) ∷ [])
    × (sets (2 ∷ 1 ∷ []) 2 ≡ (0 ∷ 2 ∷ []) ∷ (0 ∷ 1 ∷ []) ∷ [])

-- terms of five views, and where view 10's begins
abbrev pub WorkedTerms : Type 0
WorkedTerms =
    (map (script_place 5) (0 ∷ 1 ∷ 2 ∷ 3 ∷ 4 ∷ 5 ∷ 6 ∷ []) ≡ 0 ∷ 0 ∷ 0 ∷ 0 ∷ 0 ∷ 0 ∷ 1 ∷ [])
    × (term_start 5 10 ≡ 6)

-- the round 2:6:5, for the names a b c
abbrev script : List RoundScenario
script = round_at 2 6 5 ∷ []

abbrev names : List (List ℕ)
names = (97 ∷ []) ∷ (98 ∷ []) ∷ (99 ∷ []) ∷ []

abbrev pub WorkedGroups : Type 0
WorkedGroups =
    (primary_group (groups.round_at script 1 1) names ≡ (98 ∷ []) ∷ (99 ∷ []) ∷ [])
    × (secondary_group (groups.round_at script 1 1) names ≡ (97 ∷ []) ∷ (99 ∷ []) ∷ [])
    × (scripted_target (groups.round_at script 1 1) (place_of (99 ∷ []) names) ≡ Both)
