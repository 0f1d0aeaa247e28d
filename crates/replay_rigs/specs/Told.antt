-- When a stored answer agrees.
use Rattle.std.specs.Prelude.{ℕ, Bool, not, ◌&&◌, length, is_some, ◌==◌, nat_lt}
use Rattle.scenarios.specs.Cells.{cells}
use Rattle.sets.specs.Answers.{faults_fault}
use Rattle.sets.specs.Sets.{sets}
use Rattle.terms.specs.Terms as terms

-- participants and faults break no rule, and as many sets as the count take a first few of each cell of the state s
abbrev pub sets_told : ℕ → ℕ → ℕ → ℕ → Bool
sets_told n s f count = not (is_some (faults_fault n f)) && length (sets (cells n s) f) == count

-- there is such a term length, and with it the view has this term number, this script place and this term start
abbrev pub place_told : ℕ → ℕ → ℕ → ℕ → ℕ → Bool
place_told length view i p s = nat_lt 0 length && (terms.term_index length view == i && (terms.script_place length view == p && terms.term_start length view == s))
