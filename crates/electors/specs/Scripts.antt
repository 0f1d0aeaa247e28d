-- What an elector answers, and what a script over an elector answers.
use Rattle.std.specs.Prelude.{◌≡◌, ℕ, ◌%◌, cond, List, Some, None, Option, nat_lt}
use Rattle.std.specs.List.{slice_get}
use Rattle.terms.specs.Terms.{term_index, script_place}

-- the participants take turns, a term each
abbrev pub turn_of : ℕ → ℕ → ℕ → ℕ
turn_of count term view = term_index term view % count

-- the leader that a script names at a view, or none past the script
abbrev pub leader_at : List ℕ → ℕ → ℕ → Option ℕ
leader_at leaders term view = slice_get leaders (script_place term view)

-- the script's leader where there is one, else what the elector below answers
abbrev pub or_below : Option ℕ → ℕ → ℕ
or_below None lower = lower
or_below (Some leader) lower = leader

-- a leader that is no participant counts as none
abbrev pub if_below : ℕ → Option ℕ → Option ℕ
if_below count None = None
if_below count (Some leader) = cond (nat_lt leader count) (Some leader) None

-- two electors of one kind of input mean the same: as many participants, terms as long, and for each epoch, view and input one leader
pub record SameMeaning {I : Type 0} (count count' term term' : ℕ) (elects elects' : ℕ → ℕ → I → ℕ) : Type 0 where
  pub same_count : count ≡ count'
  pub same_term : term ≡ term'
  pub same_leaders : (epoch view : ℕ) (input : I) → elects epoch view input ≡ elects' epoch view input
