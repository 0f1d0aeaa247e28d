-- What a script over an elector promises.
use Rattle.std.specs.Prelude.{◌≡◌, ℕ, List, [], Some, None, Ok, Err, Result}
use Rattle.refusals.specs.Refusals.{number_of}
use Rattle.electors.specs.declared.script.ElectorState.{ElectorState}
use Rattle.electors.specs.declared.script.ScriptRefused.{ScriptRefused}
use Rattle.electors.specs.Making.{leaders_fault}
use Rattle.electors.specs.Scripts.{leader_at, or_below, if_below, SameMeaning}

-- what a script of these leaders elects, over an elector of this count, term length and meaning
abbrev pub script_elects : {I : Type 0} → ℕ → ℕ → (ℕ → ℕ → I → ℕ) → List ℕ → ℕ → ℕ → I → ℕ
script_elects count term elects leaders epoch view input = or_below (if_below count (leader_at leaders term view)) (elects epoch view input)

-- the leaders of a script
abbrev pub leaders_of : {X : Type 0} → ElectorState X → List ℕ
leaders_of s = s.leaders.items

-- what a script elects, where the elector below has these meanings
abbrev pub state_elects : {X I : Type 0} → (X → ℕ) → (X → ℕ) → (X → ℕ → ℕ → I → ℕ) → ElectorState X → ℕ → ℕ → I → ℕ
state_elects counts terms elects s = script_elects (counts s.below) (terms s.below) (elects s.below) (leaders_of s)

-- a script is made: its leaders are at no fault, and at a place of the script it gives the leader there; what has a prime is the script's
pub record Scripted {I : Type 0} (leaders : List ℕ) (count count' term term' : ℕ) (elects elects' : ℕ → ℕ → I → ℕ) : Type 0 where
  pub no_fault : leaders_fault count leaders ≡ None
  pub same_count : count' ≡ count
  pub same_term : term' ≡ term
  pub leads : (epoch view : ℕ) (input : I) → elects' epoch view input ≡ or_below (leader_at leaders term view) (elects epoch view input)

-- what making a script over an elector answers: the script, or the number of a fault and an empty script that means what the elector means
abbrev pub Answered : {X I : Type 0} → (X → ℕ) → (X → ℕ) → (X → ℕ → ℕ → I → ℕ) → X → List ℕ → Result (ElectorState X) (ScriptRefused X) → Type 0
Answered counts terms elects below leaders (Ok s) =
    (s.below ≡ below)
    × (leaders_of s ≡ leaders)
    × Scripted leaders (counts below) (counts s.below) (terms below) (terms s.below) (elects below) (state_elects counts terms elects s)
Answered counts terms elects below leaders (Err e) =
    (leaders_fault (counts below) leaders ≡ Some (number_of e.refusal))
    × (e.script.below ≡ below)
    × (leaders_of e.script ≡ [])
    × SameMeaning (counts e.script.below) (counts below) (terms e.script.below) (terms below) (state_elects counts terms elects e.script) (elects below)

-- two answers are alike: two scripts that mean the same, or two refusals of one number with scripts that mean the same
abbrev pub Alike : {X Y I : Type 0} → (X → ℕ) → (X → ℕ) → (X → ℕ → ℕ → I → ℕ) → (Y → ℕ) → (Y → ℕ) → (Y → ℕ → ℕ → I → ℕ) → Result (ElectorState X) (ScriptRefused X) → Result (ElectorState Y) (ScriptRefused Y) → Type 0
Alike counts terms elects counts' terms' elects' (Ok s) (Ok t) = SameMeaning (counts s.below) (counts' t.below) (terms s.below) (terms' t.below) (state_elects counts terms elects s) (state_elects counts' terms' elects' t)
Alike counts terms elects counts' terms' elects' (Ok s) (Err e) = ⊥
Alike counts terms elects counts' terms' elects' (Err d) (Ok t) = ⊥
Alike counts terms elects counts' terms' elects' (Err d) (Err e) =
    (number_of d.refusal ≡ number_of e.refusal)
    × SameMeaning (counts d.script.below) (counts' e.script.below) (terms d.script.below) (terms' e.script.below) (state_elects counts terms elects d.script) (state_elects counts' terms' elects' e.script)
