-- Scripts over electors that mean the same.
use Rattle.std.proofs.Common.{ℕ, List, Ok, Err, Result, rules}
use Rattle.electors.specs.declared.script.ElectorState.{ElectorState}
use Rattle.electors.specs.declared.script.ScriptRefused.{ScriptRefused}
use Rattle.electors.specs.Scripts.{SameMeaning}
use Rattle.electors.specs.States.{Answered, Alike}

-- one script over electors that mean the same is made over both or refused over both, and means the same over both
pub answered_alike : {X Y I : Type 0} (counts terms : X → ℕ) (elects : X → ℕ → ℕ → I → ℕ) (counts' terms' : Y → ℕ) (elects' : Y → ℕ → ℕ → I → ℕ) (e : X) (f : Y) (leaders : List ℕ) (r : Result (ElectorState X) (ScriptRefused X)) (q : Result (ElectorState Y) (ScriptRefused Y)) → Answered counts terms elects e leaders r → Answered counts' terms' elects' f leaders q → SameMeaning (counts e) (counts' f) (terms e) (terms' f) (elects e) (elects' f) → Alike counts terms elects counts' terms' elects' r q
answered_alike counts terms elects counts' terms' elects' e f leaders (Ok s) (Ok t) a b m =
    search rules
answered_alike counts terms elects counts' terms' elects' e f leaders (Ok s) (Err d) a b m = cc
answered_alike counts terms elects counts' terms' elects' e f leaders (Err d) (Ok t) a b m = cc
answered_alike counts terms elects counts' terms' elects' e f leaders (Err c) (Err d) a b m = (cc, search rules)
