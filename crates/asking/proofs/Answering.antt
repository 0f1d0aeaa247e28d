-- A loop that answers one line after the other.
use Rattle.std.proofs.Common.{◌≡◌, ℕ, Bool, List, [], ◌∷◌, ◌++◌, map, Option, None, Result, Ok, refl, sym, ap, ◌∙◌, subst, append_assoc, append-nil}
use Rattle.std.proofs.lemmas.List.{map-append}
use Rattle.std.proofs.KnownBytes.{Appends-nil, Appends-trans}
use Rattle.std.specs.Iterator.{Yields}
use Rattle.std.specs.Io.KnownBytes.{Appends}
use Rattle.asking.specs.declared.tally.Tally.{Tally}
use Rattle.asking.specs.Tallies.{none_asked, up}
use Rattle.asking.specs.Lines.{Asks, Answered, Report, GivesAll, fault_of, closing}

module _ {Q A E : Type 0} (word : Q → List ℕ) (kinds : List Q) (same : Q → Q → Bool) (bytes : A → List ℕ) (start : Option (List ℕ)) where
  -- all items were texts; what comes of the lines that are left, whose numbers go on from k, comes of all, behind the faults of those that were answered
  pub record SoFar (items : List (Result A E)) (k : ℕ) (tallies : List (Q × Tally)) (now : Option (List ℕ)) : Type 0 where
    pub given : List A
    pub faults : List ℕ
    pub all : items ≡ map Ok given
    pub written : Appends start now faults
    pub comes : (more : List (List ℕ)) (others : List ℕ) (new : List (Q × Tally)) → Answered word kinds same k more tallies others new
        → Answered word kinds same 0 (map bytes given ++ more) (none_asked kinds) (faults ++ others) new

  pub so_far_none : SoFar [] 0 (none_asked kinds) start
  so_far_none = record { given = []; faults = []; all = refl; written = Appends-nil start; comes = λ more others new left. left }

  -- one line more
  pub so_far_more : (items : List (Result A E)) (k : ℕ) (tallies new : List (Q × Tally)) (now then : Option (List ℕ)) (text : A) (agrees : Bool) → SoFar items k tallies now
      → Asks word kinds same (bytes text) agrees tallies new → Appends now then (fault_of (up k) agrees) → SoFar (items ++ Ok text ∷ []) (up k) new then
  so_far_more items k tallies new now then text agrees f asked wrote =
      let fault = fault_of (up k) agrees in
      record {
        given = f.given ++ text ∷ [];
        faults = f.faults ++ fault;
        all = ap (λ l. l ++ Ok text ∷ []) f.all ∙ sym (map-append Ok f.given (text ∷ []));
        written = Appends-trans start now then f.faults fault f.written wrote;
        comes = λ more others end left.
            rw (map-append bytes f.given (text ∷ []), append_assoc (map bytes f.given) (bytes text ∷ []) more, append_assoc f.faults fault others)
            (f.comes (bytes text ∷ more) (fault ++ others) end (agrees, new, others, asked, left, refl));
      }

  -- the end of the lines, and the tallies behind the faults
  pub so_far_all : {S : Type 0} (steps : S → Option (Result A E) → S → Type 0) (s t u : S) (items : List (Result A E)) (k : ℕ) (tallies : List (Q × Tally)) (now end : Option (List ℕ))
      → SoFar items k tallies now → Yields steps s items t → steps t None u → Appends now end (closing word tallies)
      → (lines : List (List ℕ)) × (text : List ℕ) × GivesAll steps bytes s lines × Report word kinds same lines text × Appends start end text
  so_far_all steps s t u items k tallies now end f came last wrote =
      let faults = f.comes [] [] tallies (refl, refl) in (
        map bytes f.given,
        f.faults ++ closing word tallies,
        (f.given, (u, (t, subst (λ l. Yields steps s l t) f.all came, last)), refl),
        (f.faults, tallies, rw (append-nil (map bytes f.given), append-nil f.faults) at faults, refl),
        Appends-trans start now end f.faults (closing word tallies) f.written wrote,
      )
