-- Leaders read from a script.
use Rattle.std.proofs.Common.{◌≡◌, ℕ, zero, suc, Bool, true, false, cond, ltb, List, [], ◌∷◌, Some, None, Option, refl}
use Rattle.std.specs.List.{slice_get}
use Rattle.std.proofs.lemmas.Bool.{cond-true, and_parts}
use Rattle.terms.specs.Terms.{script_place}
use Rattle.electors.specs.Making.{all_below, leaders_fault}
use Rattle.electors.specs.Scripts.{if_below}
use Rattle.electors.specs.States.{script_elects, Scripted}

-- what is at no fault passes its last test
passed : (long all : Bool) → cond {A = Option ℕ} long (Some 7) (cond all None (Some 23)) ≡ None → all ≡ true
passed long true e = refl
passed true false e = cc
passed false false e = cc

-- of leaders that are participants none is passed over
pub if_below_nth : (count : ℕ) (leaders : List ℕ) (i : ℕ) → all_below count leaders ≡ true → if_below count (slice_get leaders i) ≡ slice_get leaders i
if_below_nth count [] i e = refl
if_below_nth count (x ∷ xs) zero e = cond-true (ltb x count) (Some x) None (and_parts _ _ e).0
if_below_nth count (x ∷ xs) (suc i) e = if_below_nth count xs i (and_parts _ _ e).1

-- a script whose leaders are kept as they came is made
pub scripted_kept : {I : Type 0} (count term : ℕ) (elects : ℕ → ℕ → I → ℕ) (leaders kept : List ℕ) → leaders_fault count leaders ≡ None → kept ≡ leaders → Scripted leaders count count term term elects (script_elects count term elects kept)
scripted_kept count term elects leaders kept f q = record {
  no_fault = f;
  same_count = refl;
  same_term = refl;
  leads = λ epoch view input. let named = if_below_nth count leaders (script_place term view) (passed _ _ f) in cc;
}
