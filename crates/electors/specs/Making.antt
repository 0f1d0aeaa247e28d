-- Why an elector or a script is not made.
use Rattle.std.specs.Prelude.{◌≡◌, ℕ, Bool, cond, List, length, Some, None, Ok, Err, Option, Result, ◌==◌, nat_lt}
use Rattle.std.specs.List.{list_all}
use Rattle.refusals.specs.declared.Refusal.{Refusal}
use Rattle.refusals.specs.Refusals.{number_of}

-- the number of the first rule that a number of participants and a term length break
abbrev pub elector_fault : ℕ → ℕ → Option ℕ
elector_fault count term = cond (nat_lt count 2) (Some 1) (cond (nat_lt 64 count) (Some 2) (cond (term == 0) (Some 18) None))

-- what making an elector of so many participants and this term length answers: one that has them, or the number of the first rule they break
abbrev pub MadeOf : {X : Type 0} → ℕ → ℕ → (X → ℕ) → (X → ℕ) → Result X Refusal → Type 0
MadeOf count term counts terms (Ok e) = (elector_fault count term ≡ None) × (counts e ≡ count) × (terms e ≡ term)
MadeOf count term counts terms (Err e) = elector_fault count term ≡ Some (number_of e)

-- each leader is a participant
abbrev pub all_below : ℕ → List ℕ → Bool
all_below count leaders = list_all (λ leader. nat_lt leader count) leaders

-- the number of the first rule that the leaders of a script break: there are at most 64, and each is a participant of the elector below
abbrev pub leaders_fault : ℕ → List ℕ → Option ℕ
leaders_fault count leaders = cond (nat_lt 64 (length leaders)) (Some 7) (cond (all_below count leaders) None (Some 23))
