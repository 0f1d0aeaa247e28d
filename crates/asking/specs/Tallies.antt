-- Tallies, one for each kind. A count that can be counted no further stays.
use Rattle.std.specs.Prelude.{ℕ, ◌+◌, ◌-◌, ◌^◌, min, Bool, cond, List, ◌++◌, map, codes, decimal}
use Rattle.asking.specs.declared.tally.Tally.{Tally}

abbrev pub no_tally : Tally
no_tally = record { asked = 0; agreed = 0 }

abbrev pub none_asked : {Q : Type 0} → List Q → List (Q × Tally)
none_asked kinds = map (λ kind. (kind, no_tally)) kinds

abbrev pub up : ℕ → ℕ
up k = min (k + 1) (2 ^ 64 - 1)

abbrev pub one_more : Bool → Tally → Tally
one_more agrees t = record { asked = up t.asked; agreed = cond agrees (up t.agreed) t.agreed }

-- one question more of the kind k, in the tally of a kind: those of other kinds stay
abbrev pub told_of : {Q : Type 0} → (Q → Q → Bool) → Q → Bool → Q × Tally → Q × Tally
told_of same k agrees t = (t.0, cond (same t.0 k) (one_more agrees t.1) t.1)

-- the same in all tallies
abbrev pub noted : {Q : Type 0} → (Q → Q → Bool) → Q → Bool → List (Q × Tally) → List (Q × Tally)
noted same k agrees tallies = map (told_of same k agrees) tallies

-- what is printed of a tally
abbrev pub shown : Tally → List ℕ
shown t = decimal t.agreed ++ (codes " of " ++ (decimal t.asked ++ codes " agree"))
