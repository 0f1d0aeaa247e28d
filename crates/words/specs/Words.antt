-- Word sources: what is left of one, and what taking a word does.
use Rattle.std.specs.Prelude.{◌≡◌, ℕ, ◌+◌, ◌-◌, Bool, true, false, List, length, Some, None, Ok, Err, Option, Result, ◌==◌, slice_index}
use Rattle.refusals.specs.declared.Refusal.{Refusal}
use Rattle.refusals.specs.Refusals.{number_of}

-- how many words are left, none if they never end; and the word that comes k places on
pub record Words : Type 0 where
  pub left : Option ℕ
  pub word : ℕ → ℕ

abbrev pub runs_out : Option ℕ → Bool
runs_out None = false
runs_out (Some k) = k == 0

abbrev pub spent : Words → Bool
spent w = runs_out w.left

-- the words after the first k
abbrev pub fewer : ℕ → Option ℕ → Option ℕ
fewer k None = None
fewer k (Some m) = Some (m - k)

abbrev pub past : ℕ → Words → Words
past k w = record { left = fewer k w.left; word = λ j. w.word (j + k) }

-- the words of a tape, from the first on
abbrev pub written : List ℕ → Words
written ws = record { left = Some (length ws); word = slice_index ws }

-- the first word, and then the later ones; or none, and all as it was
abbrev pub Taken : Words → Result ℕ Refusal → Words → Type 0
Taken w (Ok x) w' = (spent w ≡ false) × (x ≡ w.word 0) × (w' ≡ past 1 w)
Taken w (Err e) w' = (spent w ≡ true) × (number_of e ≡ 11) × (w' ≡ w)
