-- Rounds as lines write them.
use Rattle.std.specs.Prelude.{◌≡◌, ℕ, ◌<◌, ◌^◌, Bool, List, Result, length, ◌==◌, OkIff}
use Rattle.std.specs.List.{position_or_len, before_first, after_first}
use Rattle.std.specs.Str.Parse.{IsNumeral, digits_value, without_leading_plus}
use Rattle.asking.specs.declared.round.Round.{Round}
use Rattle.asking.specs.declared.unasked.Unasked.{Unasked}

-- the code of a colon
abbrev pub is_colon : ℕ → Bool
is_colon b = b == 58

abbrev pub HasColon : List ℕ → Type 0
HasColon text = position_or_len is_colon text < length text

-- the parts of a text before its first colon and behind it
abbrev pub before : List ℕ → List ℕ
before text = before_first is_colon text

abbrev pub behind : List ℕ → List ℕ
behind text = after_first is_colon text

pub record IsSplit (text left right : List ℕ) : Type 0 where
  pub colon : HasColon text
  pub left_is : left ≡ before text
  pub right_is : right ≡ behind text

-- a number of at most 64 bits, in decimal digits
abbrev pub number_in : List ℕ → ℕ
number_in text = digits_value 10 (without_leading_plus text)

abbrev pub IsNumber : List ℕ → Type 0
IsNumber text = IsNumeral 10 (without_leading_plus text) × (number_in text < 2 ^ 64)

abbrev pub IsRound : List ℕ → Type 0
IsRound word = HasColon word × IsNumber (before word) × HasColon (behind word) × IsNumber (before (behind word)) × IsNumber (behind (behind word))

abbrev pub round_in : List ℕ → Round
round_in word = record { round = record { leader = number_in (before word); primary = number_in (before (behind word)); secondary = number_in (behind (behind word)) } }

-- r is the round where the word is one, and else an error
abbrev pub ReadsRound : List ℕ → Result Round Unasked → Type 0
ReadsRound word r = OkIff r (IsRound word) (round_in word)
