-- What each participant does in a round, as one letter: its role, and 4 more if it leads.
-- The roles in their order: outside 0, both 1, secondary 2, primary 3.
-- A leader is heard by some half, so its letter is 5, 6 or 7.
use Rattle.std.specs.Prelude.{ℕ, ◌+◌, ◌*◌, ◌%◌, ◌^◌, ◌<◌, Bool, true, false, cond, ◌||◌, List, map, ◌==◌, nat_lt}
use Rattle.std.specs.List.{range_with_len, prefix_len}
use Rattle.scenarios.specs.declared.round.RoundScenario.{RoundScenario}
use Rattle.scenarios.specs.Masks.{bit, pack}

-- the role, by the bits in the primary and the secondary mask
abbrev pub role_of : Bool → Bool → ℕ
role_of false false = 0
role_of true true = 1
role_of false true = 2
role_of true false = 3

abbrev pub role : RoundScenario → ℕ → ℕ
role r i = role_of (bit r.primary i) (bit r.secondary i)

abbrev pub letter : RoundScenario → ℕ → ℕ
letter r i = role r i + cond (r.leader == i) 4 0

-- the letters of the first n participants
abbrev pub letters_of : ℕ → RoundScenario → List ℕ
letters_of n r = map (letter r) (range_with_len 0 n)

abbrev pub in_primary : ℕ → Bool
in_primary x = x % 2 == 1

abbrev pub in_secondary : ℕ → Bool
in_secondary x = x % 4 == 1 || x % 4 == 2

-- the round in which the participants have these letters: the first letter from 4 on leads
unfoldable pub round_of : List ℕ → RoundScenario
round_of ls = record {
  leader = prefix_len (λ x. nat_lt x 4) ls;
  primary = pack (map in_primary ls);
  secondary = pack (map in_secondary ls);
}

-- the round with these letters for the participants from start on, whose bits it did not have
abbrev pub grown : RoundScenario → ℕ → List ℕ → RoundScenario
grown r start ls = record {
  leader = r.leader;
  primary = r.primary + 2 ^ start * pack (map in_primary ls);
  secondary = r.secondary + 2 ^ start * pack (map in_secondary ls);
}

-- the round has no bit from start on
pub record Below (start : ℕ) (r : RoundScenario) : Type 0 where
  pub primary_below : r.primary < 2 ^ start
  pub secondary_below : r.secondary < 2 ^ start
