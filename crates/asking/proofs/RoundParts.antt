-- The parts of a word make a round.
use Rattle.std.proofs.Common.{◌≡◌, ℕ, List, refl}
use Rattle.asking.specs.Rounds.{IsSplit, IsNumber, number_in, IsRound, round_in}

-- the word has the parts l and m, and m has the parts p and s
pub round_read : (word l m p s : List ℕ) (a b d : ℕ) → IsSplit word l m → IsSplit m p s → IsNumber l × (a ≡ number_in l) → IsNumber p × (b ≡ number_in p) → IsNumber s × (d ≡ number_in s) → IsRound word × (record { round = record { leader = a; primary = b; secondary = d } } ≡ round_in word)
round_read word l m p s a b d outer inner first second third =
    rw (← outer.right_is, ← inner.left_is, ← inner.right_is, ← outer.left_is, first.1, second.1, third.1) ((outer.colon, first.0, inner.colon, second.0, third.0), refl)
