-- Masks and their bits.
use Rattle.std.specs.Prelude.{ℕ, ◌+◌, ◌*◌, ◌/◌, ◌%◌, ◌^◌, Bool, cond, List, [], ◌∷◌, ◌==◌}

-- bit i of the mask m
unfoldable pub bit : ℕ → ℕ → Bool
bit m i = m / 2 ^ i % 2 == 1

-- the mask with these bits, the lowest first
abbrev pub pack : List Bool → ℕ
pack [] = 0
pack (b ∷ bs) = cond b 1 0 + 2 * pack bs
