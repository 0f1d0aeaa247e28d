-- SplitMix64, by Steele, Lea and Flood: a counter that goes on by a fixed odd step, and a mix of each of its values.
use Rattle.std.specs.Prelude.{ℕ, ◌+◌, ◌*◌, ◌/◌, ◌%◌, ◌^◌, None, bit_xor}
use Rattle.words.specs.Words.{Words}

-- 2^64 divided by the golden ratio, made odd
abbrev pub gamma : ℕ
gamma = 0x9e3779b97f4a7c15

-- z with its high bits folded into the low ones, times a constant, in 64 bits
abbrev pub folded : ℕ → ℕ → ℕ
folded shift z = bit_xor z (z / 2 ^ shift)

unfoldable pub mix : ℕ → ℕ
mix z = folded 31 (folded 27 (folded 30 z * 0xbf58476d1ce4e5b9 % 2 ^ 64) * 0x94d049bb133111eb % 2 ^ 64)

-- the state after k steps
abbrev pub stepped : ℕ → ℕ → ℕ
stepped state k = (state + k * gamma) % 2 ^ 64

-- the words from a state: they never end
abbrev pub mixed : ℕ → Words
mixed state = record { left = None; word = λ k. mix (stepped state (k + 1)) }
