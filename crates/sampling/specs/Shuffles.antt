-- A shuffle: from the last position down to position 1, each is exchanged with one drawn up to it.
use Rattle.std.specs.Prelude.{◌≡◌, ℕ, zero, suc, ◌-◌, ◌<◌, List, [], ◌∷◌, length, Ok, Err, Result}
use Rattle.std.specs.List.{swap}
use Rattle.std.specs.List.Sorted.{IsPermutation}
use Rattle.refusals.specs.declared.Refusal.{Refusal}
use Rattle.refusals.specs.Refusals.{number_of}
use Rattle.words.specs.Words.{Words}
use Rattle.words.specs.Draws.{draws}

-- the positions from i down to 1
abbrev pub down_from : ℕ → List ℕ
down_from zero = []
down_from (suc i) = suc i ∷ down_from i

-- position i is exchanged with the first number drawn, the position before it with the next, and so on
abbrev pub exchanges : {X : Type 0} → List X → ℕ → List ℕ → List X
exchanges xs i [] = xs
exchanges xs i (j ∷ js) = exchanges (swap xs i j) (i - 1) js

-- exchanged for as long as there are words; it is a rearrangement, and the words taken are gone
pub record Exchanged {X : Type 0} (xs : List X) (w : Words) (w' : Words) (ys : List X) : Type 0 where
  pub words_left : w' ≡ (draws (down_from (length xs - 1)) w).rest
  pub order : ys ≡ exchanges xs (length xs - 1) (draws (down_from (length xs - 1)) w).numbers
  pub rearranged : IsPermutation xs ys

-- all positions are exchanged; or the words run out
abbrev pub ShuffleTold : {X : Type 0} → List X → Words → Result (Unit {0}) Refusal → Words → List X → Type 0
ShuffleTold xs w (Ok _) w' ys = (length (draws (down_from (length xs - 1)) w).numbers ≡ length xs - 1) × Exchanged xs w w' ys
ShuffleTold xs w (Err e) w' ys = (number_of e ≡ 11) × (length (draws (down_from (length xs - 1)) w).numbers < length xs - 1) × Exchanged xs w w' ys
