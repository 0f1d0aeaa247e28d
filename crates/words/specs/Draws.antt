-- Draws of numbers up to a bound. Nothing above this page depends on how a draw makes a number of words.
use Rattle.std.specs.Prelude.{◌≡◌, ℕ, ◌+◌, ◌%◌, ◌<◌, ◌≤◌, true, cond, List, [], ◌∷◌, length, Some, None, Ok, Err, Option, Result, slice_index}
use Rattle.refusals.specs.declared.Refusal.{Refusal}
use Rattle.refusals.specs.Refusals.{number_of}
use Rattle.words.specs.Words.{Words, spent, past}

-- the number drawn, none if the words ran out; and the words that are left
pub record Draw : Type 0 where
  pub number : Option ℕ
  pub rest : Words

-- a draw up to b: the remainder of a word by b + 1
unfoldable pub draw : ℕ → Words → Draw
draw b w = cond (spent w) (record { number = None; rest = w }) (record { number = Some (w.word 0 % (b + 1)); rest = past 1 w })

abbrev pub Drawn : ℕ → Words → Result ℕ Refusal → Words → Type 0
Drawn b w (Ok x) w' = draw b w ≡ record { number = Some x; rest = w' }
Drawn b w (Err e) w' = (number_of e ≡ 11) × (draw b w ≡ record { number = None; rest = w' })

-- draws up to one bound after the other: the numbers drawn until the words run out, and the words that are left
pub record Draws : Type 0 where
  pub numbers : List ℕ
  pub rest : Words

-- a draw, and those after it unless the words ran out
abbrev pub onward : Draw → Draws → Draws
onward d ds = elim d.number [ None ↦ record { numbers = []; rest = d.rest } | Some x ↦ record { numbers = x ∷ ds.numbers; rest = ds.rest } ]

abbrev pub draws : List ℕ → Words → Draws
draws [] w = record { numbers = []; rest = w }
draws (b ∷ bs) w = onward (draw b w) (draws bs (draw b w).rest)

-- each draw takes a word, from the first on, and is its remainder; draws end early only where the words do
pub record WordsUsed (bs : List ℕ) (w : Words) (d : Draws) : Type 0 where
  pub one_each : d.rest ≡ past (length d.numbers) w
  pub remainders : (i : ℕ) → i < length d.numbers → slice_index d.numbers i ≡ w.word i % (slice_index bs i + 1)
  pub no_more : length d.numbers ≤ length bs
  pub cut_short : length d.numbers < length bs → spent d.rest ≡ true
