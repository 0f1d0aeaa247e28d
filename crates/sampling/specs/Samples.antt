-- What sampling answers, and leaves in the rank memory and of the words.
use Rattle.std.specs.Prelude.{◌≡◌, ℕ, ◌<◌, ◌≤◌, min, ◌⊎◌, List, ◌++◌, map, length, drop, replicate, Ok, Err, Result}
use Rattle.refusals.specs.declared.Refusal.{Refusal}
use Rattle.refusals.specs.Refusals.{number_of}
use Rattle.table.specs.declared.Entry.{Entry}
use Rattle.words.specs.Words.{Words}
use Rattle.words.specs.Draws.{draws}
use Rattle.sampling.specs.Floyd.{bounds, sample, Sample}

abbrev pub Slot : Type 0
Slot = Entry ℕ (Unit {0})

abbrev pub slot : ℕ → Slot
slot rank = record { key = rank; value = tt }

-- m ranks are drawn, all different and below the total, and stand in front in the order drawn; the rest is as it was
pub record Sampled (total m : ℕ) (w : Words) (xs : List Slot) (w' : Words) (ys : List Slot) : Type 0 where
  pub room : m ≤ length xs
  pub enough : length (draws (bounds total m) w).numbers ≡ m
  pub words_left : w' ≡ (draws (bounds total m) w).rest
  pub ranks : ys ≡ map slot (sample total (draws (bounds total m) w).numbers) ++ drop m xs
  pub fair : Sample total (draws (bounds total m) w).numbers (sample total (draws (bounds total m) w).numbers)

-- the rank memory is too short, and all is as it was; or the words run out: then those taken are gone, and all ranks are zero
abbrev pub SamplingRefused : ℕ → ℕ → Words → List Slot → Refusal → Words → List Slot → Type 0
SamplingRefused total m w xs e w' ys =
    ((number_of e ≡ 10) × (length xs < m) × (w' ≡ w) × (ys ≡ xs))
    ⊎ ((number_of e ≡ 11) × (m ≤ length xs) × (length (draws (bounds total m) w).numbers < m) × (w' ≡ (draws (bounds total m) w).rest) × (ys ≡ replicate (length xs) (slot 0)))

-- of so many asked for, no more than there are
abbrev pub SamplingTold : ℕ → ℕ → Words → List Slot → Result ℕ Refusal → Words → List Slot → Type 0
SamplingTold total asked w xs (Ok k) w' ys = (k ≡ min asked total) × Sampled total (min asked total) w xs w' ys
SamplingTold total asked w xs (Err e) w' ys = SamplingRefused total (min asked total) w xs e w' ys
