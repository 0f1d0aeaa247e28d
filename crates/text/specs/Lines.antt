use Rattle.std.specs.Prelude.{◌≡◌, ℕ, ◌+◌, ◌-◌, ◌*◌, ◌^◌, ◌<◌, Bool, true, cond, ◌&&◌, List, [], ◌∷◌, ◌++◌, length, take, drop, is_some, Some, None, Ok, Err, codes, decimal, Option, Result, ◌==◌, nat_lt}
use Rattle.std.specs.Char.{is_ascii_digit}
use Rattle.std.specs.Str.{all_ascii_digits}
use Rattle.scenarios.specs.declared.mode.Mode.{Mode}
use Rattle.scenarios.specs.declared.mode.Mode.TheVariants.{Sampled, Sustained}
use Rattle.refusals.specs.declared.Refusal.{Refusal}
use Rattle.refusals.specs.declared.Refusal.TheVariants.{PlanLine as Fault}
use Rattle.refusals.specs.Refusals.{number_of, place_of}
use Rattle.text.specs.declared.PlanLine.{PlanLine}

-- THE FORM: participants, faults, rounds and mode, each ended by a space (32), and the cap, ended by a line feed (10),
-- which ends the text

-- s or u
abbrev pub letter : Mode → ℕ
letter Sampled = 115
letter Sustained = 117

-- a line as it is written; `decimal n` is what printing n writes: its digits, with no needless zero in front
abbrev pub written : PlanLine → List ℕ
written l = decimal l.participants ++ 32 ∷ (decimal l.faults ++ 32 ∷ (decimal l.rounds ++ 32 ∷ (letter l.mode ∷ 32 ∷ (decimal l.cap ++ 10 ∷ []))))

-- its numbers are at most 4,294,967,295
abbrev pub Small : PlanLine → Type 0
Small l = (l.participants < 2 ^ 32) × (l.faults < 2 ^ 32) × (l.rounds < 2 ^ 32) × (l.cap < 2 ^ 32)

-- the text is this line
abbrev pub Line : List ℕ → PlanLine → Type 0
Line text l = (text ≡ written l) × Small l

-- WHAT A FIELD MAY HOLD

-- the number that digits write after the number n
abbrev pub value_after : ℕ → List ℕ → ℕ
value_after n [] = n
value_after n (b ∷ bs) = value_after (n * 10 + (b - 48)) bs

abbrev pub value : List ℕ → ℕ
value bs = value_after 0 bs

-- no bytes at all, or a needless zero in front
abbrev pub misbegun : List ℕ → Bool
misbegun [] = true
misbegun (b ∷ bs) = b == 48 && nat_lt 0 (length bs)

-- the number of a number field, where the bytes are a numeral and the number is of at most 32 bits
abbrev pub numeral : List ℕ → Option ℕ
numeral bs = cond (misbegun bs) None (cond (all_ascii_digits bs && nat_lt (value bs) (2 ^ 32)) (Some (value bs)) None)

abbrev pub mode_of : ℕ → Option Mode
mode_of b = cond (b == 115) (Some Sampled) (cond (b == 117) (Some Sustained) None)

-- the mode of a mode field, where the bytes are one letter and it names a mode
abbrev pub mode_in : List ℕ → Option Mode
mode_in [] = None
mode_in (b ∷ bs) = cond (nat_lt 0 (length bs)) None (mode_of b)

-- THE PLACE OF A FAULT

-- the place of the first byte `end` among bytes that begin at the place `at`
abbrev pub first : ℕ → ℕ → List ℕ → Option ℕ
first end at [] = None
first end at (b ∷ bs) = cond (b == end) (Some at) (first end (at + 1) bs)

-- the end of a field that begins at `at`
abbrev pub end_of : List ℕ → ℕ → ℕ → Option ℕ
end_of text at end = first end at (drop at text)

-- the bytes of a text from one place to before another
abbrev pub part : List ℕ → ℕ → ℕ → List ℕ
part text at e = take (e - at) (drop at text)

-- a field: the byte that ends it, and the test of what it holds
pub record Field : Type 0 where
  pub end : ℕ
  pub good : List ℕ → Bool

abbrev pub number_field : ℕ → Field
number_field end = record { end = end; good = λ bs. is_some (numeral bs) }

abbrev pub mode_field : Field
mode_field = record { end = 32; good = λ bs. is_some (mode_in bs) }

abbrev pub fields : List Field
fields = number_field 32 ∷ number_field 32 ∷ number_field 32 ∷ mode_field ∷ number_field 10 ∷ []

-- the first fault of fields that begin at `at`: a field with no end is at fault at the text's length,
-- a bad field at its first byte, and what follows the last field at its first byte
abbrev pub fault_from : List ℕ → ℕ → List Field → Option ℕ
fault_from text at [] = cond (nat_lt at (length text)) (Some at) None
fault_from text at (f ∷ fs) =
    elim (end_of text at f.end) [
      | None ↦ Some (length text)
      | Some e ↦ cond (f.good (part text at e)) (fault_from text (e + 1) fs) (Some at)
    ]

abbrev pub fault : List ℕ → Option ℕ
fault text = fault_from text 0 fields

-- refused: the cause is the one that has a place, its place is that of the first fault, and the text is no line
abbrev pub Refused : List ℕ → Refusal → Type 0
Refused text e = (number_of e ≡ 24) × (place_of e ≡ fault text) × ((l : PlanLine) → Line text l → ⊥)

-- THEOREMS

-- a text is at most one line, it is a line just where no fault is found, and a number field may hold just what `decimal` writes
abbrev pub LinesStand : Type 0
LinesStand =
    ((text : List ℕ) (k l : PlanLine) → Line text k → Line text l → k ≡ l)
    × ((text : List ℕ) (l : PlanLine) → Line text l → fault text ≡ None)
    × ((text : List ℕ) → fault text ≡ None → (l : PlanLine) × Line text l)
    × ((bs : List ℕ) (n : ℕ) → numeral bs ≡ Some n → (bs ≡ decimal n) × (n < 2 ^ 32))
    × ((n : ℕ) → n < 2 ^ 32 → numeral (decimal n) ≡ Some n)

abbrev pub LinesWorked : Type 0
LinesWorked =
    Line (codes "2 1 1 s 2\n") (record { participants = 2; faults = 1; rounds = 1; mode = Sampled; cap = 2 })
    × Line (codes "4 1 10 u 4294967295\n") (record { participants = 4; faults = 1; rounds = 10; mode = Sustained; cap = 4294967295 })
    × (fault (codes "4 1 10 u 4294967296\n") ≡ Some 9)
    × (fault (codes "2 1 1\ns 2\n") ≡ Some 4)
    × (fault (codes "2 1 1 s 2 3\n") ≡ Some 8)
    × (fault (codes "x") ≡ Some 1)
    × (fault (codes "2 ") ≡ Some 2)
    × (fault (codes "") ≡ Some 0)
    × (fault (codes "02 1") ≡ Some 0)
    × (fault (codes "2 1 1 s 2\nx") ≡ Some 10)
    × (fault (codes "2 1 1 s 2") ≡ Some 9)

-- THE STEPS OF THE READER

-- a number with one more digit, where that is a digit and the number is of at most 32 bits
abbrev pub pushed : ℕ → ℕ → Option ℕ
pushed n b = cond (is_ascii_digit b && nat_lt (n * 10 + (b - 48)) (2 ^ 32)) (Some (n * 10 + (b - 48))) None

-- what the field at `at` holds and the place after its end, or the place of its fault
abbrev pub field_at : {X : Type 0} → (List ℕ → Option X) → List ℕ → ℕ → ℕ → Result (X × ℕ) Refusal
field_at held text at end =
    elim (end_of text at end) [
      | None ↦ Err (Fault (length text))
      | Some e ↦ elim (held (part text at e)) [ None ↦ Err (Fault at) | Some x ↦ Ok (x, e + 1) ]
    ]

-- a reader answers what `held` says, at each part of the text from `at` on
abbrev pub Reads : {X : Type 0} → (List ℕ → Option X → Type 0) → (List ℕ → Option X) → List ℕ → ℕ → Type 0
Reads {X} answers held text at = (e : ℕ) (r : Option X) → answers (part text at e) r → r ≡ held (part text at e)

abbrev pub number_at : List ℕ → ℕ → ℕ → Result (ℕ × ℕ) Refusal
number_at text at end = field_at numeral text at end

abbrev pub mode_at : List ℕ → ℕ → Result (Mode × ℕ) Refusal
mode_at text at = field_at mode_in text at 32
