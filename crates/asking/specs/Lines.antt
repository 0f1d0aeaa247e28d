-- Which lines an input gives, what their questions do to the tallies, and what is written of them.
use Rattle.std.specs.Prelude.{◌≡◌, ℕ, ◌<◌, Bool, false, cond, List, [], ◌∷◌, ◌++◌, length, map, flat_map, Option, IfSome, MatchOption, Result, Ok, find, codes, decimal}
use Rattle.std.specs.Io.BufRead.{first_line, drop_through}
use Rattle.std.specs.Io.Iter.{lines_known_bytes}
use Rattle.std.specs.Iterator.{Drains}
use Rattle.std.specs.Str.{bytes_eq}
use Rattle.std.specs.Str.Iter.{split_whitespace_steps, split_whitespace_rest}
use Rattle.std.specs.declared.io.traits.Lines.{Lines}
use Rattle.std.specs.declared.str.SplitWhitespace.{SplitWhitespace}
use denote.Ref.{Bor}
use Rattle.asking.specs.declared.tally.Tally.{Tally}
use Rattle.asking.specs.Tallies.{none_asked, up, noted, shown}

-- the first of the kinds that has this word
abbrev pub kind_of : {Q : Type 0} → (Q → List ℕ) → List Q → List ℕ → Option Q
kind_of word kinds w = find (λ kind. bytes_eq (word kind) w) kinds

-- w is the first word of the line, if it has a word
abbrev pub HasFirstWord : List ℕ → Option (Bor (List ℕ)) → Type 0
HasFirstWord line w = (s : SplitWhitespace) × (t : SplitWhitespace) × (split_whitespace_rest s ≡ line) × split_whitespace_steps s w t

-- one question more of the kind that the first word names; and false, with all tallies as before, where it names none
abbrev pub Asks : {Q : Type 0} → (Q → List ℕ) → List Q → (Q → Q → Bool) → List ℕ → Bool → List (Q × Tally) → List (Q × Tally) → Type 0
Asks word kinds same line agrees old new = (w : Option (Bor (List ℕ))) × HasFirstWord line w
    × MatchOption w ((agrees ≡ false) × (new ≡ old)) (λ x. MatchOption (kind_of word kinds x.now) ((agrees ≡ false) × (new ≡ old)) (λ kind. new ≡ noted same kind agrees old))

-- what ends a line that is written
abbrev pub line_feed : List ℕ
line_feed = 10 ∷ []

-- what is written of the line with the number k: nothing where it agrees
abbrev pub fault_of : ℕ → Bool → List ℕ
fault_of k agrees = cond agrees [] (codes "line " ++ (decimal k ++ (codes " does not agree" ++ line_feed)))

-- what is written of the tallies at the end
abbrev pub closing : {Q : Type 0} → (Q → List ℕ) → List (Q × Tally) → List ℕ
closing word tallies = flat_map (λ t. word t.0 ++ (codes " " ++ (shown t.1 ++ line_feed))) tallies

-- the questions of the lines, whose numbers go on from k, are asked one after the other, and `faults` is written of them
abbrev pub Answered : {Q : Type 0} → (Q → List ℕ) → List Q → (Q → Q → Bool) → ℕ → List (List ℕ) → List (Q × Tally) → List ℕ → List (Q × Tally) → Type 0
Answered word kinds same k [] old faults new = (faults ≡ []) × (new ≡ old)
Answered {Q} word kinds same k (line ∷ lines) old faults new = (agrees : Bool) × (mid : List (Q × Tally)) × (others : List ℕ)
    × Asks word kinds same line agrees old mid × Answered word kinds same (up k) lines mid others new × (faults ≡ fault_of (up k) agrees ++ others)

-- all that is written of the lines: the faults, and then the tallies
abbrev pub Report : {Q : Type 0} → (Q → List ℕ) → List Q → (Q → Q → Bool) → List (List ℕ) → List ℕ → Type 0
Report {Q} word kinds same lines text = (faults : List ℕ) × (tallies : List (Q × Tally))
    × Answered word kinds same 0 lines (none_asked kinds) faults tallies × (text ≡ faults ++ closing word tallies)

-- an iterator gives texts to its end, and these are their bytes
abbrev pub GivesAll : {S A E : Type 0} → (S → Option (Result A E) → S → Type 0) → (A → List ℕ) → S → List (List ℕ) → Type 0
GivesAll {A} steps bytes s lines = (given : List A) × Drains steps s (map Ok given) × (lines ≡ map bytes given)

-- the bytes are these lines, one after the other, each with its end, but for the last, which may have none
abbrev pub AreLines : List ℕ → List (List ℕ) → Type 0
AreLines xs [] = xs ≡ []
AreLines xs (line ∷ lines) = (0 < length xs) × (line ≡ first_line xs) × AreLines (drop_through 10 xs) lines

-- these are all the lines that an input gives; where the bytes that it has left are known, they are the lines of these bytes
abbrev pub LinesOf : {R H A E : Type 0} → (Lines R H → Option (Result A E) → Lines R H → Type 0) → (A → List ℕ) → (R → Option (List ℕ)) → R → List (List ℕ) → Type 0
LinesOf {R} {H} steps bytes left input lines = (s : Lines R H) × (lines_known_bytes left s ≡ left input) × GivesAll steps bytes s lines × IfSome (left input) (λ xs. AreLines xs lines)
