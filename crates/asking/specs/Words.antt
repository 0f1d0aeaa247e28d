-- What is read of the words of a line.
use Rattle.std.specs.Prelude.{◌≡◌, ℕ, ◌+◌, ◌⊎◌, Bool, true, false, cond, List, [], ◌∷◌, length, Option, Some, IfSome, Result, Ok, Err, MatchOption, MatchResult, codes}
use Rattle.std.specs.Str.{bytes_eq}
use Rattle.std.specs.Str.Iter.{split_whitespace_steps}
use Rattle.std.specs.declared.str.SplitWhitespace.{SplitWhitespace}
use denote.Ref.{Bor}
use Rattle.asking.specs.declared.words.Bar.{Bar}
use Rattle.asking.specs.declared.unasked.Unasked.{Unasked}
use Rattle.asking.specs.declared.unasked.Unasked.TheVariants.{Form, Memory}

-- the bar
abbrev pub bar_of : List ℕ → Result Bar Unasked
bar_of word = cond (bytes_eq word (codes "|")) (Ok (record {})) (Err Form)

-- r is what a word was parsed as, and any error says that the form is broken
abbrev pub IsParsed : {T E : Type 0} → Result T E → Result T Unasked → Type 0
IsParsed parsed r = MatchResult parsed (λ x. r ≡ Ok x) (λ _. r ≡ Err Form)

-- the next word of s is taken, and r is what it is parsed as; the form is broken where there is no word, too
abbrev pub Reads : {T E : Type 0} → (List ℕ → Result T E → Type 0) → SplitWhitespace → SplitWhitespace → Result T Unasked → Type 0
Reads {T} {E} gives s t r = (word : Option (Bor (List ℕ))) × split_whitespace_steps s word t
    × MatchOption word (r ≡ Err Form) (λ w. (parsed : Result T E) × gives w.now parsed × IsParsed parsed r)

-- one word after the other is read, till one is not equal to its item; r says whether all are
abbrev pub AreNext : {T E : Type 0} → (List ℕ → Result T E → Type 0) → (T → T → Bool) → SplitWhitespace → List T → Result Bool Unasked → SplitWhitespace → Type 0
AreNext gives same s [] r t = (r ≡ Ok true) × (t ≡ s)
AreNext {T} gives same s (x ∷ xs) r t = (u : SplitWhitespace) × (word : Result T Unasked) × Reads gives s u word
    × MatchResult word (λ y. elim (same y x) [ true ↦ AreNext gives same u xs r t | false ↦ (r ≡ Ok false) × (t ≡ u) ]) (λ e. (r ≡ Err e) × (t ≡ u))

-- the words are read as the values xs, one after the other, and then there is a word that is none, or no word
abbrev pub ReadsWhile : {T E : Type 0} → (List ℕ → Result T E → Type 0) → SplitWhitespace → List T → Option (Bor (List ℕ)) → SplitWhitespace → Type 0
ReadsWhile {T} {E} gives s [] end t = split_whitespace_steps s end t × IfSome end (λ w. (e : E) × gives w.now (Err e))
ReadsWhile gives s (x ∷ xs) end t = (u : SplitWhitespace) × (w : Bor (List ℕ)) × split_whitespace_steps s (Some w) u × gives w.now (Ok x) × ReadsWhile gives u xs end t

-- the words are read as the values xs, one after the other, and t is behind them
abbrev pub ReadsMany : {T E : Type 0} → (List ℕ → Result T E → Type 0) → SplitWhitespace → List T → SplitWhitespace → Type 0
ReadsMany gives s [] t = t ≡ s
ReadsMany gives s (x ∷ xs) t = (u : SplitWhitespace) × (w : Bor (List ℕ)) × split_whitespace_steps s (Some w) u × gives w.now (Ok x) × ReadsMany gives u xs t

-- there is no memory, or the form is broken by one value more than the most, and t is behind it
abbrev pub StopsReading : {T E : Type 0} → (List ℕ → Result T E → Type 0) → ℕ → SplitWhitespace → Unasked → SplitWhitespace → Type 0
StopsReading {T} gives most s e t = (e ≡ Memory) ⊎ ((e ≡ Form) × (xs : List T) × (length xs ≡ most + 1) × ReadsMany gives s xs t)
