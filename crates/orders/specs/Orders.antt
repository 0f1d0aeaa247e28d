-- Orders, sorted lists, permutations of the numbers below n, and lists that are rearrangements of one another.
--
use Rattle.std.specs.Prelude.{◌≡◌, ℕ, ◌<◌, ◌⊎◌, List, [], ◌∷◌, length, slice_index_or}
use Rattle.std.specs.List.{AllAdjacentBelow}

-- a total order
pub record Order {X : Type 0} (R : X → X → Type 0) : Type 0 where
  pub total : (x y : X) → R x y ⊎ R y x
  pub trans : (x y z : X) → R x y → R y z → R x z
  pub antisym : (x y : X) → R x y → R y x → x ≡ y

-- each element stands in order with the next one
abbrev pub Sorted : {X : Type 0} → (X → X → Type 0) → List X → Type 0
Sorted R xs = AllAdjacentBelow R xs (length xs)

-- the lexicographic order, a list before its continuations
abbrev pub Lex : List ℕ → List ℕ → Type 0
Lex [] ys = Unit {0}
Lex (x ∷ xs) [] = ⊥
Lex (x ∷ xs) (y ∷ ys) = (x < y) ⊎ ((x ≡ y) × Lex xs ys)

-- y is the one that P holds of
pub record ExactlyOne {A : Type 0} (P : A → Type 0) : Type 0 where
  pub the : A
  pub holds : P the
  pub only : (z : A) → P z → z ≡ the

-- a permutation of the numbers below n, with its inverse
pub record Renaming (n : ℕ) : Type 0 where
  pub to : ℕ → ℕ
  pub back : ℕ → ℕ
  pub to_below : (i : ℕ) → i < n → to i < n
  pub back_below : (i : ℕ) → i < n → back i < n
  pub back_to : (i : ℕ) → i < n → back (to i) ≡ i
  pub to_back : (i : ℕ) → i < n → to (back i) ≡ i

-- p moves what stands at i in xs to the place `to i` of ys
pub record MovedBy {X : Type 0} {n : ℕ} (p : Renaming n) (xs ys : List X) : Type 0 where
  pub long : length xs ≡ n
  pub long' : length ys ≡ n
  pub at : (i : ℕ) (d : X) → i < n → slice_index_or ys (p.to i) d ≡ slice_index_or xs i d

abbrev pub Moved : {X : Type 0} → ℕ → List X → List X → Type 0
Moved n xs ys = (p : Renaming n) × MovedBy p xs ys
