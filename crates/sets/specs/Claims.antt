-- Theorems on compromised sets: numbers and sets correspond, and the sets that take a first few of each cell suffice.
use Rattle.std.specs.Prelude.{◌≡◌, ℕ, ◌+◌, ◌<◌, ◌&&◌, ◌⊎◌, List, [], ◌∷◌, length, filter, nat_le, nat_lt}
use Rattle.orders.specs.Orders.{ExactlyOne, Renaming}
use Rattle.orders.specs.Members.{member}
use Rattle.sets.specs.Sets.{SetOf, cell_of, FirstFew, sets, set_at}

-- how many members of the set each cell has; the first cell begins at start
abbrev pub shares : ℕ → List ℕ → List ℕ → List ℕ
shares start [] s = []
shares start (c ∷ cs) s = length (filter (λ x. nat_le start x && nat_lt x (start + c)) s) ∷ shares (start + c) cs s

-- at the first place where they differ, the first list has the smaller number
abbrev pub Earlier : List ℕ → List ℕ → Type 0
Earlier [] ys = ⊥
Earlier (x ∷ xs) [] = ⊥
Earlier (x ∷ xs) (y ∷ ys) = (x < y) ⊎ ((x ≡ y) × Earlier xs ys)

-- numbers below the count and the sets of f participants that take a first few of each cell correspond one to one;
-- a smaller number takes fewer from the first cell in which the sets differ
pub record SetsCorrespond (n f : ℕ) (cs : List ℕ) : Type 0 where
  pub set_of : (k : ℕ) → k < length (sets cs f) → SetOf n f (set_at cs f k)
  pub first_few : (k : ℕ) → k < length (sets cs f) → FirstFew n cs (set_at cs f k)
  pub found : (s : List ℕ) → SetOf n f s → FirstFew n cs s → (k : ℕ) × (k < length (sets cs f)) × (set_at cs f k ≡ s)
  pub apart : (k j : ℕ) → k < length (sets cs f) → j < length (sets cs f) → set_at cs f k ≡ set_at cs f j → k ≡ j
  pub ordered : (k j : ℕ) → k < j → j < length (sets cs f) → Earlier (shares 0 cs (set_at cs f k)) (shares 0 cs (set_at cs f j))

-- exchanging participants within cells turns the set s into t
pub record Exchanges {n : ℕ} (cs s t : List ℕ) (p : Renaming n) : Type 0 where
  pub within : (i : ℕ) → i < n → cell_of cs (p.to i) ≡ cell_of cs i
  pub turns : (i : ℕ) → i < n → member t (p.to i) ≡ member s i

-- every set of f participants goes over into exactly one that takes a first few of each cell
abbrev pub SetsSuffice : ℕ → ℕ → List ℕ → Type 0
SetsSuffice n f cs = (s : List ℕ) → SetOf n f s → ExactlyOne (λ t. SetOf n f t × FirstFew n cs t × ((p : Renaming n) × Exchanges cs s t p))
