-- Which turns there are from given cells, by what holds of their parts.
use Rattle.std.specs.Prelude.{◌≡◌, ℕ, ◌+◌, ◌-◌, ◌<◌, ◌≤◌, Bool, true, List, [], ◌∷◌, ◌++◌, length, ◌==◌, slice_index}
use Rattle.std.specs.List.{AllByRecursion}
use Rattle.scenarios.specs.Cells.{total}
use Rattle.scenarios.specs.Turns.{Turn, free}

-- x stands in the list
abbrev pub Among : {X : Type 0} → List X → X → Type 0
Among {X} xs x = (before : List X) × (rest : List X) × (xs ≡ before ++ (x ∷ rest))

-- the parts of a cell of c: none is empty, at most four have a role, and a leader stands alone at the end
pub record Split (led : Bool) (c : ℕ) (ps : List ℕ) : Type 0 where
  pub filled : AllByRecursion (λ p. 0 < p) ps
  pub whole : total ps ≡ c
  pub few : free led ps ≤ 4
  pub alone : led ≡ true → slice_index ps (length ps - 1) ≡ 1

abbrev pub Fills : ℕ → ℕ → List ℕ → List (List ℕ) → Type 0
Fills l i [] [] = Unit {0}
Fills l i [] (ps ∷ f) = ⊥
Fills l i (c ∷ cs) [] = ⊥
Fills l i (c ∷ cs) (ps ∷ f) = Split (i == l) c ps × Fills l (i + 1) cs f

pub record Fits (cs : List ℕ) (t : Turn) : Type 0 where
  pub leads : t.leader < length cs
  pub split : Fills t.leader 0 cs t.fill
