-- The step from a turn to the next, as a walk over the turns takes it.
use Rattle.std.specs.Prelude.{ℕ, zero, suc, ◌+◌, ◌-◌, min, Bool, true, false, cond, List, [], ◌∷◌, ◌++◌, length, take, Some, None, Option, ◌==◌, nat_lt}
use Rattle.scenarios.specs.Cells.{total}
use Rattle.scenarios.specs.Turns.{Turn}

abbrev pub first_of : {X : Type 0} → List X → Option X
first_of [] = None
first_of (x ∷ xs) = Some x

-- the first of k parts of m, and the next of as many parts
abbrev pub first_parts : ℕ → ℕ → List ℕ
first_parts zero m = []
first_parts (suc zero) m = m ∷ []
first_parts (suc (suc k)) m = 1 ∷ first_parts (suc k) (m - 1)

abbrev pub next_parts : List ℕ → Option (List ℕ)
next_parts [] = None
next_parts (p ∷ ps) =
    elim (next_parts ps) [
      | Some qs ↦ Some (p ∷ qs)
      | None ↦ cond (nat_lt (length ps) (total ps)) (Some ((p + 1) ∷ first_parts (length ps) (total ps - 1))) None
    ]

-- at most four parts, one part more where no composition of as many is left
abbrev pub first_composition : ℕ → List ℕ
first_composition zero = []
first_composition (suc m) = suc m ∷ []

abbrev pub next_composition : List ℕ → Option (List ℕ)
next_composition ps =
    elim (next_parts ps) [
      | Some qs ↦ Some qs
      | None ↦ cond (nat_lt (length ps) (min (total ps) 4)) (Some (first_parts (length ps + 1) (total ps))) None
    ]

-- a leader stays alone at the end
abbrev pub first_split : Bool → ℕ → List ℕ
first_split led c = cond led (first_composition (c - 1) ++ (1 ∷ [])) (first_composition c)

abbrev pub with_leader : Option (List ℕ) → Option (List ℕ)
with_leader None = None
with_leader (Some ps) = Some (ps ++ (1 ∷ []))

abbrev pub next_split : Bool → List ℕ → Option (List ℕ)
next_split true ps = with_leader (next_composition (take (length ps - 1) ps))
next_split false ps = next_composition ps

-- the last cell that has a next split takes it, and those behind it begin again
abbrev pub first_fill : ℕ → ℕ → List ℕ → List (List ℕ)
first_fill l i [] = []
first_fill l i (c ∷ cs) = first_split (i == l) c ∷ first_fill l (i + 1) cs

abbrev pub next_fill : ℕ → ℕ → List ℕ → List (List ℕ) → Option (List (List ℕ))
next_fill l i [] f = None
next_fill l i (c ∷ cs) [] = None
next_fill l i (c ∷ cs) (ps ∷ f) =
    elim (next_fill l (i + 1) cs f) [
      | Some g ↦ Some (ps ∷ g)
      | None ↦ elim (next_split (i == l) ps) [ Some qs ↦ Some (qs ∷ first_fill l (i + 1) cs) | None ↦ None ]
    ]

abbrev pub first_turn : List ℕ → Turn
first_turn cs = record { leader = 0; fill = first_fill 0 0 cs }

abbrev pub next_turn : List ℕ → Turn → Option Turn
next_turn cs t =
    elim (next_fill t.leader 0 cs t.fill) [
      | Some g ↦ Some (record { leader = t.leader; fill = g })
      | None ↦ cond (nat_lt (t.leader + 1) (length cs)) (Some (record { leader = t.leader + 1; fill = first_fill (t.leader + 1) 0 cs })) None
    ]
