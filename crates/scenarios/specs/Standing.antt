-- The cells of a walk over the edges of a state, and what holds of them at each edge.
use Rattle.std.specs.Prelude.{◌≡◌, ℕ, ◌+◌, ◌≤◌, Bool, true, false, cond, ◌||◌, List, [], ◌∷◌, map, length, Some, None, Option, ◌==◌, nat_lt}
use Rattle.std.specs.List.{slice_get}
use Rattle.std.specs.Coded.{×_prop, Unit-prop}
use Rattle.std.proofs.Props.{props}
use Rattle.scenarios.specs.declared.edge.SplitCell.{SplitCell}
use Rattle.scenarios.specs.declared.edge.TransitionEdge.{TransitionEdge}
use Rattle.scenarios.specs.Cells.{CellsOf, cells, ranges_from, boundaries}
use Rattle.scenarios.specs.Turns.{Turn, turns, after, weight}
use Rattle.scenarios.specs.Fits.{Split, Fills, Fits}
use Rattle.scenarios.specs.Refinements.{sizes}

-- the sizes of cells that are told as ranges
abbrev pub sizes_of : List (ℕ × ℕ) → List ℕ
sizes_of rs = map (λ r. r.1) rs

-- the cells as ranges, their sizes, and the parts of each
abbrev pub ranges_in : List SplitCell → List (ℕ × ℕ)
ranges_in cs = map (λ c. (c.start, c.size)) cs

abbrev pub sizes_in : List SplitCell → List ℕ
sizes_in cs = sizes_of (ranges_in cs)

abbrev pub fill_in : List SplitCell → List (List ℕ)
fill_in cs = map (λ c. sizes c.split) cs

-- what holds of the cells of n participants at each edge of a walk, with the leader in this one
pub record Stands (n : ℕ) (cs : List SplitCell) (leader : ℕ) : Type 0 where
  pub some : 1 ≤ length cs
  pub ranged : ranges_in cs ≡ ranges_from 0 (sizes_in cs)
  pub whole : CellsOf n (sizes_in cs)
  pub fits : Fits (sizes_in cs) (record { leader = leader; fill = fill_in cs })

-- it holds in one way, as the invariant of a struct has to

Split-prop : (led : Bool) (c : ℕ) (ps : List ℕ) → IsProp (Split led c ps)
Split-prop led c ps = Prim.hlevel props

Fills-prop : (l i : ℕ) (cs : List ℕ) (f : List (List ℕ)) → IsProp (Fills l i cs f)
Fills-prop l i [] [] = Unit-prop
Fills-prop l i [] (ps ∷ f) = λ x. absurd x
Fills-prop l i (c ∷ cs) [] = λ x. absurd x
Fills-prop l i (c ∷ cs) (ps ∷ f) = ×_prop (Split-prop (i == l) c ps) (Fills-prop l (i + 1) cs f)

pub Stands-prop : (n : ℕ) (cs : List SplitCell) (leader : ℕ) → IsProp (Stands n cs leader)
Stands-prop n cs leader = Prim.hlevel (Fills-prop, props)

-- whether there is a next fill, and it is this one
abbrev pub Stepped : Bool → Option (List (List ℕ)) → List (List ℕ) → Type 0
Stepped true o f = o ≡ Some f
Stepped false o f = o ≡ None

-- the edge of a turn: the state after it, the cell that leads, and how many rounds it stands for
abbrev pub edge_of : Turn → TransitionEdge
edge_of t = record { next = record { boundaries = boundaries (after t) }; leader = t.leader; multiplicity = weight t }

-- the edge at a place, of a state of n participants
abbrev pub edge_in : ℕ → ℕ → ℕ → Option TransitionEdge
edge_in n s place = cond (n == 0 || nat_lt 64 n) None (slice_get (map edge_of (turns (cells n s))) place)
