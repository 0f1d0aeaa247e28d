-- The walk of the code over the edges of a state, as the turn that it stands at.
pub use Rattle.scenarios.specs.Standing.{sizes_of, ranges_in, sizes_in, fill_in, Stands, Stepped, edge_of, edge_in}
use Rattle.std.specs.Prelude.{◌≡◌, ℕ, zero, suc, Bool, true, false, List, [], ◌∷◌, length, Some, None}
use Rattle.scenarios.specs.declared.edge.Edges.{Edges}
use Rattle.scenarios.specs.Turns.{Turn, turns}
use Rattle.scenarios.specs.Steps.{first_turn, next_turn}

abbrev pub cells_at : Edges → List ℕ
cells_at e = sizes_in e.cells.items

abbrev pub turn_at : Edges → Turn
turn_at e = record { leader = e.leader; fill = fill_in e.cells.items }

-- the walk stands at the first edge of these cells of n participants
pub record Begun (n : ℕ) (cs : List ℕ) (e : Edges) : Type 0 where
  pub of : e.participants.number ≡ n
  pub at : cells_at e ≡ cs
  pub first : turn_at e ≡ first_turn cs

-- the walk has moved from e on to the next edge, or there was none
pub record Moved (e f : Edges) : Type 0 where
  pub of : f.participants.number ≡ e.participants.number
  pub at : cells_at f ≡ cells_at e
  pub next : next_turn (cells_at e) (turn_at e) ≡ Some (turn_at f)

abbrev pub Advanced : Edges → Bool → Edges → Type 0
Advanced e true f = Moved e f
Advanced e false f = next_turn (cells_at e) (turn_at e) ≡ None

-- the turns from t on, at most k of them
abbrev pub onward : ℕ → List ℕ → Turn → List Turn
onward zero cs t = []
onward (suc k) cs t = t ∷ elim (next_turn cs t) [ None ↦ [] | Some u ↦ onward k cs u ]

-- the turns that a walk has yet to see, from the one at which it stands
unfoldable pub left_of : Edges → List Turn
left_of e = onward (length (turns (cells_at e))) (cells_at e) (turn_at e)
