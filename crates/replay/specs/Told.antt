-- When a stored answer agrees.
use Rattle.std.specs.Prelude.{ℕ, ◌-◌, Bool, false, not, ◌&&◌, is_some, Some, None, Option, ◌==◌, nat_lt}
use Rattle.scenarios.specs.declared.edge.TransitionEdge.{TransitionEdge}
use Rattle.scenarios.specs.Edges.{edge_in}

-- there is an edge, to the state `next`, led by the cell `leader`, and it stands for w rounds
abbrev pub edge_told : Option TransitionEdge → ℕ → ℕ → ℕ → Bool
edge_told None next leader w = false
edge_told (Some e) next leader w = e.next.boundaries == next && (e.leader == leader && e.multiplicity == w)

-- the state s has as many edges as the count
abbrev pub edges_told : ℕ → ℕ → ℕ → Bool
edges_told n s count = nat_lt 0 count && (is_some (edge_in n s (count - 1)) && not (is_some (edge_in n s count)))
