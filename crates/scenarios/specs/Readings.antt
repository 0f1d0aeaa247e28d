-- What is read back from a round: the parts and roles of a cell, the split of a cell and the number of its letters, and a turn and the round's number in it.
use Rattle.std.specs.Prelude.{◌≡◌, ℕ, ◌+◌, ◌-◌, ◌*◌, ◌^◌, ◌<◌, ◌≤◌, Bool, true, false, ◌⊎◌, List, [], ◌∷◌, ◌++◌, map, length, take, Some, None, Option, ◌≢◌, slice_index, slice_index_or}
use Rattle.std.specs.List.{range_with_len, flat_map, AllByRecursion}
use Rattle.scenarios.specs.declared.round.RoundScenario.{RoundScenario}
use Rattle.scenarios.specs.declared.refinement.LocalRefinement.{LocalRefinement}
use Rattle.scenarios.specs.declared.read.Reading.{Reading}
use Rattle.scenarios.specs.declared.read.Tally.{Tally}
use Rattle.scenarios.specs.declared.read.RoundRank.{RoundRank}
use Rattle.scenarios.specs.Letters.{role, letter}
use Rattle.scenarios.specs.Cells.{total, cells, ends, boundaries, inner, ranges_from}
use Rattle.scenarios.specs.Turns.{Turn, roles_in, choose, subset, ways, tones, spell, weight_from, letters_from, weight, after, round}
use Rattle.scenarios.specs.Fits.{Split, Fills, Fits}
use Rattle.scenarios.specs.Canonical.{LegalRound, InOrder}
use Rattle.scenarios.specs.Claims.{Ordered}
use Rattle.scenarios.specs.Edges.{sizes_of}
use Rattle.scenarios.specs.Refinements.{sizes}

-- the roles, and the letters, of len participants from start on
abbrev pub roles_along : RoundScenario → ℕ → ℕ → List ℕ
roles_along r start len = map (role r) (range_with_len start len)

abbrev pub letters_along : RoundScenario → ℕ → ℕ → List ℕ
letters_along r start len = map (letter r) (range_with_len start len)

-- the word that parts and a choice of roles spell
abbrev pub spelled : Reading → List ℕ
spelled x = spell (take x.len x.parts) (roles_in x.roles)

-- the reading is of the word w
pub record Reads (x : Reading) (w : List ℕ) : Type 0 where
  pub filled : AllByRecursion (λ p. 0 < p) (take x.len x.parts)
  pub even : length (roles_in x.roles) ≡ x.len
  pub small : x.roles < 16
  pub few : x.len ≤ 4
  pub spells : spelled x ≡ w

-- the word w with one more role, or that role is below the last one of w
abbrev pub MemberRead : List ℕ → ℕ → Option Reading → Type 0
MemberRead w y (Some x) = Reads x (w ++ (y ∷ []))
MemberRead w y None = (0 < length w) × (y < slice_index w (length w - 1))

-- the parts of the participants from start on, or two neighbours whose roles fall
abbrev pub PartsRead : RoundScenario → ℕ → ℕ → Option Reading → Type 0
PartsRead r start len (Some x) = Reads x (roles_along r start len)
PartsRead r start len None = (k : ℕ) × (start ≤ k) × (k + 1 < start + len) × (role r (k + 1) < role r k)

-- d is the number of the choice m
abbrev pub RanksChoice : ℕ → ℕ → Type 0
RanksChoice m d = (d < choose (length (roles_in m))) × (subset (length (roles_in m)) d ≡ roles_in m)

-- where the leader stands: it is the last of a led cell, and in no other
abbrev pub Placed : Bool → ℕ → ℕ → ℕ → Type 0
Placed true start size l = l + 1 ≡ start + size
Placed false start size l = (l < start) ⊎ (start + size ≤ l)

-- a split of a cell and the number of its letters, which spell the word w
pub record SpellsCell (led : Bool) (size : ℕ) (w : List ℕ) (r : LocalRefinement) (d : ℕ) : Type 0 where
  pub split : Split led size (sizes r)
  pub below : d < ways led (sizes r)
  pub word : spell (sizes r) (tones led (sizes r) d) ≡ w

-- two neighbours of the cell are out of order, or no half hears the leader at its end
abbrev pub CellRefused : RoundScenario → ℕ → ℕ → Bool → Type 0
CellRefused r start size led =
    ((k : ℕ) × (start ≤ k) × (k + 1 < start + size) × (InOrder r k (k + 1) → ⊥)) ⊎ ((led ≡ true) × (role r r.leader ≡ 0))

abbrev pub CellRead : RoundScenario → ℕ → ℕ → Bool → Option (LocalRefinement × ℕ) → Type 0
CellRead r start size led (Some x) = SpellsCell led size (letters_along r start size) x.0 x.1
CellRead r start size led None = CellRefused r start size led

-- the tally with a cell more in front, which begins at start
abbrev pub tallied : Tally → ℕ → Bool → LocalRefinement → ℕ → Tally
tallied t start led r d = record { rank = t.rank * ways led (sizes r) + d; marks = t.marks + 2 ^ start * ends (sizes r) }

abbrev pub FitsTally : Tally → Type 0
FitsTally t = (t.rank < 2 ^ 128) × (t.marks < 2 ^ 64)

-- the cells cs from the place i on, which begin at start, are split and lettered as the round says
pub record Told (r : RoundScenario) (l i start : ℕ) (cs : List ℕ) (t : Tally) : Type 0 where
  pub fill : List (List ℕ)
  pub fills : Fills l i cs fill
  pub below : t.rank < weight_from l i fill
  pub letters : letters_from l i fill t.rank ≡ letters_along r start (total cs)
  pub marked : t.marks ≡ 2 ^ start * ends (flat_map (λ ps. ps) fill)

-- the ranges are cells of at most 64 participants, and the leader is the last of the cell l
pub record LedRanges (l leader : ℕ) (rs : List (ℕ × ℕ)) : Type 0 where
  pub ranged : rs ≡ ranges_from 0 (sizes_of rs)
  pub filled : AllByRecursion (λ c. 0 < c) (sizes_of rs)
  pub within : total (sizes_of rs) ≤ 64
  pub leads : l < length rs
  pub last : leader + 1 ≡ total (take l (sizes_of rs)) + slice_index (sizes_of rs) l

-- two neighbours of a cell are out of order, or no half hears the leader
abbrev pub CellsRefused : RoundScenario → List ℕ → Type 0
CellsRefused r cs = ((k : ℕ) × (k + 1 < total cs) × (inner cs k ≡ true) × (InOrder r k (k + 1) → ⊥)) ⊎ (role r r.leader ≡ 0)

abbrev pub CellsRead : RoundScenario → ℕ → List ℕ → Option Tally → Type 0
CellsRead r l cs (Some t) = Told r l 0 0 cs t
CellsRead r l cs None = CellsRefused r cs

-- where the range at the place k ends
abbrev pub ends_at : List (ℕ × ℕ) → ℕ → ℕ
ends_at rs k = (slice_index_or rs k (0, 0)).0 + (slice_index_or rs k (0, 0)).1

-- the place of the range whose last member leads
abbrev pub LeadsRange : List (ℕ × ℕ) → ℕ → Option ℕ → Type 0
LeadsRange rs leader (Some i) = (i < length rs) × (leader + 1 ≡ ends_at rs i)
LeadsRange rs leader None = (k : ℕ) → k < length rs → leader + 1 ≢ ends_at rs k

-- whether a round is legal
abbrev pub LegalTold : ℕ → RoundScenario → Bool → Type 0
LegalTold n r true = LegalRound n r
LegalTold n r false = LegalRound n r → ⊥

-- a turn from the cells of s, and a number of it, whose round is r; none only if r is not legal or not in order
abbrev pub RoundRead : ℕ → ℕ → RoundScenario → Option RoundRank → Type 0
RoundRead n s r (Some x) =
    (t : Turn) × Fits (cells n s) t × (t.leader ≡ x.leader_cell) × (boundaries (after t) ≡ x.next.boundaries) × (x.rank < weight t) × (round t x.rank ≡ r)
RoundRead n s r None = LegalRound n r → Ordered n (cells n s) r → ⊥
