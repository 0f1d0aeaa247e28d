-- Legal and canonical scenarios, in the words of rounds, cells and role order.
use Rattle.std.specs.Prelude.{◌≡◌, ℕ, ◌+◌, ◌-◌, ◌^◌, ◌<◌, ◌≤◌, true, false, ◌||◌, ◌≢◌, List, ◌∷◌, ◌++◌, length, Some, None, Option}
use Rattle.std.specs.List.{AllByRecursion}
use Rattle.scenarios.specs.declared.round.RoundScenario.{RoundScenario}
use Rattle.scenarios.specs.declared.cell.CellState.{CellState}
use Rattle.scenarios.specs.Masks.{bit}
use Rattle.scenarios.specs.Letters.{role}

-- a round of n participants: the leader is one of them, some half hears it, and no mask goes past them
pub record LegalRound (n : ℕ) (r : RoundScenario) : Type 0 where
  pub leads : r.leader < n
  pub heard : (bit r.primary r.leader || bit r.secondary r.leader) ≡ true
  pub primary_below : r.primary < 2 ^ n
  pub secondary_below : r.secondary < 2 ^ n

pub record Legal (n R : ℕ) (rs : List RoundScenario) : Type 0 where
  pub enough : length rs ≡ R
  pub each : AllByRecursion (LegalRound n) rs

-- the round leaves i and i + 1 alike: equal roles, and neither leads
pub record Alike (r : RoundScenario) (i : ℕ) : Type 0 where
  pub same_role : role r i ≡ role r (i + 1)
  pub left_follows : r.leader ≢ i
  pub right_follows : r.leader ≢ i + 1

-- i and i + 1 are in one cell after these rounds
abbrev pub Together : List RoundScenario → ℕ → Type 0
Together rs i = AllByRecursion (λ r. Alike r i) rs

-- the participants from i to j are in one cell after these rounds
abbrev pub OneCell : List RoundScenario → ℕ → ℕ → Type 0
OneCell rs i j = (k : ℕ) → i ≤ k → k < j → Together rs k

-- of i, and a later j of its cell: i does not lead, and unless j leads, their roles stand in order
pub record InOrder (r : RoundScenario) (i j : ℕ) : Type 0 where
  pub leader_last : r.leader ≢ i
  pub roles_rise : r.leader ≢ j → role r i ≤ role r j

-- in each round the leader ends its cell, and the others of each cell stand in role order
abbrev pub Canonical : ℕ → List RoundScenario → Type 0
Canonical n rs = (before : List RoundScenario) (r : RoundScenario) (rest : List RoundScenario)
    → rs ≡ before ++ (r ∷ rest) → (i j : ℕ) → i < j → j < n → OneCell before i j → InOrder r i j

-- the residual state after these rounds: bit i, for i + 1 below n, is set exactly where they part i from i + 1
pub record Residual (n : ℕ) (rs : List RoundScenario) (s : ℕ) : Type 0 where
  pub below : s < 2 ^ (n - 1)
  pub whole : (i : ℕ) → i + 1 < n → bit s i ≡ false → Together rs i
  pub parted : (i : ℕ) → i + 1 < n → bit s i ≡ true → Together rs i → ⊥

-- the rounds are legal and canonical, and this is the state after them; or they are not
abbrev pub CanonicalTold : ℕ → List RoundScenario → Option CellState → Type 0
CanonicalTold n rs None = AllByRecursion (LegalRound n) rs → Canonical n rs → ⊥
CanonicalTold n rs (Some s) = AllByRecursion (LegalRound n) rs × Canonical n rs × Residual n rs s.boundaries
