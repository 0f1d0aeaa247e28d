-- Cases: a scenario with a compromised set; which are legal, and which are renamings of each other.
use Rattle.std.specs.Prelude.{◌≡◌, ℕ, ◌<◌, List}
use Rattle.std.specs.List.{AllZip}
use Rattle.orders.specs.Members.{member}
use Rattle.orders.specs.Orders.{Renaming}
use Rattle.scenarios.specs.declared.mode.Mode.{Mode}
use Rattle.scenarios.specs.declared.round.RoundScenario.{RoundScenario}
use Rattle.scenarios.specs.Masks.{bit}
use Rattle.scenarios.specs.Plans.{LegalIn, scenario_of, residual_of}
use Rattle.sets.specs.Sets.{SetOf, set_at}

-- the rounds of a scenario, and the compromised set, written upwards
pub record Case : Type 0 where
  pub rounds : List RoundScenario
  pub set : List ℕ

-- a legal scenario with exactly f compromised participants
pub record LegalCase (mode : Mode) (n f R : ℕ) (c : Case) : Type 0 where
  pub scenario : LegalIn mode n R c.rounds
  pub compromised : SetOf n f c.set

-- one permutation of the participants, put through leaders, masks and set alike

pub record RoundRenamed {n : ℕ} (p : Renaming n) (r s : RoundScenario) : Type 0 where
  pub leader_to : s.leader ≡ p.to r.leader
  pub primary_to : (i : ℕ) → i < n → bit s.primary (p.to i) ≡ bit r.primary i
  pub secondary_to : (i : ℕ) → i < n → bit s.secondary (p.to i) ≡ bit r.secondary i

pub record RenamedBy {n : ℕ} (p : Renaming n) (a b : Case) : Type 0 where
  pub rounds_to : AllZip (RoundRenamed p) a.rounds b.rounds
  pub set_to : (i : ℕ) → i < n → member b.set (p.to i) ≡ member a.set i

abbrev pub Renamed : ℕ → Case → Case → Type 0
Renamed n a b = (p : Renaming n) × RenamedBy p a b

-- the case of a rank and a set number
abbrev pub case_at : Mode → ℕ → ℕ → ℕ → ℕ → ℕ → Case
case_at mode n f R rank number = record { rounds = scenario_of mode n R rank; set = set_at (residual_of mode n R rank) f number }
