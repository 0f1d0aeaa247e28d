-- Theorems on cases: each legal one is a renaming of the case of exactly one rank and set number.
use Rattle.std.specs.Prelude.{◌≡◌, ℕ, ◌<◌, length}
use Rattle.scenarios.specs.declared.mode.Mode.{Mode}
use Rattle.scenarios.specs.Plans.{total_of, residual_of}
use Rattle.sets.specs.Sets.{sets}
use Rattle.cases.specs.Cases.{Case, LegalCase, Renamed, case_at}

-- a rank and a set number of a plan's scenarios
pub record Numbers (mode : Mode) (n f R : ℕ) (rank number : ℕ) : Type 0 where
  pub rank_below : rank < total_of mode n R
  pub number_below : number < length (sets (residual_of mode n R rank) f)

-- being renamings relates legal cases as equality does
pub record RenamingRelates (mode : Mode) (n f R : ℕ) : Type 0 where
  pub itself : (a : Case) → LegalCase mode n f R a → Renamed n a a
  pub back : (a b : Case) → LegalCase mode n f R a → LegalCase mode n f R b → Renamed n a b → Renamed n b a
  pub on : (a b c : Case) → LegalCase mode n f R a → LegalCase mode n f R b → LegalCase mode n f R c → Renamed n a b → Renamed n b c → Renamed n a c

pub record CasesStand (mode : Mode) (n f R : ℕ) : Type 0 where
  pub relates : RenamingRelates mode n f R
  -- the case of a rank and a set number is legal
  pub legal : (rank number : ℕ) → Numbers mode n f R rank number → LegalCase mode n f R (case_at mode n f R rank number)
  -- no two are renamings of each other
  pub apart : (rank number rank' number' : ℕ) → Numbers mode n f R rank number → Numbers mode n f R rank' number'
      → Renamed n (case_at mode n f R rank number) (case_at mode n f R rank' number') → (rank ≡ rank') × (number ≡ number')
  -- and every legal case is a renaming of one
  pub found : (c : Case) → LegalCase mode n f R c → (rank : ℕ) × (number : ℕ) × Numbers mode n f R rank number × Renamed n (case_at mode n f R rank number) c

abbrev pub EachCaseOnce : Type 0
EachCaseOnce = (mode : Mode) (n f R : ℕ) → 0 < n → 0 < R → CasesStand mode n f R
