-- Each legal case is a renaming of the case of exactly one rank and set number.
use Rattle.std.proofs.Common.{◌≡◌, ℕ, zero, suc, ◌<◌, ◌↔◌, List, [], ◌∷◌, length, replicate, sym, ap, ◌∙◌, subst, arith}
use Rattle.std.specs.List.{AllByRecursion}
use Rattle.std.proofs.ByRecursion.{All-append}
use Rattle.scenarios.specs.declared.mode.Mode.{Mode}
use Rattle.scenarios.specs.declared.mode.Mode.TheVariants.{Sampled, Sustained}
use Rattle.scenarios.specs.declared.round.RoundScenario.{RoundScenario}
use Rattle.scenarios.specs.Cells.{CellsOf}
use Rattle.scenarios.specs.Canonical.{Alike}
use Rattle.scenarios.specs.Scenarios.{scenario}
use Rattle.scenarios.specs.Plans.{repeated, total_of, scenario_of, residual_of, CorrespondsIn}
use Rattle.scenarios.proofs.Walks.{turns_fit}
use Rattle.scenarios.proofs.Rounding.{rounds_stand}
use Rattle.scenarios.proofs.Neighbours.{Tied, all_parts}
use Rattle.scenarios.proofs.Ranks.{cells_residual}
use Rattle.scenarios.proofs.Modes.{corresponds_in}
use Rattle.sets.specs.Sets.{sets, set_at}
use Rattle.sets.specs.Claims.{SetsCorrespond}
use Rattle.sets.proofs.Corresponding.{sets_correspond}
use Rattle.cases.specs.Cases.{Case, LegalCase, Renamed, case_at}
use Rattle.cases.specs.Claims.{Numbers, EachCaseOnce}
use Rattle.cases.proofs.Columns.{Few, CanonicalCase}
use Rattle.cases.proofs.Renames.{renaming_relates}
use Rattle.cases.proofs.Orbits.{one_canonical}
use Rattle.cases.proofs.Bridge.{few_by_rounds, few_by_sizes}

-- the residual cells in each mode

module _ {X : Type 0} (P : X → Type 0) where
  all_replicate : (R : ℕ) (x : X) → P x → AllByRecursion P (replicate R x)
  all_replicate zero x h = tt
  all_replicate (suc R) x h = (h, all_replicate R x h)

  replicate_all : (R : ℕ) (x : X) → 0 < R → AllByRecursion P (replicate R x) → P x
  replicate_all zero x l h = absurd (omega arith)
  replicate_all (suc R) x l h = h.0

all_repeated : (P : RoundScenario → Type 0) (R : ℕ) (rs : List RoundScenario) → 0 < R → AllByRecursion P rs ↔ AllByRecursion P (repeated R rs)
all_repeated P R [] l = (λ h. h, λ h. h)
all_repeated P R (r ∷ rs) l =
    let rest = all_repeated P R rs l in (
      λ h. All-append P (replicate R r) (repeated R rs) (all_replicate P R r h.0) (rest.0 h.1),
      λ h. let k = all_parts P (replicate R r) (repeated R rs) h in (replicate_all P R r l k.0, rest.1 k.1),
    )

residual_cells : (mode : Mode) (n R k : ℕ) → 0 < n → 0 < R → k < total_of mode n R → CellsOf n (residual_of mode n R k) × Tied n (residual_of mode n R k) (scenario_of mode n R k)
residual_cells Sampled n R k h l b = cells_residual turns_fit rounds_stand n R k h b
residual_cells Sustained n R k h l b =
    let one = cells_residual turns_fit rounds_stand n 1 k h b in
    (one.0, λ i m. let same = all_repeated (λ r. Alike r i) R (scenario 1 (n ∷ []) k) l in (λ e. same.0 ((one.1 i m).0 e), λ t. (one.1 i m).1 (same.1 t)))

module _ (mode : Mode) (n f R : ℕ) (some : 0 < n) (l : 0 < R) where
  ranks : CorrespondsIn mode n R
  ranks = corresponds_in mode n R some l

  numbers : (rank : ℕ) → rank < total_of mode n R → SetsCorrespond n f (residual_of mode n R rank)
  numbers rank b = sets_correspond n f (residual_of mode n R rank) (residual_cells mode n R rank some l b).0.whole

  legal : (rank number : ℕ) → Numbers mode n f R rank number → LegalCase mode n f R (case_at mode n f R rank number)
  legal rank number h = record { scenario = ranks.legal rank h.rank_below; compromised = (numbers rank h.rank_below).set_of number h.number_below }

  canonical : (rank number : ℕ) → Numbers mode n f R rank number → CanonicalCase n (case_at mode n f R rank number)
  canonical rank number h =
      let b = h.rank_below in
      record {
        in_order = ranks.canonical rank b;
        first_few = few_by_rounds n (residual_of mode n R rank) (scenario_of mode n R rank) (residual_cells mode n R rank some l b).1 (set_at (residual_of mode n R rank) f number) ((numbers rank b).first_few number h.number_below);
      }

  same_case : (rank number rank' number' : ℕ) → Numbers mode n f R rank number → Numbers mode n f R rank' number'
      → Renamed n (case_at mode n f R rank number) (case_at mode n f R rank' number') → case_at mode n f R rank number ≡ case_at mode n f R rank' number'
  same_case rank number rank' number' h h' r =
      let a = case_at mode n f R rank number in
      let b = case_at mode n f R rank' number' in
      let la = legal rank number h in
      let one = one_canonical mode n f R a la in
      one.only a (la, canonical rank number h, (renaming_relates mode n f R).itself a la) ∙ sym (one.only b (legal rank' number' h', canonical rank' number' h', r))

  apart : (rank number rank' number' : ℕ) → Numbers mode n f R rank number → Numbers mode n f R rank' number'
      → Renamed n (case_at mode n f R rank number) (case_at mode n f R rank' number') → (rank ≡ rank') × (number ≡ number')
  apart rank number rank' number' h h' r =
      let e = same_case rank number rank' number' h h' r in
      let same = ranks.apart rank rank' h.rank_below h'.rank_below (ap (λ c. c.rounds) e) in
      let there = ap (λ c. c.set) e ∙ ap (λ k. set_at (residual_of mode n R k) f number') (sym same) in
      let below = subst (λ k. number' < length (sets (residual_of mode n R k) f)) (sym same) h'.number_below in
      (same, (numbers rank h.rank_below).apart number number' h.number_below below there)

  found : (c : Case) → LegalCase mode n f R c → (rank : ℕ) × (number : ℕ) × Numbers mode n f R rank number × Renamed n (case_at mode n f R rank number) c
  found c lc =
      let one = one_canonical mode n f R c lc in
      let b = one.the in
      let lb = one.holds.0 in
      let cb = one.holds.1 in
      let k = ranks.found b.rounds lb.scenario cb.in_order in
      let rank = k.0 in
      let cells = residual_cells mode n R rank some l k.1 in
      let few = few_by_sizes n (residual_of mode n R rank) (scenario_of mode n R rank) cells.1 b.set cells.0.whole (subst (λ rs. Few n rs b.set) (sym k.2) cb.first_few) in
      let m = (numbers rank k.1).found b.set lb.compromised few in
      let same : b ≡ case_at mode n f R rank m.0 = λ i. record { rounds = sym k.2 i; set = sym m.2 i } in
      (rank, m.0, record { rank_below = k.1; number_below = m.1 }, subst (λ x. Renamed n x c) same ((renaming_relates mode n f R).back c b lc lb one.holds.2))

pub each_case_once : EachCaseOnce
each_case_once mode n f R some l = record { relates = renaming_relates mode n f R; legal = legal mode n f R some l; apart = apart mode n f R some l; found = found mode n f R some l }
