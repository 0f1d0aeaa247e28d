-- What a counted plan answers.
use Rattle.std.proofs.Common.{◌≡◌, ℕ, zero, suc, ◌+◌, ◌<◌, ◌≤◌, ltb, leb, List, [], ◌∷◌, ◌++◌, length, get_or, take, drop, replicate, Some, None, Option, Result, sym, ap, ◌∙◌, subst, inr, arith}
use Rattle.std.proofs.lemmas.List.{drop-drop, take_all, length-take-le}
use Rattle.std.proofs.lemmas.Bool.{lt-ltb, le-ltb, le-leb, lt-leb, cond-true, cond-false}
use Rattle.std.specs.List.{AllByRecursion}
use Rattle.std.specs.Option.{ok_or}
use Rattle.refusals.specs.declared.Refusal.{Refusal}
use Rattle.refusals.specs.declared.Refusal.TheVariants.{NotCanonical}
use Rattle.scenarios.specs.Canonical.{LegalRound, Canonical, CanonicalTold}
use Rattle.scenarios.specs.Ranking.{RankTold}
use Rattle.scenarios.specs.Unranking.{RoundsTold}
use Rattle.scenarios.specs.declared.cell.CellState.{CellState}
use Rattle.scenarios.specs.declared.mode.Mode.{Mode}
use Rattle.scenarios.specs.declared.mode.Mode.TheVariants.{Sampled, Sustained}
use Rattle.scenarios.specs.declared.plan.Plan.{Plan}
use Rattle.scenarios.specs.declared.round.RoundScenario.{RoundScenario}
use Rattle.scenarios.specs.Counting.{Slot}
use Rattle.scenarios.specs.Cells.{boundaries}
use Rattle.scenarios.specs.Scenarios.{count, scenario}
use Rattle.scenarios.specs.Plans.{depth_of, total_of, scenario_of, residual_of, repeated, LegalIn, CorrespondsIn}
use Rattle.scenarios.specs.PlanCounts.{fault_of, Counted, UnrankedTold, scenario_fault, Shaped, RankAnswered, CanonicalAnswered}
use Rattle.scenarios.proofs.Planning.{plan_sound}
use Rattle.scenarios.proofs.Modes.{repeated_one, corresponds_in, sustained_back, sustained_none}

-- in sustained mode the one round is repeated
pub repeated_rounds : (R : ℕ) (r b : RoundScenario) (xs mid ys : List RoundScenario) → 0 < R → mid ≡ (r ∷ []) ++ drop 1 xs → ys ≡ replicate R (get_or mid 0 b) ++ drop R mid
    → ys ≡ repeated R (r ∷ []) ++ drop R xs
repeated_rounds zero r b xs mid ys h m y = absurd (omega arith)
repeated_rounds (suc R) r b xs mid ys h m y =
    let e : 1 + R ≡ suc R = omega arith in
    y ∙ ap (λ k. replicate (suc R) (get_or k 0 b) ++ drop (suc R) k) m
    ∙ ap (λ k. replicate (suc R) r ++ k) (drop-drop R 1 xs ∙ ap (λ k. drop k xs) e)
    ∙ ap (λ k. k ++ drop (suc R) xs) (sym (repeated_one (suc R) r))

-- the refusals of a scenario, in their order
pub fault_short : (p : Plan) (rank long : ℕ) → long < p.rounds → scenario_fault p rank long ≡ Some 15
fault_short p rank long h = cond-true (ltb long p.rounds) _ _ (lt-ltb long p.rounds h)

pub fault_past : (p : Plan) (rank long : ℕ) → p.rounds ≤ long → total_of p.mode p.participants p.rounds ≤ rank → scenario_fault p rank long ≡ Some 16
fault_past p rank long h k =
    cond-false (ltb long p.rounds) _ _ (le-ltb long p.rounds h) ∙ cond-true (leb (total_of p.mode p.participants p.rounds) rank) _ _ (le-leb (total_of p.mode p.participants p.rounds) rank k)

pub fault_none : (p : Plan) (rank long : ℕ) → p.rounds ≤ long → rank < total_of p.mode p.participants p.rounds → scenario_fault p rank long ≡ None
fault_none p rank long h k =
    cond-false (ltb long p.rounds) _ _ (le-ltb long p.rounds h) ∙ cond-false (leb (total_of p.mode p.participants p.rounds) rank) _ _ (lt-leb (total_of p.mode p.participants p.rounds) rank k)

-- what the rules say
pub ruled : (p : Plan) → fault_of p ≡ None → (0 < p.participants) × (p.participants ≤ 64) × (0 < p.rounds) × (p.rounds ≤ 64)
ruled p f = let s = plan_sound p.participants p.faults p.rounds p.cap f in let a = s.0 in (omega arith, s.1, s.4, s.5)

pub corresponds : (p : Plan) (total : ℕ) (ys : List Slot) → Counted p total ys → CorrespondsIn p.mode p.participants p.rounds
corresponds p total ys c = let r = ruled p c.rules in corresponds_in p.mode p.participants p.rounds r.0 r.2

-- the work in sustained mode: one round ranked, and repeated
pub sustained_told : (p : Plan) (rank : ℕ) (xs mid ys : List RoundScenario) (b : RoundScenario) (s : CellState)
    → p.mode ≡ Sustained → 0 < p.rounds → RoundsTold p.participants (depth_of p.mode p.rounds) rank xs s mid
    → ys ≡ replicate p.rounds (get_or mid 0 b) ++ drop p.rounds mid → UnrankedTold p rank xs s ys
sustained_told p rank xs mid ys b s q h t y = go p.mode q t
  where
    n : ℕ
    n = p.participants

    R : ℕ
    R = p.rounds

    go : (m : Mode) → m ≡ Sustained → RoundsTold n (depth_of m R) rank xs s mid
        → (ys ≡ scenario_of m n R rank ++ drop R xs) × (s.boundaries ≡ boundaries (residual_of m n R rank))
    go Sampled q t = absurd (let z : ◌≡◌ {A = ℕ} 0 1 = cc in omega arith)
    go Sustained q t = (repeated_rounds R (get_or (scenario 1 (n ∷ []) rank) 0 b) b xs mid ys h t.0 y, t.1)

-- the rank of rounds of the plan's shape

pub depth_within : (m : Mode) (R : ℕ) (rs : List RoundScenario) → 0 < R → Shaped m R rs → depth_of m R ≤ length rs
depth_within Sampled R rs h s = omega arith
depth_within Sustained R rs h s = let e = s.0 in omega arith

-- the rank whose scenario the rounds are, or none where they are no canonical scenario
abbrev pub Ranked : Mode → ℕ → ℕ → List RoundScenario → Option ℕ → Type 0
Ranked m n R rs (Some k) = (k < total_of m n R) × (scenario_of m n R k ≡ rs)
Ranked m n R rs None = LegalIn m n R rs → Canonical n rs → ⊥

module _ (n R : ℕ) (rs script : List RoundScenario) (h : 0 < R) where
  -- by the rounds that are ranked: all of them, or the one that stands for all
  ranked_by : (m : Mode) (o : Option ℕ) → Shaped m R rs → script ≡ take (depth_of m R) rs → length script ≡ depth_of m R → RankTold n script o → Ranked m n R rs o
  ranked_by Sampled (Some k) s q l w =
      let all : script ≡ rs = q ∙ take_all R rs (omega arith) in
      (subst (λ d. k < count d (n ∷ [])) l w.0, ap (λ d. scenario d (n ∷ []) k) (sym l) ∙ w.1 ∙ all)
  ranked_by Sampled None s q l w = λ legal canonical.
      let all : script ≡ rs = q ∙ take_all R rs (omega arith) in
      w (subst (AllByRecursion (LegalRound n)) (sym all) legal.each) (subst (Canonical n) (sym all) canonical)
  ranked_by Sustained (Some k) s q l w = (
    subst (λ d. k < count d (n ∷ [])) l w.0,
    ap (repeated R) (ap (λ d. scenario d (n ∷ []) k) (sym l) ∙ w.1 ∙ q) ∙ sustained_back n R rs (record { leader = 0; primary = 0; secondary = 0 }) h s.0 s.1,
  )
  ranked_by Sustained None s q l w =
      sustained_none n R rs h (λ a b. w (subst (AllByRecursion (LegalRound n)) (sym q) a) (subst (Canonical n) (sym q) b))

-- as many rounds are ranked as were counted
pub ranked_long : (p : Plan) (D : ℕ) (rs : List RoundScenario) → 0 < p.rounds → Shaped p.mode p.rounds rs → D ≡ depth_of p.mode p.rounds → length (take D rs) ≡ D
ranked_long p D rs h s e = ap (λ d. length (take d rs)) e ∙ length-take-le (depth_of p.mode p.rounds) rs (depth_within p.mode p.rounds rs h s) ∙ sym e

-- the rank of the rounds that are ranked is the rank of all
pub rank_told : (p : Plan) (D : ℕ) (rs : List RoundScenario) (o : Option ℕ) → 0 < p.rounds → Shaped p.mode p.rounds rs × (length rs ≤ 64) → D ≡ depth_of p.mode p.rounds
    → RankTold p.participants (take D rs) o → (r : Result ℕ Refusal) → r ≡ ok_or o NotCanonical → RankAnswered p rs r
rank_told p D rs o h s e t r is = subst (RankAnswered p rs) (sym is) (go o (ranked_by p.participants p.rounds rs (take D rs) h p.mode o s.0 (ap (λ d. take d rs) e) (ranked_long p D rs h s.0 e ∙ e) t))
  where
    go : (o : Option ℕ) → Ranked p.mode p.participants p.rounds rs o → RankAnswered p rs (ok_or o NotCanonical)
    go None n = inr ((λ _. 17), s.1, n)
    go (Some k) n = n

-- legal rounds are legal each, and rounds of the plan's shape that are legal each are a legal scenario
each_of : (m : Mode) (n R : ℕ) (rs : List RoundScenario) → LegalIn m n R rs → AllByRecursion (LegalRound n) rs
each_of Sampled n R rs l = l.each
each_of Sustained n R rs l = l.0.each

legal_from : (m : Mode) (n R : ℕ) (rs : List RoundScenario) → Shaped m R rs → AllByRecursion (LegalRound n) rs → LegalIn m n R rs
legal_from Sampled n R rs s e = record { enough = s; each = e }
legal_from Sustained n R rs s e = (record { enough = s.0; each = e }, s.1)

-- the state after canonical rounds of the plan's shape, or the refusal where they are not canonical
pub canonical_told : (p : Plan) (rs : List RoundScenario) (o : Option CellState) → fault_of p ≡ None → Shaped p.mode p.rounds rs × (length rs ≤ 64) → CanonicalTold p.participants rs o
    → (r : Result CellState Refusal) → r ≡ ok_or o NotCanonical → CanonicalAnswered p rs r
canonical_told p rs o f s t r is = subst (CanonicalAnswered p rs) (sym is) (go o t)
  where
    go : (o : Option CellState) → CanonicalTold p.participants rs o → CanonicalAnswered p rs (ok_or o NotCanonical)
    go None t = (f, inr ((λ _. 17), s.1, λ legal. t (each_of p.mode p.participants p.rounds rs legal)))
    go (Some x) t = (f, legal_from p.mode p.participants p.rounds rs s.0 t.0, t.1, t.2)
