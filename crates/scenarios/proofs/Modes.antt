-- The modes: a sustained scenario is one round repeated, so in each mode ranks and scenarios correspond.
use Rattle.std.proofs.Common.{◌≡◌, ℕ, zero, suc, ◌<◌, List, [], ◌∷◌, length, get_or, take, replicate, sym, refl, ap, ◌∙◌, subst, arith, ext_get_or}
use lib.ListN.{length-replicate, get_or-replicate}
use Rattle.std.specs.List.{AllByRecursion}
use Rattle.std.proofs.lemmas.List.{append-nil}
use Rattle.std.proofs.ByRecursion.{All-take}
use Rattle.scenarios.specs.declared.mode.Mode.{Mode}
use Rattle.scenarios.specs.declared.mode.Mode.TheVariants.{Sampled, Sustained}
use Rattle.scenarios.specs.declared.round.RoundScenario.{RoundScenario}
use Rattle.scenarios.specs.Canonical.{LegalRound, Legal, Canonical}
use Rattle.scenarios.specs.Claims.{Corresponds, RanksCorrespond}
use Rattle.scenarios.specs.Plans.{repeated, AllAlike, CorrespondsIn}
use Rattle.scenarios.specs.Scenarios.{count, scenario}
use Rattle.scenarios.proofs.Walks.{turns_fit, turns_apart}
use Rattle.scenarios.proofs.Rounding.{rounds_stand, rounds_found, rounds_apart}
use Rattle.scenarios.proofs.Neighbours.{repeats_canonical}
use Rattle.scenarios.proofs.Ranks.{ranks_correspond}

pub correspond : RanksCorrespond
correspond = ranks_correspond turns_fit turns_apart rounds_stand rounds_found rounds_apart

-- one round, repeated

pub repeated_one : (R : ℕ) (r : RoundScenario) → repeated R (r ∷ []) ≡ replicate R r
repeated_one R r = rw append-nil

all_replicate : {X : Type 0} (P : X → Type 0) (R : ℕ) (x : X) → P x → AllByRecursion P (replicate R x)
all_replicate P zero x h = tt
all_replicate P (suc R) x h = (h, all_replicate P R x h)

alike_replicate : (R : ℕ) (r : RoundScenario) → AllAlike (replicate R r)
alike_replicate R r i j d a b =
    let e = length-replicate R r in
    get_or-replicate R i r d (omega arith) ∙ sym (get_or-replicate R j r d (omega arith))

legal_replicate : (n R : ℕ) (r : RoundScenario) → LegalRound n r → Legal n R (replicate R r) × AllAlike (replicate R r)
legal_replicate n R r h = (record { enough = length-replicate R r; each = all_replicate (LegalRound n) R r h }, alike_replicate R r)

apart_replicate : (R : ℕ) (r s : RoundScenario) → 0 < R → replicate R r ≡ replicate R s → r ≡ s
apart_replicate R r s l e =
    let a = get_or-replicate R 0 r r l in
    let b = get_or-replicate R 0 s r l in
    sym a ∙ ap (λ xs. get_or xs 0 r) e ∙ b

-- rounds that are all alike are the first of them, repeated

alike_repeats : (R : ℕ) (rs : List RoundScenario) (d : RoundScenario) → length rs ≡ R → AllAlike rs → rs ≡ replicate R (get_or rs 0 d)
alike_repeats R rs d e h =
    let len = length-replicate R (get_or rs 0 d) in
    ext_get_or d rs (replicate R (get_or rs 0 d)) (cc) (λ i l. h i 0 d l (omega arith) ∙ sym (get_or-replicate R i (get_or rs 0 d) d (omega arith)))

first_repeats : (R : ℕ) (rs : List RoundScenario) → 0 < R → length rs ≡ R → AllAlike rs → (r : RoundScenario) × (rs ≡ replicate R r) × (take 1 rs ≡ r ∷ [])
first_repeats R [] l e h = absurd (omega arith)
first_repeats R (r ∷ rs) l e h = (r, alike_repeats R (r ∷ rs) r e h, refl)

pub legal_repeats : (n R : ℕ) (rs : List RoundScenario) → 0 < R → Legal n R rs × AllAlike rs → (r : RoundScenario) × (rs ≡ replicate R r) × Legal n 1 (r ∷ [])
legal_repeats n R rs l g =
    let f = first_repeats R rs l g.0.enough g.1 in
    (f.0, f.1, record { enough = refl; each = subst (AllByRecursion (LegalRound n)) f.2 (All-take (LegalRound n) 1 rs g.0.each) })

pub sustained_back : (n R : ℕ) (rs : List RoundScenario) (d : RoundScenario) → 0 < R → length rs ≡ R → AllAlike rs → repeated R (take 1 rs) ≡ rs
sustained_back n R rs d l e h =
    let f = first_repeats R rs l e h in
    ap (repeated R) f.2 ∙ repeated_one R f.0 ∙ sym f.1

pub sustained_first : (n R : ℕ) (rs : List RoundScenario) → 0 < R → AllAlike rs → length rs ≡ R → Legal n R rs → Canonical n rs
    → AllByRecursion (LegalRound n) (take 1 rs) × Canonical n (take 1 rs)
sustained_first n R rs l h e g c =
    let f = first_repeats R rs l e h in
    (All-take (LegalRound n) 1 rs g.each, subst (Canonical n) (sym f.2) ((repeats_canonical n R f.0 l).0 (subst (Canonical n) f.1 c)))

-- where the first round alone is not legal and canonical, the rounds are no canonical scenario
pub sustained_none : (n R : ℕ) (rs : List RoundScenario) → 0 < R → (AllByRecursion (LegalRound n) (take 1 rs) → Canonical n (take 1 rs) → ⊥)
    → Legal n R rs × AllAlike rs → Canonical n rs → ⊥
sustained_none n R rs l refuted g c =
    let f = sustained_first n R rs l g.1 g.0.enough g.0 c in
    refuted f.0 f.1

-- a list of one round, repeated

legal_repeated : (n R : ℕ) (xs : List RoundScenario) → Legal n 1 xs → Legal n R (repeated R xs) × AllAlike (repeated R xs)
legal_repeated n R [] g = absurd (omega arith)
legal_repeated n R (r ∷ []) g = subst (λ xs. Legal n R xs × AllAlike xs) (sym (repeated_one R r)) (legal_replicate n R r g.each.0)
legal_repeated n R (r ∷ s ∷ xs) g = absurd (omega arith)

canonical_repeated : (n R : ℕ) (xs : List RoundScenario) → 0 < R → length xs ≡ 1 → Canonical n xs → Canonical n (repeated R xs)
canonical_repeated n R [] l e c = absurd (omega arith)
canonical_repeated n R (r ∷ []) l e c = subst (Canonical n) (sym (repeated_one R r)) ((repeats_canonical n R r l).1 c)
canonical_repeated n R (r ∷ s ∷ xs) l e c = absurd (omega arith)

apart_repeated : (R : ℕ) (xs ys : List RoundScenario) → 0 < R → length xs ≡ 1 → length ys ≡ 1 → repeated R xs ≡ repeated R ys → xs ≡ ys
apart_repeated R [] ys l a b e = absurd (omega arith)
apart_repeated R (r ∷ s ∷ xs) ys l a b e = absurd (omega arith)
apart_repeated R (r ∷ []) [] l a b e = absurd (omega arith)
apart_repeated R (r ∷ []) (s ∷ t ∷ ys) l a b e = absurd (omega arith)
apart_repeated R (r ∷ []) (s ∷ []) l a b e = ap (λ x. x ∷ []) (apart_replicate R r s l (sym (repeated_one R r) ∙ e ∙ repeated_one R s))

found_repeated : (n R : ℕ) (rs : List RoundScenario) → 0 < n → 0 < R → Legal n R rs × AllAlike rs → Canonical n rs
    → (k : ℕ) × (k < count 1 (n ∷ [])) × (repeated R (scenario 1 (n ∷ []) k) ≡ rs)
found_repeated n R rs h l g c =
    let f = legal_repeats n R rs l g in
    let m = (correspond n 1 h).found (f.0 ∷ []) f.2 ((repeats_canonical n R f.0 l).0 (subst (Canonical n) f.1 c)) in
    (m.0, m.1, ap (repeated R) m.2 ∙ repeated_one R f.0 ∙ sym f.1)

pub corresponds_in : (mode : Mode) (n R : ℕ) → 0 < n → 0 < R → CorrespondsIn mode n R
corresponds_in Sampled n R h l =
    let s = correspond n R h in
    record { legal = s.legal; canonical = s.canonical; apart = s.apart; found = s.found }
corresponds_in Sustained n R h l = record {
  legal = λ k b. legal_repeated n R (scenario 1 (n ∷ []) k) (s.legal k b);
  canonical = λ k b. canonical_repeated n R (scenario 1 (n ∷ []) k) l (s.legal k b).enough (s.canonical k b);
  apart = λ k j a b e. s.apart k j a b (apart_repeated R (scenario 1 (n ∷ []) k) (scenario 1 (n ∷ []) j) l (s.legal k a).enough (s.legal j b).enough e);
  found = λ rs g c. found_repeated n R rs h l g c;
}
  where
    s : Corresponds n 1
    s = correspond n 1 h
