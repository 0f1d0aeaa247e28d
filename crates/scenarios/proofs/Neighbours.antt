-- Canonical scenarios by neighbours, round after round, and cells that stand for a history. Assumes nothing.
use Rattle.std.proofs.Common.{◌≡◌, ℕ, zero, suc, ◌+◌, ◌<◌, ◌≤◌, true, ◌⊎◌, ◌↔◌, List, [], ◌∷◌, ◌++◌, replicate, refl, ap, subst, inl, inr, append_assoc, arith}
use Rattle.std.specs.List.{AllByRecursion}
use Rattle.std.proofs.lemmas.List.{append-nil}
use Rattle.std.proofs.ByRecursion.{All-push}
use Rattle.std.proofs.lemmas.Bool.{cases_lt, lt-ltb}
use Rattle.scenarios.specs.declared.round.RoundScenario.{RoundScenario}
use Rattle.scenarios.specs.Cells.{CellsOf, inner}
use Rattle.scenarios.specs.Turns.{Turn, after, round}
use Rattle.scenarios.specs.Canonical.{Alike, Together, OneCell, InOrder, Canonical}
use Rattle.scenarios.specs.Claims.{RoundStands}
use Rattle.scenarios.specs.Claims.{RepeatsCanonical}

pub all_parts : {X : Type 0} (P : X → Type 0) (xs ys : List X) → AllByRecursion P (xs ++ ys) → AllByRecursion P xs × AllByRecursion P ys
all_parts P [] ys h = (tt, h)
all_parts P (x ∷ xs) ys h = let k = all_parts P xs ys h.1 in ((h.0, k.0), k.1)

-- neighbours, and whole cells

pub one_cell : (rs : List RoundScenario) (i : ℕ) → Together rs i → OneCell rs i (i + 1)
one_cell rs i t k a b = subst (Together rs) (let e : i ≡ k = omega arith in e) t

pub rises_on : (r : RoundScenario) (i j : ℕ) → i < j → ((k : ℕ) → i ≤ k → k < j → InOrder r k (k + 1)) → InOrder r i j
rises_on r i zero l h = absurd (omega arith)
rises_on r i (suc j) l h = go (λ q. rises_on r i j q (λ k a b. h k a (omega arith))) (cases_lt i j)
  where
    last : InOrder r j (suc j)
    last = subst (InOrder r j) (let e : j + 1 ≡ suc j = omega arith in e) (h j (omega arith) (omega arith))

    go : (i < j → InOrder r i j) → (i < j) ⊎ (j ≤ i) → InOrder r i (suc j)
    go ih (inl q) = record { leader_last = (ih q).leader_last; roles_rise = λ e. let a = (ih q).roles_rise last.leader_last in let b = last.roles_rise e in omega arith }
    go ih (inr q) = subst (λ k. InOrder r k (suc j)) (let e : j ≡ i = omega arith in e) last

-- after the rounds before, each round of rs has the neighbours of each cell in order
abbrev pub Follows : ℕ → List RoundScenario → List RoundScenario → Type 0
Follows n before [] = Unit {0}
Follows n before (r ∷ rs) = ((i : ℕ) → i + 1 < n → Together before i → InOrder r i (i + 1)) × Follows n (before ++ (r ∷ [])) rs

pub follows_from : (n : ℕ) (before rs : List RoundScenario)
    → ((b : List RoundScenario) (r : RoundScenario) (rest : List RoundScenario) → rs ≡ b ++ (r ∷ rest) → (i : ℕ) → i + 1 < n → Together (before ++ b) i → InOrder r i (i + 1))
    → Follows n before rs
follows_from n before [] h = tt
follows_from n before (r ∷ rs) h = (
  λ i l t. h [] r rs refl i l (rw append-nil t),
  follows_from n (before ++ (r ∷ [])) rs (λ b s rest q i l t. h (r ∷ b) s rest (ap (λ xs. r ∷ xs) q) i l (rw append_assoc at t)),
)

pub follows_at : (n : ℕ) (before rs : List RoundScenario) → Follows n before rs
    → (b : List RoundScenario) (r : RoundScenario) (rest : List RoundScenario) → rs ≡ b ++ (r ∷ rest) → (i : ℕ) → i + 1 < n → Together (before ++ b) i → InOrder r i (i + 1)
follows_at n before [] h [] r rest q i l t = absurd (let z : ◌≡◌ {A = ℕ} 0 1 = cc in omega arith)
follows_at n before [] h (x ∷ b) r rest q i l t = absurd (let z : ◌≡◌ {A = ℕ} 0 1 = cc in omega arith)
follows_at n before (s ∷ rs) h [] r rest q i l t =
    let e : s ≡ r = cc in
    rw (← e) (h.0 i l (rw append-nil at t))
follows_at n before (s ∷ rs) h (x ∷ b) r rest q i l t =
    let e : s ≡ x = cc in
    let e' : rs ≡ b ++ (r ∷ rest) = cc in
    follows_at n (before ++ (s ∷ [])) rs h.1 b r rest e' i l (rw (append_assoc, e) t)

pub canonical_from : (n : ℕ) (rs : List RoundScenario) → Canonical n rs → Follows n [] rs
canonical_from n rs h = follows_from n [] rs (λ b r rest q i l t. h b r rest q i (i + 1) (omega arith) l (one_cell b i t))

pub canonical_to : (n : ℕ) (rs : List RoundScenario) → Follows n [] rs → Canonical n rs
canonical_to n rs h b r rest q i j l lj c = rises_on r i j l (λ k a k_below. follows_at n [] rs h b r rest q k (omega arith) (c k a k_below))

-- the cells are those that the rounds before leave
abbrev pub Tied : ℕ → List ℕ → List RoundScenario → Type 0
Tied n cs before = (i : ℕ) → i + 1 < n → (inner cs i ≡ true) ↔ Together before i

pub one_cell_of : (n : ℕ) → 0 < n → CellsOf n (n ∷ [])
one_cell_of n h = record { filled = (h, tt); whole = omega arith }

pub tied_first : (n : ℕ) → Tied n (n ∷ []) []
tied_first n i l = (λ e. tt, λ t. rw (lt-ltb i n (omega arith)) (lt-ltb (i + 1) n l))

pub tied_step : (n : ℕ) (cs : List ℕ) (t : Turn) (d : ℕ) (before : List RoundScenario) → RoundStands n cs t d → Tied n cs before → Tied n (after t) (before ++ (round t d ∷ []))
tied_step n cs t d before s w i l = (
  λ e. let h = (s.parts i l).0 e in All-push (λ r. Alike r i) before (round t d) ((w i l).0 h.0) h.1,
  λ h. let k = all_parts (λ r. Alike r i) before (round t d ∷ []) h in (s.parts i l).1 ((w i l).1 k.0, k.1.0),
)

-- one round, repeated

follows_repeated : (n : ℕ) (r : RoundScenario) (before : List RoundScenario) (m : ℕ) → ((i : ℕ) → Together before i → Alike r i) → Follows n before (replicate m r)
follows_repeated n r before zero h = tt
follows_repeated n r before (suc m) h = (
  λ i l t. let a = h i t in record { leader_last = a.left_follows; roles_rise = λ e. omega arith },
  follows_repeated n r (before ++ (r ∷ [])) m (λ i t. (all_parts (λ s. Alike s i) before (r ∷ []) t).1.0),
)

pub repeats_canonical : RepeatsCanonical
repeats_canonical n zero r l = absurd (omega arith)
repeats_canonical n (suc m) r l = (
  λ h. canonical_to n (r ∷ []) ((canonical_from n (replicate (suc m) r) h).0, tt),
  λ h. canonical_to n (replicate (suc m) r) ((canonical_from n (r ∷ []) h).0, follows_repeated n r (r ∷ []) m (λ i t. t.0)),
)
