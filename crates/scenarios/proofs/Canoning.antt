-- Rounds read one after the other: legal, in order so far, and the state that they leave.
use Rattle.std.proofs.Common.{◌≡◌, ℕ, zero, suc, ◌+◌, ◌-◌, ◌^◌, ◌<◌, ◌≤◌, Bool, true, false, not, ltb, List, [], ◌∷◌, ◌++◌, map, length, get_or, take, drop, sym, ap, ◌∙◌, subst, arith}
use Rattle.std.specs.List.{range_with_len, AllByRecursion}
use Rattle.std.proofs.lemmas.List.{take_more, drop_more, take-append-drop, append_assoc, append-nil, take_all}
use Rattle.std.proofs.ByRecursion.{All-push, All-get_or}
use Rattle.std.proofs.lemmas.Bool.{lt-ltb, le-ltb, cond-true, cond-false, false≢true}
use Rattle.std.proofs.lemmas.List.FromFn.{get_or-map-range_with_len, length-map-range_with_len}
use Rattle.std.proofs.lemmas.Nat.{pow_pos}
use Rattle.scenarios.specs.declared.round.RoundScenario.{RoundScenario}
use Rattle.scenarios.specs.Masks.{bit}
use Rattle.scenarios.specs.Cells.{cut, cells, boundaries, inner}
use Rattle.scenarios.specs.Turns.{Turn, after, weight, round}
use Rattle.scenarios.specs.Fits.{Fits}
use Rattle.scenarios.specs.Canonical.{LegalRound, Together, InOrder, Canonical, Residual}
use Rattle.scenarios.specs.Claims.{Ordered}
use Rattle.scenarios.proofs.States.{cells_stand, cells_boundaries, boundaries_below}
use Rattle.scenarios.proofs.Rounding.{rounds_stand}
use Rattle.scenarios.proofs.Neighbours.{Follows, follows_at, canonical_from, canonical_to, Tied, tied_first, tied_step}

-- a round more at the end
follows_push : (n : ℕ) (before xs : List RoundScenario) (r : RoundScenario) → Follows n before xs → ((i : ℕ) → i + 1 < n → Together (before ++ xs) i → InOrder r i (i + 1)) → Follows n before (xs ++ (r ∷ []))
follows_push n before [] r f h = ((λ i l t. h i l (subst (λ b. Together b i) (sym (append-nil before)) t)), tt)
follows_push n before (x ∷ xs) r f h =
    (f.0, follows_push n (before ++ (x ∷ [])) xs r f.1 (λ i l t. h i l (subst (λ b. Together b i) (append_assoc before (x ∷ []) xs) t)))

-- what holds after i rounds
pub record Read (n : ℕ) (rs : List RoundScenario) (i s : ℕ) : Type 0 where
  pub below : s < 2 ^ (n - 1)
  pub legal : AllByRecursion (LegalRound n) (take i rs)
  pub follows : Follows n [] (take i rs)
  pub tied : Tied n (cells n s) (take i rs)

module _ (n : ℕ) (h : 0 < n) (rs : List RoundScenario) (i s : ℕ) (so : Read n rs i s) (d : RoundScenario) (l : i < length rs) where
  pub read_more : (t : Turn) (k m : ℕ) → Fits (cells n s) t → k < weight t → round t k ≡ get_or rs i d → boundaries (after t) ≡ m → Read n rs (i + 1) m
  read_more t k m fits b e q =
      let st = rounds_stand n (cells n s) t k (cells_stand n s h) fits b in
      let grows : take i rs ++ (round t k ∷ []) ≡ take (i + 1) rs = ap (λ r. take i rs ++ (r ∷ [])) e ∙ sym (take_more rs i d l) in
      record {
        below = subst (λ x. x < 2 ^ (n - 1)) q (boundaries_below n (after t) h st.cells);
        legal = subst (AllByRecursion (LegalRound n)) grows (All-push (LegalRound n) (take i rs) (round t k) so.legal st.legal);
        follows = subst (Follows n []) grows (follows_push n [] (take i rs) (round t k) so.follows (λ j lj tg. st.ordered j lj ((so.tied j lj).1 tg)));
        tied = subst (λ c. Tied n c (take (i + 1) rs)) (sym (cells_boundaries n (after t) h st.cells) ∙ ap (cells n) q)
            (subst (Tied n (after t)) grows (tied_step n (cells n s) t k (take i rs) st so.tied));
      }

  -- a round that is not legal, or not in order, is not of a canonical scenario
  pub read_none : (LegalRound n (get_or rs i d) → Ordered n (cells n s) (get_or rs i d) → ⊥) → AllByRecursion (LegalRound n) rs → Canonical n rs → ⊥
  read_none no' legal canonical =
      let split : rs ≡ take i rs ++ (get_or rs i d ∷ drop (i + 1) rs) = sym (take-append-drop i rs) ∙ ap (λ x. take i rs ++ x) (drop_more rs i d l) in
      no' (All-get_or (LegalRound n) rs i d l legal)
      (λ j lj inn. follows_at n [] rs (canonical_from n rs canonical) (take i rs) (get_or rs i d) (drop (i + 1) rs) split j lj ((so.tied j lj).0 inn))

pub read_start : (n : ℕ) (rs : List RoundScenario) → 0 < n → cells n 0 ≡ n ∷ [] → Read n rs 0 0
read_start n rs h e = record { below = pow_pos (n - 1); legal = tt; follows = tt; tied = subst (λ c. Tied n c []) (sym e) (tied_first n) }

-- a boundary is where no cell goes on

inner_in : (m : ℕ) (cs : List ℕ) (j : ℕ) → j + 1 < m → inner (m ∷ cs) j ≡ true
inner_in m cs j h = cond-true (ltb j m) _ _ (lt-ltb j m (omega arith)) ∙ lt-ltb (j + 1) m h

-- the first cell has at least m members
inner_under : (m : ℕ) (bs : List Bool) (j : ℕ) → j + 1 < m → inner (cut m bs) j ≡ true
inner_under m [] j h = inner_in m [] j h
inner_under m (true ∷ bs) j h = inner_in m (cut 1 bs) j h
inner_under m (false ∷ bs) j h = inner_under (m + 1) bs j (omega arith)

inner_cut : (size : ℕ) (bs : List Bool) (i : ℕ) → 0 < size → i < length bs → inner (cut size bs) (size - 1 + i) ≡ not (get_or bs i false)
inner_cut size [] i p h = absurd (omega arith)
inner_cut size (true ∷ bs) zero p h =
    let a : size - 1 + 0 < size = omega arith in
    let b : size ≤ size - 1 + 0 + 1 = omega arith in
    cond-true (ltb (size - 1 + 0) size) _ _ (lt-ltb (size - 1 + 0) size a) ∙ le-ltb (size - 1 + 0 + 1) size b
inner_cut size (true ∷ bs) (suc i) p h =
    let a : size ≤ size - 1 + suc i = omega arith in
    let e : size - 1 + suc i - size ≡ 1 - 1 + i = omega arith in
    cond-false (ltb (size - 1 + suc i) size) _ _ (le-ltb (size - 1 + suc i) size a) ∙ ap (inner (cut 1 bs)) e ∙ inner_cut 1 bs i (omega arith) (omega arith)
inner_cut size (false ∷ bs) zero p h = inner_under (size + 1) bs (size - 1 + 0) (omega arith)
inner_cut size (false ∷ bs) (suc i) p h =
    let e : size - 1 + suc i ≡ size + 1 - 1 + i = omega arith in
    ap (inner (cut (size + 1) bs)) e ∙ inner_cut (size + 1) bs i (omega arith) (omega arith)

inner_cells : (n s i : ℕ) → i + 1 < n → inner (cells n s) i ≡ not (bit s i)
unfolding cells
inner_cells n s i h =
    let flags = map (bit s) (range_with_len 0 (n - 1)) in
    let l = length-map-range_with_len (bit s) 0 (n - 1) in
    let g = get_or-map-range_with_len (bit s) 0 (n - 1) i i false (omega arith) (omega arith) in
    let e : i ≡ 1 - 1 + i = omega arith in
    ap (inner (cut 1 flags)) e ∙ inner_cut 1 flags i (omega arith) (omega arith) ∙ ap not g

pub read_all : (n i s : ℕ) (rs : List RoundScenario) → length rs ≤ i → Read n rs i s → AllByRecursion (LegalRound n) rs × Canonical n rs × Residual n rs s
read_all n i s rs h so =
    let e = take_all i rs h in (
      subst (AllByRecursion (LegalRound n)) e so.legal,
      canonical_to n rs (subst (Follows n []) e so.follows),
      record {
        below = so.below;
        whole = λ j l b. subst (λ x. Together x j) e ((so.tied j l).0 (inner_cells n s j l ∙ ap not b));
        parted = λ j l b t. false≢true (sym (ap not b) ∙ sym (inner_cells n s j l) ∙ (so.tied j l).1 (subst (λ x. Together x j) (sym e) t));
      },
    )
