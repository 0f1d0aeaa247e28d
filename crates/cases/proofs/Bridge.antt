-- Cells by their sizes and cells by the rounds that leave them: a first few of each is the same.
use Rattle.std.proofs.Common.{◌≡◌, ℕ, suc, ◌+◌, ◌-◌, ◌<◌, ◌≤◌, true, ◌⊎◌, List, [], ◌∷◌, sym, refl, ap, ◌∙◌, inl, inr, add-one, arith}
use native.Mathlib.Decide.{le_ind}
use Rattle.std.proofs.lemmas.Bool.{cases_lt, lt-ltb, ltb-true}
use Rattle.scenarios.specs.declared.round.RoundScenario.{RoundScenario}
use Rattle.scenarios.specs.Cells.{total, inner}
use Rattle.scenarios.proofs.Neighbours.{Tied}
use Rattle.scenarios.proofs.Parting.{inner_below, inner_above}
use Rattle.sets.specs.Sets.{cell_of, FirstFew}
use Rattle.sets.proofs.CellPlaces.{cell_here, cell_behind}
use Rattle.cases.proofs.Columns.{Few}

same_cell_next : (cs : List ℕ) (i : ℕ) → inner cs i ≡ true → cell_of cs i ≡ cell_of cs (i + 1)
same_cell_next [] i h = refl
same_cell_next (c ∷ cs) i h = go (same_cell_next cs (i - c)) (cases_lt i c)
  where
    go : (inner cs (i - c) ≡ true → cell_of cs (i - c) ≡ cell_of cs (i - c + 1)) → (i < c) ⊎ (c ≤ i) → cell_of (c ∷ cs) i ≡ cell_of (c ∷ cs) (i + 1)
    go ih (inl l) = cell_here c cs i l ∙ sym (cell_here c cs (i + 1) (ltb-true (i + 1) c (sym (inner_below c cs i l) ∙ h)))
    go ih (inr l) =
        cell_behind c cs i l ∙ ap suc (ih (sym (inner_above c cs i l) ∙ h)) ∙ ap (λ k. suc (cell_of cs k)) (let e : i - c + 1 ≡ i + 1 - c = omega arith in e)
        ∙ sym (cell_behind c cs (i + 1) (omega arith))

same_cell : (cs : List ℕ) (i j : ℕ) → i ≤ j → ((k : ℕ) → i ≤ k → k < j → inner cs k ≡ true) → cell_of cs i ≡ cell_of cs j
same_cell cs i j l = le_ind (λ m. ((k : ℕ) → i ≤ k → k < m → inner cs k ≡ true) → cell_of cs i ≡ cell_of cs m) (λ _. refl)
    (λ m a ih h. ih (λ k b d. h k b (omega arith)) ∙ rw add-one at (same_cell_next cs m (h m a (omega arith)))) j l

-- no cell ends between two of its participants
inner_between : (cs : List ℕ) (i j k : ℕ) → cell_of cs i ≡ cell_of cs j → i ≤ k → k < j → j < total cs → inner cs k ≡ true
inner_between [] i j k e a b l = absurd (omega arith)
inner_between (c ∷ cs) i j k e a b l = go (inner_between cs (i - c) (j - c) (k - c)) (cases_lt i c) (cases_lt j c)
  where
    go : (cell_of cs (i - c) ≡ cell_of cs (j - c) → i - c ≤ k - c → k - c < j - c → j - c < total cs → inner cs (k - c) ≡ true)
        → (i < c) ⊎ (c ≤ i) → (j < c) ⊎ (c ≤ j) → inner (c ∷ cs) k ≡ true
    go ih x (inl y) = inner_below c cs k (omega arith) ∙ lt-ltb (k + 1) c (omega arith)
    go ih (inl x) (inr y) = absurd (omega (arith, cell_here c cs i x, cell_behind c cs j y))
    go ih (inr x) (inr y) = inner_above c cs k (omega arith) ∙ ih (omega (arith, cell_behind c cs i x, cell_behind c cs j y)) (omega arith) (omega arith) (omega arith)

module _ (n : ℕ) (cs : List ℕ) (rs : List RoundScenario) (tied : Tied n cs rs) (s : List ℕ) where
  pub few_by_rounds : FirstFew n cs s → Few n rs s
  few_by_rounds h i j l b t = h i j l b (same_cell cs i j (omega arith) (λ k a c. (tied k (omega arith)).1 (t k a c)))

  pub few_by_sizes : total cs ≡ n → Few n rs s → FirstFew n cs s
  few_by_sizes whole h i j l b e = h i j l b (λ k a c. (tied k (omega arith)).0 (inner_between cs i j k e a c (omega arith)))
