-- Sets written upwards.
use Rattle.std.proofs.Common.{◌≡◌, ℕ, zero, suc, ◌+◌, ◌<◌, ◌≤◌, Bool, true, false, cond, ◌||◌, ◌⊎◌, List, [], ◌∷◌, filter, sym, refl, ap, ◌∙◌, subst, inl, inr, arith}
use Rattle.std.specs.List.{range_with_len}
use Rattle.std.proofs.lemmas.Bool.{cases_eq, cases_order, cases_Bool, eq-eqb, ne_eqb, true≢false, false≢true}
use Rattle.orders.specs.Members.{member}
use Rattle.sets.specs.Sets.{Upwards}

pub member_here : (x : ℕ) (xs : List ℕ) → member (x ∷ xs) x ≡ true
member_here x xs = ap (λ b. b || member xs x) (eq-eqb x x refl)

pub member_there : (x i : ℕ) (xs : List ℕ) → (x ≡ i → ⊥) → member (x ∷ xs) i ≡ member xs i
member_there x i xs h = ap (λ b. b || member xs i) (ne_eqb x i h)

pub member_below : (low n i : ℕ) (xs : List ℕ) → Upwards low n xs → i < low → member xs i ≡ false
member_below low n i [] u h = refl
member_below low n i (x ∷ xs) u h = member_there x i xs (λ e. omega arith) ∙ member_below (suc x) n i xs u.2 (omega arith)

pub same_set : (low n : ℕ) (xs ys : List ℕ) → Upwards low n xs → Upwards low n ys → ((i : ℕ) → low ≤ i → i < n → member xs i ≡ member ys i) → xs ≡ ys
same_set low n [] [] u v e = refl
same_set low n [] (y ∷ ys) u v e = absurd (false≢true (e y v.0 v.1 ∙ member_here y ys))
same_set low n (x ∷ xs) [] u v e = absurd (false≢true (sym (e x u.0 u.1) ∙ member_here x xs))
same_set low n (x ∷ xs) (y ∷ ys) u v e = go (same_set (suc x) n xs ys u.2) (cases_order x y)
  where
    go : (Upwards (suc x) n ys → ((i : ℕ) → suc x ≤ i → i < n → member xs i ≡ member ys i) → xs ≡ ys) → (x ≡ y) ⊎ ((x < y) ⊎ (y < x)) → x ∷ xs ≡ y ∷ ys
    go ih (inr (inl l)) = absurd (true≢false (sym (member_here x xs) ∙ e x u.0 u.1 ∙ member_below y n x (y ∷ ys) (omega arith, v.1, v.2) l))
    go ih (inr (inr l)) = absurd (true≢false (sym (member_here y ys) ∙ sym (e y v.0 v.1) ∙ member_below x n y (x ∷ xs) (omega arith, u.1, u.2) l))
    go ih (inl q) =
        let rest = ih (subst (λ k. Upwards (suc k) n ys) (sym q) v.2) (λ i a b. sym (member_there x i xs (λ z. omega arith)) ∙ e i (omega (arith, u.0)) b ∙ member_there y i ys (λ z. omega arith)) in
        cc (q, rest)

-- the numbers from low on, k of them, that pass g

pub picked_upwards : (low k n : ℕ) (g : ℕ → Bool) → low + k ≤ n → Upwards low n (filter g (range_with_len low k))
picked_upwards low zero n g h = tt
picked_upwards low (suc k) n g h = go (g low) (picked_upwards (low + 1) k n g (omega arith))
  where
    wider : (a b : ℕ) (xs : List ℕ) → a ≤ b → Upwards b n xs → Upwards a n xs
    wider a b [] l u = tt
    wider a b (x ∷ xs) l u = (omega arith, u.1, u.2)

    go : (b : Bool) → Upwards (low + 1) n (filter g (range_with_len (low + 1) k)) → Upwards low n (cond b (low ∷ filter g (range_with_len (low + 1) k)) (filter g (range_with_len (low + 1) k)))
    go true u = (omega arith, omega arith, wider (suc low) (low + 1) _ (omega arith) u)
    go false u = wider low (low + 1) _ (omega arith) u

pub member_picked : (low k : ℕ) (g : ℕ → Bool) (i : ℕ) → low ≤ i → i < low + k → member (filter g (range_with_len low k)) i ≡ g i
member_picked low zero g i h l = absurd (omega arith)
member_picked low (suc k) g i h l = go (λ e. member_picked (low + 1) k g i (omega (arith, e)) (omega arith)) (cases_eq low i) (cases_Bool (g low))
  where
    rest : List ℕ
    rest = filter g (range_with_len (low + 1) k)

    is : (b : Bool) → g low ≡ b → member (filter g (range_with_len low (suc k))) i ≡ member (cond b (low ∷ rest) rest) i
    is b = ap (λ t. member (cond t (low ∷ rest) rest) i)

    go : ((low ≡ i → ⊥) → member rest i ≡ g i) → (low ≡ i) ⊎ (low ≡ i → ⊥) → (g low ≡ true) ⊎ (g low ≡ false) → member (filter g (range_with_len low (suc k))) i ≡ g i
    go ih (inl e) (inl t) = is true t ∙ ap (λ b. b || member rest i) (eq-eqb low i e) ∙ sym t ∙ ap g e
    go ih (inl e) (inr t) = is false t ∙ member_below (low + 1) (low + 1 + k) i rest (picked_upwards (low + 1) k (low + 1 + k) g (omega arith)) (omega arith) ∙ sym t ∙ ap g e
    go ih (inr e) (inl t) = is true t ∙ member_there low i rest e ∙ ih e
    go ih (inr e) (inr t) = is false t ∙ ih e
