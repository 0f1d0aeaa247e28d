-- Choices of roles: each strictly rising list of roles is one choice, by its number. Assumes nothing.
use Rattle.std.proofs.Common.{◌≡◌, ℕ, zero, suc, ◌+◌, ◌^◌, ◌<◌, ◌≤◌, Bool, true, false, cond, not, ◌&&◌, eqb, ◌≢◌, ◌⊎◌, List, [], ◌∷◌, length, get_or, sum_by, filter, refl, subst, inl, inr, arith, lit<}
use Rattle.std.specs.List.{range_with_len, prefix_len}
use Rattle.std.proofs.lemmas.Bool.{cases_eq, eqb-true}
use Rattle.std.proofs.ByRecursion.{All-get_or, kept_by_passes}
use Rattle.std.proofs.lemmas.List.Sums.{length-filter, count_by-le-length}
use Rattle.std.proofs.lemmas.Bool.Decides.{Decides-below_and}
use Rattle.scenarios.specs.Masks.{bit}
use Rattle.scenarios.specs.Turns.{roles_in, choices, choose, subset}

-- strictly rising numbers from low on and below high
abbrev pub Upwards : ℕ → ℕ → List ℕ → Type 0
Upwards low high [] = Unit {0}
Upwards low high (x ∷ xs) = (low ≤ x) × (x < high) × Upwards (suc x) high xs

pub upwards_wider : (low low' high high' : ℕ) (xs : List ℕ) → low' ≤ low → high ≤ high' → Upwards low high xs → Upwards low' high' xs
upwards_wider low low' high high' [] a b u = tt
upwards_wider low low' high high' (x ∷ xs) a b u = (omega arith, omega arith, upwards_wider (suc x) (suc x) high high' xs (omega arith) b u.2)

pub picked_upwards : (low k n : ℕ) (g : ℕ → Bool) → low + k ≤ n → Upwards low n (filter g (range_with_len low k))
picked_upwards low zero n g h = tt
picked_upwards low (suc k) n g h = go (g low) (picked_upwards (low + 1) k n g (omega arith))
  where
    go : (b : Bool) → Upwards (low + 1) n (filter g (range_with_len (low + 1) k)) → Upwards low n (cond b (low ∷ filter g (range_with_len (low + 1) k)) (filter g (range_with_len (low + 1) k)))
    go true u = (omega arith, omega arith, upwards_wider (low + 1) (suc low) n n _ (omega arith) (omega arith) u)
    go false u = upwards_wider (low + 1) low n n _ (omega arith) (omega arith) u

-- P of all strictly rising lists of k numbers from low on: those with low, and those without
abbrev EveryUp : ℕ → ℕ → (List ℕ → Type 0) → Type 0
EveryUp zero low P = P []
EveryUp (suc k) low P = EveryUp k (suc low) (λ xs. P (low ∷ xs)) × EveryUp k (suc low) P

each_upwards : (k low : ℕ) (P : List ℕ → Type 0) → EveryUp k low P → (xs : List ℕ) → Upwards low (low + k) xs → P xs
each_upwards zero low P e [] u = e
each_upwards zero low P e (x ∷ xs) u = absurd (omega arith)
each_upwards (suc k) low P e [] u = each_upwards k (suc low) P e.1 [] tt
each_upwards (suc k) low P e (x ∷ xs) u = go (each_upwards k (suc low) (λ ys. P (low ∷ ys)) e.0 xs) (each_upwards k (suc low) P e.1 (x ∷ xs)) (cases_eq low x)
  where
    go : (Upwards (suc low) (suc low + k) xs → P (low ∷ xs)) → (Upwards (suc low) (suc low + k) (x ∷ xs) → P (x ∷ xs)) → (low ≡ x) ⊎ (low ≢ x) → P (x ∷ xs)
    go with' without (inl q) = subst (λ y. P (y ∷ xs)) q (with' (upwards_wider (suc x) (suc low) (low + suc k) (suc low + k) xs (omega arith) (omega arith) u.2))
    go with' without (inr q) = without (omega arith, omega arith, upwards_wider (suc x) (suc x) (low + suc k) (suc low + k) xs (omega arith) (omega arith) u.2)

-- the number of a choice: the place of its mask
unfoldable pub rank : List ℕ → ℕ
rank xs = prefix_len (λ m. not (eqb m (sum_by (λ x. 2 ^ x) xs))) (choices (length xs))

pub length_subset : (k d : ℕ) → d < choose k → length (subset k d) ≡ k
unfolding choose subset choices
length_subset k d h = eqb-true _ k (All-get_or (λ m. eqb (length (roles_in m)) k ≡ true) (choices k) d 0 h (kept_by_passes (λ m. eqb (length (roles_in m)) k) (range_with_len 0 16)))

pub upwards_subset : (k d : ℕ) → Upwards 0 4 (subset k d)
unfolding subset roles_in
upwards_subset k d = picked_upwards 0 4 4 (bit (get_or (choices k) d 0)) (omega arith)

pub few_roles : (m : ℕ) → length (roles_in m) ≤ 4
unfolding roles_in
few_roles m = omega (arith, length-filter (bit m) (range_with_len 0 4), count_by-le-length (bit m) (range_with_len 0 4))

pub few_chosen : (k d : ℕ) → d < choose k → k ≤ 4
unfolding subset roles_in
few_chosen k d h = omega (arith, length_subset k d h, few_roles (get_or (choices k) d 0))

abbrev all_below : ℕ → (ℕ → Bool) → Bool
all_below zero p = true
all_below (suc n) p = p n && all_below n p

below_all : (n : ℕ) (p : ℕ → Bool) → all_below n p ≡ true → (d : ℕ) → d < n → p d ≡ true
below_all n p h = (Decides-below_and p (λ d. p d ≡ true) (λ k. all_below k p) (λ d. ((λ e. e), (λ e. e))) refl (λ _. refl) n).0 h

rank_table : all_below 5 (λ k. all_below (choose k) (λ d. eqb (rank (subset k d)) d)) ≡ true
unfolding bit roles_in choices choose subset rank
rank_table = refl

pub rank_subset : (k d : ℕ) → d < choose k → rank (subset k d) ≡ d
rank_subset k d h = eqb-true _ d (below_all (choose k) (λ e. eqb (rank (subset k e)) e) (below_all 5 (λ j. all_below (choose j) (λ e. eqb (rank (subset j e)) e)) rank_table k (omega (arith, few_chosen k d h))) d h)

abbrev RankedUp : List ℕ → Type 0
RankedUp xs = (rank xs < choose (length xs)) × (subset (length xs) (rank xs) ≡ xs)

subset_table : EveryUp 4 0 RankedUp
unfolding bit roles_in choices choose subset rank
subset_table = (
  ((((lit< tt, refl), (lit< tt, refl)), ((lit< tt, refl), (lit< tt, refl))), (((lit< tt, refl), (lit< tt, refl)), ((lit< tt, refl), (lit< tt, refl)))),
  ((((lit< tt, refl), (lit< tt, refl)), ((lit< tt, refl), (lit< tt, refl))), (((lit< tt, refl), (lit< tt, refl)), ((lit< tt, refl), (lit< tt, refl)))),
)

pub subset_rank : (xs : List ℕ) → Upwards 0 4 xs → (rank xs < choose (length xs)) × (subset (length xs) (rank xs) ≡ xs)
subset_rank = each_upwards 4 0 RankedUp subset_table
