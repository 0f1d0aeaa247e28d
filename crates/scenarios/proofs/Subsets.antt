-- The choices of roles, and the search for one of them.
use Rattle.std.proofs.Common.{◌≡◌, ℕ, zero, suc, ◌+◌, ◌-◌, ◌<◌, ◌≤◌, Bool, true, ◌&&◌, eqb, List, [], ◌∷◌, length, get_or, take, Some, None, filter, sym, refl, ap, ◌∙◌, arith}
use lib.Count.{ones}
use Rattle.std.specs.List.{range_with_len, slice_get}
use Rattle.std.proofs.lemmas.List.{length-map, length-take-le}
use Rattle.std.proofs.ByRecursion.{All-get_or, kept_by_passes}
use Rattle.std.proofs.lemmas.Bool.{eqb-true, eq-eqb, ne_eqb, cond-true, cond-false}
use Rattle.std.proofs.lemmas.Bool.Decides.{Decides-below_and, Decides-eqb}
use Rattle.scenarios.specs.Masks.{bit}
use Rattle.scenarios.specs.Turns.{choices, choose, roles_in, subset}
use Rattle.scenarios.specs.declared.role.Role.{Role}
use Rattle.scenarios.specs.declared.role.Role.TheVariants.{Outside, Both, Secondary, Primary}
use Rattle.scenarios.specs.Roles.{number, letters}

pub choose_past : (k : ℕ) → 5 ≤ k → choose k ≡ 0
unfolding bit roles_in choices choose
choose_past k h =
    let a = ne_eqb 0 k (λ e. omega arith) in
    let b = ne_eqb 1 k (λ e. omega arith) in
    let c = ne_eqb 2 k (λ e. omega arith) in
    let d = ne_eqb 3 k (λ e. omega arith) in
    let e = ne_eqb 4 k (λ e. omega arith) in
    simp (a, b, c, d, e)

pub choose_table : (choose 0 ≡ 1) × (choose 1 ≡ 4) × (choose 2 ≡ 6) × (choose 3 ≡ 4) × (choose 4 ≡ 1)
unfolding bit roles_in choices choose
choose_table = (refl, refl, refl, refl, refl)

-- the choices from the mask m on
abbrev pub choices_from : ℕ → ℕ → List ℕ
choices_from k m = filter (λ x. eqb (length (roles_in x)) k) (range_with_len m (16 - m))

same_count : ℕ → Bool
same_count x = eqb (ones x) (length (roles_in x))

tested : ℕ → Bool
tested zero = true
tested (suc n) = same_count n && tested n

-- the ones of a mask of four bits are its roles
pub ones_roles : (m : ℕ) → m < 16 → ones m ≡ length (roles_in m)
unfolding ones bit roles_in tested same_count
ones_roles m h = (Decides-below_and same_count (λ x. ones x ≡ length (roles_in x)) tested (λ x. Decides-eqb (ones x) (length (roles_in x))) refl (λ _. refl) 16).0 refl m h

counting_from : (m : ℕ) → m < 16 → range_with_len m (16 - m) ≡ m ∷ range_with_len (m + 1) (16 - (m + 1))
counting_from m h = let e : 16 - m ≡ suc (16 - (m + 1)) = omega arith in ap (range_with_len m) e

pub choices_here : (k m : ℕ) → m < 16 → length (roles_in m) ≡ k → choices_from k m ≡ m ∷ choices_from k (m + 1)
choices_here k m h e =
    ap (filter (λ x. eqb (length (roles_in x)) k)) (counting_from m h) ∙ cond-true (eqb (length (roles_in m)) k) _ _ (eq-eqb (length (roles_in m)) k e)

pub choices_past : (k m : ℕ) → m < 16 → (length (roles_in m) ≡ k → ⊥) → choices_from k m ≡ choices_from k (m + 1)
choices_past k m h e =
    ap (filter (λ x. eqb (length (roles_in x)) k)) (counting_from m h) ∙ cond-false (eqb (length (roles_in m)) k) _ _ (ne_eqb (length (roles_in m)) k e)

pub nth_first : (x : ℕ) (xs : List ℕ) → slice_get (x ∷ xs) 0 ≡ Some x
nth_first x xs = refl

pub nth_next : (x : ℕ) (xs : List ℕ) (k : ℕ) → 0 < k → slice_get (x ∷ xs) k ≡ slice_get xs (k - 1)
nth_next x xs zero h = absurd (omega arith)
nth_next x xs (suc k) h = ap (slice_get xs) (let e : k ≡ suc k - 1 = omega arith in e)

-- the mask of a choice has as many roles as are chosen

nth_some : (xs : List ℕ) (k m : ℕ) → slice_get xs k ≡ Some m → (k < length xs) × (get_or xs k 0 ≡ m)
nth_some [] k m e = absurd (let z : ◌≡◌ {A = ℕ} 0 1 = cc in omega arith)
nth_some (x ∷ xs) zero m e = (omega arith, (cc))
nth_some (x ∷ xs) (suc k) m e = let r = nth_some xs k m e in (omega arith, r.1)

nth_none : (xs : List ℕ) (k : ℕ) → slice_get xs k ≡ None → length xs ≤ k
nth_none [] k e = omega arith
nth_none (x ∷ xs) zero e = absurd (let z : ◌≡◌ {A = ℕ} 0 1 = cc in omega arith)
nth_none (x ∷ xs) (suc k) e = let r = nth_none xs k e in omega arith

pub choice_is : (k d m : ℕ) → slice_get (choices k) d ≡ Some m → (length (roles_in m) ≡ k) × (roles_in m ≡ subset k d)
unfolding choices subset
choice_is k d m e =
    let r = nth_some (choices k) d m e in
    let p = All-get_or (λ x. eqb (length (roles_in x)) k ≡ true) (choices k) d 0 r.0 (kept_by_passes (λ x. eqb (length (roles_in x)) k) (range_with_len 0 16)) in
    let q = eqb-true (length (roles_in (get_or (choices k) d 0))) k p in
    (ap (λ x. length (roles_in x)) (sym r.1) ∙ q, ap roles_in (sym r.1))

pub choice_there : (k d : ℕ) → d < choose k → slice_get (choices k) d ≡ None → ⊥
unfolding choose
choice_there k d h e = let r = nth_none (choices k) d e in omega arith

pub collect_all : (m n i : ℕ) (roles : List Role) → n ≤ length roles → i ≡ 4 → letters (take n roles) ≡ filter (bit m) (range_with_len 0 i)
    → letters (take (length (roles_in m)) roles) ≡ roles_in m
unfolding roles_in
collect_all m n i roles h i4 e =
    let q : letters (take n roles) ≡ roles_in m = e ∙ ap (λ k. filter (bit m) (range_with_len 0 k)) i4 in
    let l : length (roles_in m) ≡ n = ap length (sym q) ∙ length-map (take n roles) number ∙ length-take-le n roles h in
    ap (λ k. letters (take k roles)) l ∙ q

pub number_small : (x : Role) → number x < 4
number_small Outside = omega arith
number_small Both = omega arith
number_small Secondary = omega arith
number_small Primary = omega arith

pub choose_most : (k : ℕ) → choose k ≤ 6
choose_most zero = let t = choose_table.0 in omega arith
choose_most (suc zero) = let t = choose_table.1 in omega arith
choose_most (suc (suc zero)) = let t = choose_table.2 in omega arith
choose_most (suc (suc (suc zero))) = let t = choose_table.3 in omega arith
choose_most (suc (suc (suc (suc zero)))) = let t = choose_table.4 in omega arith
choose_most (suc (suc (suc (suc (suc k))))) = let e = choose_past (suc (suc (suc (suc (suc k))))) (omega arith) in omega arith
