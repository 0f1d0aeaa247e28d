-- The step to the next composition, as the code writes it into an array of five.
use Rattle.std.proofs.Common.{◌≡◌, ℕ, zero, suc, ◌+◌, ◌-◌, ◌<◌, ◌≤◌, List, [], ◌∷◌, length, get_or, take, set, Some, refl, arith}
use Rattle.std.specs.List.{AllByRecursion}
use Rattle.std.proofs.lemmas.Bool.Decides.{nat_tests}
use Rattle.scenarios.specs.Cells.{total}
use Rattle.scenarios.specs.Steps.{next_composition}
use Rattle.scenarios.specs.Refinements.{LastAbove}
use Rattle.scenarios.proofs.Composing.{next_composition_one, next_composition_two, next_composition_three, next_composition_four}

-- no part is above the whole
pub part_most : (ps : List ℕ) (i : ℕ) → get_or ps i 0 ≤ total ps
part_most [] i = omega arith
part_most (p ∷ ps) zero = omega arith
part_most (p ∷ ps) (suc i) = let h = part_most ps i in omega arith

-- the part at j has one before it
moved_five : (a b c d e len j : ℕ) → len ≤ 4 → AllByRecursion (λ p. 0 < p) (take len (a ∷ b ∷ c ∷ d ∷ e ∷ [])) → LastAbove (take len (a ∷ b ∷ c ∷ d ∷ e ∷ [])) (Some j) → 0 < j
    → next_composition (take len (a ∷ b ∷ c ∷ d ∷ e ∷ []))
    ≡ Some (take len (set (set (set (a ∷ b ∷ c ∷ d ∷ e ∷ []) j 1) (j - 1) (get_or (a ∷ b ∷ c ∷ d ∷ e ∷ []) (j - 1) 0 + 1)) (len - 1) (get_or (a ∷ b ∷ c ∷ d ∷ e ∷ []) j 0 - 1)))
moved_five a b c d e zero j l p h k = absurd (omega (arith, h.0))
moved_five a b c d e (suc zero) j l p h k = absurd (omega (arith, h.0))
moved_five a b c d e (suc (suc zero)) zero l p h k = absurd (omega arith)
moved_five a b c d e (suc (suc zero)) (suc zero) l p h k = let t = h.1 in rw (next_composition_two a b p.1.0) (grind (arith, nat_tests))
moved_five a b c d e (suc (suc zero)) (suc (suc j)) l p h k = absurd (omega (arith, h.0))
moved_five a b c d e (suc (suc (suc zero))) zero l p h k = absurd (omega arith)
moved_five a b c d e (suc (suc (suc zero))) (suc zero) l p h k =
    let t = h.1 in let u : c ≤ 1 = h.2 2 (omega arith) (omega arith) in rw (next_composition_three a b c p.1.0 p.1.1.0) (grind (arith, nat_tests))
moved_five a b c d e (suc (suc (suc zero))) (suc (suc zero)) l p h k =
    let t = h.1 in rw (next_composition_three a b c p.1.0 p.1.1.0) (grind (arith, nat_tests))
moved_five a b c d e (suc (suc (suc zero))) (suc (suc (suc j))) l p h k = absurd (omega (arith, h.0))
moved_five a b c d e (suc (suc (suc (suc zero)))) zero l p h k = absurd (omega arith)
moved_five a b c d e (suc (suc (suc (suc zero)))) (suc zero) l p h k =
    let t = h.1 in let u : c ≤ 1 = h.2 2 (omega arith) (omega arith) in let v : d ≤ 1 = h.2 3 (omega arith) (omega arith) in rw (next_composition_four a b c d p.1.1.0 p.1.1.1.0) (grind (arith, nat_tests))
moved_five a b c d e (suc (suc (suc (suc zero)))) (suc (suc zero)) l p h k =
    let t = h.1 in let v : d ≤ 1 = h.2 3 (omega arith) (omega arith) in rw (next_composition_four a b c d p.1.1.0 p.1.1.1.0) (grind (arith, nat_tests))
moved_five a b c d e (suc (suc (suc (suc zero)))) (suc (suc (suc zero))) l p h k =
    let t = h.1 in rw (next_composition_four a b c d p.1.1.0 p.1.1.1.0) (grind (arith, nat_tests))
moved_five a b c d e (suc (suc (suc (suc zero)))) (suc (suc (suc (suc j)))) l p h k = absurd (omega (arith, h.0))
moved_five a b c d e (suc (suc (suc (suc (suc len))))) j l p h k = absurd (omega arith)

-- the first part is the last above 1
opened_five : (a b c d e len : ℕ) → len ≤ 4 → AllByRecursion (λ p. 0 < p) (take len (a ∷ b ∷ c ∷ d ∷ e ∷ [])) → LastAbove (take len (a ∷ b ∷ c ∷ d ∷ e ∷ [])) (Some 0) → len < 4
    → next_composition (take len (a ∷ b ∷ c ∷ d ∷ e ∷ []))
    ≡ Some (take (len + 1) (set (set (a ∷ b ∷ c ∷ d ∷ e ∷ []) 0 1) len (a - 1)))
opened_five a b c d e zero l p h k = absurd (omega (arith, h.0))
opened_five a b c d e (suc zero) l p h k = let t = h.1 in rw (next_composition_one a) (grind (arith, nat_tests))
opened_five a b c d e (suc (suc zero)) l p h k =
    let t = h.1 in let u : b ≤ 1 = h.2 1 (omega arith) (omega arith) in let q = p.1.0 in let b1 : b ≡ 1 = omega arith in rw (next_composition_two a b p.1.0) (grind (arith, nat_tests))
opened_five a b c d e (suc (suc (suc zero))) l p h k =
    let t = h.1 in let u : b ≤ 1 = h.2 1 (omega arith) (omega arith) in let v : c ≤ 1 = h.2 2 (omega arith) (omega arith) in let q = p.1.0 in let q' = p.1.1.0 in
    let b1 : b ≡ 1 = omega arith in let c1 : c ≡ 1 = omega arith in rw (next_composition_three a b c p.1.0 p.1.1.0) (grind (arith, nat_tests))
opened_five a b c d e (suc (suc (suc (suc len)))) l p h k = absurd (omega arith)

-- an array of five is five numbers
pub record Five (xs : List ℕ) : Type 0 where
  pub a : ℕ
  pub b : ℕ
  pub c : ℕ
  pub d : ℕ
  pub e : ℕ
  pub are : xs ≡ a ∷ b ∷ c ∷ d ∷ e ∷ []

pub five : (xs : List ℕ) → length xs ≡ 5 → Five xs
five [] h = absurd (omega arith)
five (a ∷ []) h = absurd (omega arith)
five (a ∷ b ∷ []) h = absurd (omega arith)
five (a ∷ b ∷ c ∷ []) h = absurd (omega arith)
five (a ∷ b ∷ c ∷ d ∷ []) h = absurd (omega arith)
five (a ∷ b ∷ c ∷ d ∷ e ∷ []) h = record { a = a; b = b; c = c; d = d; e = e; are = refl }
five (a ∷ b ∷ c ∷ d ∷ e ∷ f ∷ xs) h = absurd (omega arith)

module _ (parts : List ℕ) (long : length parts ≡ 5) (len : ℕ) (few : len ≤ 4) where
  pub moved : (j : ℕ) → AllByRecursion (λ p. 0 < p) (take len parts) → LastAbove (take len parts) (Some j) → 0 < j
      → next_composition (take len parts) ≡ Some (take len (set (set (set parts j 1) (j - 1) (get_or parts (j - 1) 0 + 1)) (len - 1) (get_or parts j 0 - 1)))
  moved j = go (five parts long)
    where
      go : Five parts → AllByRecursion (λ p. 0 < p) (take len parts) → LastAbove (take len parts) (Some j) → 0 < j
          → next_composition (take len parts) ≡ Some (take len (set (set (set parts j 1) (j - 1) (get_or parts (j - 1) 0 + 1)) (len - 1) (get_or parts j 0 - 1)))
      go f = rw f.are (moved_five f.a f.b f.c f.d f.e len j few)

  pub opened : (j : ℕ) → j ≡ 0 → AllByRecursion (λ p. 0 < p) (take len parts) → LastAbove (take len parts) (Some j) → len < 4
      → next_composition (take len parts) ≡ Some (take (len + 1) (set (set parts j 1) len (get_or parts j 0 - 1)))
  opened j z = go (five parts long)
    where
      go : Five parts → AllByRecursion (λ p. 0 < p) (take len parts) → LastAbove (take len parts) (Some j) → len < 4
          → next_composition (take len parts) ≡ Some (take (len + 1) (set (set parts j 1) len (get_or parts j 0 - 1)))
      go f = rw (f.are, z) (opened_five f.a f.b f.c f.d f.e len few)

-- the parts in front of the leader

pub total_take : (k : ℕ) (ps : List ℕ) → total (take k ps) ≤ total ps
total_take zero ps = omega arith
total_take (suc k) [] = omega arith
total_take (suc k) (p ∷ ps) = let h = total_take k ps in omega arith
