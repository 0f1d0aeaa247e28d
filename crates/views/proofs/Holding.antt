-- Which lists of values hold a value, and where. Assumes nothing.
use Rattle.std.proofs.Common.{◌≡◌, ℕ, suc, ◌+◌, Bool, true, false, cond, not, ◌||◌, ltb, List, [], ◌∷◌, ◌++◌, map, length, get_or, Decides, sym, refl, ap, ◌∙◌, arith, rules}
use Rattle.std.proofs.Math.Bool.{or_assoc}
use Rattle.std.proofs.lemmas.Slice.Eq.{compares_Decides}
use Rattle.std.proofs.lemmas.List.{length-map}
use Rattle.std.proofs.lemmas.Bool.{ltb-true, lt-ltb}
use Rattle.std.proofs.lemmas.Bool.Decides.{nat_tests, same_from_decides}
use Rattle.std.specs.List.{position, position_or_len}
use Rattle.views.specs.Routes.{same_value, place_of, holds, first_place}

pub same_value_decides : (xs ys : List ℕ) → Decides (same_value xs ys) (xs ≡ ys)
same_value_decides = compares_Decides same_value (search rules)

-- an answer to whether two values are equal is the test of the specification
pub same_value_is : (r : Bool) (xs ys : List ℕ) → Decides r (xs ≡ ys) → r ≡ same_value xs ys
same_value_is r xs ys d = same_from_decides r (same_value xs ys) d (same_value_decides xs ys)

ltb_cond : (b : Bool) (p n : ℕ) → ltb (cond (not b) (1 + p) 0) (suc n) ≡ (b || ltb p n)
ltb_cond true p n = lt-ltb 0 (suc n) (omega arith)
ltb_cond false p n = grind (arith, nat_tests)

pub holds_cons : (v y : List ℕ) (ys : List (List ℕ)) → holds v (y ∷ ys) ≡ (same_value y v || holds v ys)
holds_cons v y ys = ltb_cond (same_value y v) (place_of v ys) (length ys)

pub holds_append : (v : List ℕ) (xs ys : List (List ℕ)) → holds v (xs ++ ys) ≡ (holds v xs || holds v ys)
holds_append v [] ys = refl
holds_append v (x ∷ xs) ys =
    holds_cons v x (xs ++ ys)
    ∙ ap (λ b. same_value x v || b) (holds_append v xs ys)
    ∙ sym (or_assoc (same_value x v) (holds v xs) (holds v ys))
    ∙ ap (λ b. b || holds v ys) (sym (holds_cons v x xs))

-- what stands at the place of a value is that value
pub getD_place_of : (v : List ℕ) (xs : List (List ℕ)) → holds v xs ≡ true → get_or xs (place_of v xs) [] ≡ v
getD_place_of v [] h = absurd (let l = ltb-true 0 0 h in omega arith)
getD_place_of v (x ∷ xs) h = go (same_value x v) refl (λ t. getD_place_of v xs t)
  where
    go : (b : Bool) → same_value x v ≡ b → (holds v xs ≡ true → get_or xs (place_of v xs) [] ≡ v) → get_or (x ∷ xs) (place_of v (x ∷ xs)) [] ≡ v
    go true e ih = ap (λ b. get_or (x ∷ xs) (cond (not b) (1 + place_of v xs) 0) []) e ∙ (same_value_decides x v).0 e
    go false e ih =
        let on : 1 + place_of v xs ≡ suc (place_of v xs) = omega arith in
        ap (λ b. get_or (x ∷ xs) (cond (not b) (1 + place_of v xs) 0) []) e
        ∙ ap (λ k. get_or (x ∷ xs) k []) on
        ∙ ih (sym (holds_cons v x xs ∙ ap (λ b. b || holds v xs) e) ∙ h)

-- names that mean values, in search of a value
module _ {X : Type 0} (value : X → List ℕ) (v : List ℕ) where
  position_is : (xs : List X) → position_or_len (λ x. same_value (value x) v) xs ≡ place_of v (map value xs)
  position_is [] = refl
  position_is (x ∷ xs) = ap (λ n. cond (not (same_value (value x) v)) (1 + n) 0) (position_is xs)

  pub first_place_is : (xs : List X) → position (λ x. same_value (value x) v) xs ≡ first_place v (map value xs)
  first_place_is xs = rw (position_is xs, length-map xs value) refl
