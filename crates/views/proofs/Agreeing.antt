-- Where names mean different values, the group that a mask picks holds a listed value exactly if the mask has its bit. Assumes nothing.
use Rattle.std.proofs.Common.{◌≡◌, ℕ, suc, ◌+◌, Bool, true, false, cond, not, ◌||◌, List, [], ◌∷◌, map, length, sym, refl, ap, ◌∙◌, arith}
use Rattle.std.proofs.lemmas.Bool.{ltb-true, or_parts}
use Rattle.scenarios.specs.Masks.{bit}
use Rattle.views.specs.Groups.{picked}
use Rattle.views.specs.Routes.{same_value, place_of, holds, Distinct}
use Rattle.views.proofs.Holding.{same_value_decides, holds_cons, getD_place_of}

distinct_rest : (x : List ℕ) (xs : List (List ℕ)) → Distinct (x ∷ xs) → Distinct xs
distinct_rest x xs d i j h l e = d (suc i) (suc j) (omega arith) (omega arith) e

-- the first of different values does not come again
distinct_lacks : (v x : List ℕ) (xs : List (List ℕ)) → Distinct (x ∷ xs) → x ≡ v → holds v xs ≡ false
distinct_lacks v x xs d e = go (holds v xs) refl
  where
    go : (b : Bool) → holds v xs ≡ b → b ≡ false
    go false h = refl
    go true h =
        let l = ltb-true (place_of v xs) (length xs) h in
        absurd (d 0 (suc (place_of v xs)) (omega arith) (omega arith) (e ∙ sym (getD_place_of v xs h)))

module _ {X : Type 0} (value : X → List ℕ) (v : List ℕ) (mask : ℕ) where
  -- one name more, chosen or not
  holds_chosen : (b : Bool) (x : X) (us : List X) → holds v (map value (cond b (x ∷ us) us)) ≡ cond b (same_value (value x) v || holds v (map value us)) (holds v (map value us))
  holds_chosen true x us = holds_cons v (value x) (map value us)
  holds_chosen false x us = refl

  cond_or_none : (b c d : Bool) → c ≡ false → d ≡ false → cond b (c || d) d ≡ false
  cond_or_none true c d p q = ap (λ t. t || d) p ∙ q
  cond_or_none false c d p q = q

  picked_lacks : (j : ℕ) (xs : List X) → holds v (map value xs) ≡ false → holds v (map value (picked mask j xs)) ≡ false
  picked_lacks j [] h = h
  picked_lacks j (x ∷ xs) h =
      let parts = or_parts (same_value (value x) v) (holds v (map value xs)) (sym (holds_cons v (value x) (map value xs)) ∙ h) in
      holds_chosen (bit mask j) x (picked mask (j + 1) xs)
      ∙ cond_or_none (bit mask j) (same_value (value x) v) (holds v (map value (picked mask (j + 1) xs))) parts.0 (picked_lacks (j + 1) xs parts.1)

  cond_or_here : (b c d : Bool) → c ≡ true → d ≡ false → cond b (c || d) d ≡ b
  cond_or_here true c d p q = ap (λ t. t || d) p
  cond_or_here false c d p q = q

  cond_or_else : (b c d : Bool) → c ≡ false → cond b (c || d) d ≡ d
  cond_or_else true c d p = ap (λ t. t || d) p
  cond_or_else false c d p = refl

  -- the group that a mask picks holds a listed value exactly if the mask has the bit of its place
  pub holds_picked : (j : ℕ) (xs : List X) → Distinct (map value xs) → holds v (map value xs) ≡ true → holds v (map value (picked mask j xs)) ≡ bit mask (j + place_of v (map value xs))
  holds_picked j [] d h = absurd (let l = ltb-true 0 0 h in omega arith)
  holds_picked j (x ∷ xs) d h = go (same_value (value x) v) refl (λ t. holds_picked (j + 1) xs (distinct_rest (value x) (map value xs) d) t)
    where
      go : (b : Bool) → same_value (value x) v ≡ b
          → (holds v (map value xs) ≡ true → holds v (map value (picked mask (j + 1) xs)) ≡ bit mask (j + 1 + place_of v (map value xs)))
          → holds v (map value (picked mask j (x ∷ xs))) ≡ bit mask (j + place_of v (map value (x ∷ xs)))
      go true e ih =
          let lacks = picked_lacks (j + 1) xs (distinct_lacks v (value x) (map value xs) d ((same_value_decides (value x) v).0 e)) in
          let at : j ≡ j + 0 = omega arith in
          holds_chosen (bit mask j) x (picked mask (j + 1) xs)
          ∙ cond_or_here (bit mask j) (same_value (value x) v) (holds v (map value (picked mask (j + 1) xs))) e lacks
          ∙ ap (bit mask) at
          ∙ ap (λ b. bit mask (j + cond (not b) (1 + place_of v (map value xs)) 0)) (sym e)
      go false e ih =
          let at : j + 1 + place_of v (map value xs) ≡ j + (1 + place_of v (map value xs)) = omega arith in
          holds_chosen (bit mask j) x (picked mask (j + 1) xs)
          ∙ cond_or_else (bit mask j) (same_value (value x) v) (holds v (map value (picked mask (j + 1) xs))) e
          ∙ ih (sym (holds_cons v (value x) (map value xs) ∙ ap (λ b. b || holds v (map value xs)) e) ∙ h)
          ∙ ap (bit mask) at
          ∙ ap (λ b. bit mask (j + cond (not b) (1 + place_of v (map value xs)) 0)) (sym e)
