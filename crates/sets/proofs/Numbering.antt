-- Numbers and the ways to take so many of each cell correspond one to one, in their order.
use Rattle.std.proofs.Common.{◌≡◌, ℕ, zero, suc, ◌+◌, ◌-◌, ◌<◌, ◌⊎◌, List, [], ◌∷◌, length, get_or, sym, refl, ap, ◌∙◌, subst, inl, inr, arith}
use Rattle.std.proofs.lemmas.Bool.{cases_order}
use Rattle.sets.specs.Sets.{amounts}
use Rattle.sets.specs.Claims.{Earlier}
use Rattle.sets.proofs.Totals.{total_counting_part}
use Rattle.sets.proofs.Amounts.{fewer, getD_amounts, amounts_below, Begins, amounts_begin}
use Rattle.sets.proofs.Bounds.{none_at_most, none_of_some}
use Rattle.sets.proofs.Firsts.{Takes}

-- no cells: one way, for no faults
none_taken : (f k : ℕ) → k < length (amounts [] f) → (f ≡ 0) × (k ≡ 0)
none_taken zero k h = (refl, let one = none_at_most 0 in omega arith)
none_taken (suc f) k h = absurd (let e = none_of_some (suc f) (omega arith) in omega arith)

pub amounts_take : (cs : List ℕ) (f k : ℕ) → k < length (amounts cs f) → Takes cs f (get_or (amounts cs f) k [])
amounts_take [] f k h =
    let e = none_taken f k h in
    let is : get_or (amounts [] f) k [] ≡ [] = ap (λ g. get_or (amounts [] g) k []) e.0 ∙ ap (λ j. get_or ([] ∷ []) j []) e.1 in
    subst (λ ts. Takes [] f ts) (sym is) e.0
amounts_take (c ∷ cs) f k h =
    let b = amounts_begin c cs f k h in
    subst (λ ts. Takes (c ∷ cs) f ts) (sym b.begins) (b.in_cell, b.in_all, amounts_take cs (f - b.taken) b.left b.left_below)

pub amounts_found : (cs : List ℕ) (f : ℕ) (ts : List ℕ) → Takes cs f ts → (k : ℕ) × (k < length (amounts cs f)) × (get_or (amounts cs f) k [] ≡ ts)
amounts_found [] f [] h = (0, subst (λ g. 0 < length (amounts [] g)) (sym h) (omega arith), ap (λ g. get_or (amounts [] g) 0 []) h)
amounts_found [] f (t ∷ ts) h = absurd h
amounts_found (c ∷ cs) f [] h = absurd h
amounts_found (c ∷ cs) f (t ∷ ts) h =
    let r = amounts_found cs (f - t) ts h.2 in
    (fewer cs f t + r.0, amounts_below c cs f t r.0 h.0 h.1 r.1, getD_amounts c cs f t r.0 h.0 h.1 r.1 ∙ ap (λ l. t ∷ l) r.2)

pub amounts_ordered : (cs : List ℕ) (f k j : ℕ) → k < j → j < length (amounts cs f) → Earlier (get_or (amounts cs f) k []) (get_or (amounts cs f) j [])
amounts_ordered [] f k j l h = absurd (let one = none_at_most f in omega arith)
amounts_ordered (c ∷ cs) f k j l h = go (amounts_begin c cs f k (omega arith)) (amounts_begin c cs f j h) (amounts_ordered cs)
  where
    go : (x : Begins c cs f k) (y : Begins c cs f j)
        → ((g a b : ℕ) → a < b → b < length (amounts cs g) → Earlier (get_or (amounts cs g) a []) (get_or (amounts cs g) b []))
        → Earlier (get_or (amounts (c ∷ cs) f) k []) (get_or (amounts (c ∷ cs) f) j [])
    go x y ih = subst (λ ts. Earlier ts (get_or (amounts (c ∷ cs) f) j [])) (sym x.begins) (subst (λ ts. Earlier (x.taken ∷ get_or (amounts cs (f - x.taken)) x.left []) ts) (sym y.begins) (order (cases_order x.taken y.taken)))
      where
        order : (x.taken ≡ y.taken) ⊎ ((x.taken < y.taken) ⊎ (y.taken < x.taken))
            → (x.taken < y.taken) ⊎ ((x.taken ≡ y.taken) × Earlier (get_or (amounts cs (f - x.taken)) x.left []) (get_or (amounts cs (f - y.taken)) y.left []))
        order (inr (inl a)) = inl a
        order (inr (inr a)) =
            let part = total_counting_part (λ u. length (amounts cs (f - u))) y.taken x.taken a in
            absurd (omega (arith, x.number_is, y.number_is, y.left_below))
        order (inl e) =
            let same = ap (fewer cs f) e in
            let lower : x.left < y.left = omega (arith, x.number_is, y.number_is) in
            let later = ih (f - y.taken) x.left y.left lower y.left_below in
            inr (e, subst (λ t. Earlier (get_or (amounts cs (f - t)) x.left []) (get_or (amounts cs (f - y.taken)) y.left [])) (sym e) later)

pub earlier_apart : (xs : List ℕ) → Earlier xs xs → ⊥
earlier_apart [] h = h
earlier_apart (x ∷ xs) (inl l) = omega arith
earlier_apart (x ∷ xs) (inr h) = earlier_apart xs h.1
