-- A search of the slots in use alone, and an addition after it.
use Rattle.std.proofs.Common.{◌≡◌, ℕ, ◌<◌, ◌≤◌, min, true, false, List, length, take, set, is_some, Some, None, Option, Ok, Err, sym, refl, ap, subst, arith}
use Rattle.std.proofs.lemmas.List.{length-take-le, get_or-take}
use Rattle.table.specs.declared.NotAdded.TheVariants.{There, Full}
use Rattle.table.specs.Places.{Place, AddedAs}

-- what is found among the first n of the slots is what is found in the slots in use, which these are
module _ {E : Type 0} (P : E → Type 0) (len n : ℕ) (xs : List E) (e : n ≡ min len (length xs)) where
  fits : length (take n xs) ≡ n
  fits = length-take-le n xs (omega (arith, e))

  pub in_front : (r : Option ℕ) → Place P (take n xs) (length (take n xs)) r → Place P xs (min len (length xs)) r
  in_front None f = λ i d a b p. f i d a (omega (arith, e, fits)) (subst P (sym (get_or-take n xs i d (omega (arith, e)))) p)
  in_front (Some i) f =
      let b : i < n = omega (arith, f.0, fits) in (
        omega (arith, e),
        λ d. subst P (get_or-take n xs i d b) (f.1 d),
        λ j d a c p. f.2 j d a c (subst P (sym (get_or-take n xs j d (omega arith))) p),
      )

  -- what adding an entry x does where that search has found o
  module _ (x : E) (o : Option ℕ) (f : Place P (take n xs) (length (take n xs)) o) where
    pub added_there : is_some o ≡ true → AddedAs P x xs (min len (length xs)) (Err There) xs
    added_there s = go o s f
      where
        go : (r : Option ℕ) → is_some r ≡ true → Place P (take n xs) (length (take n xs)) r → AddedAs P x xs (min len (length xs)) (Err There) xs
        go None s f = cc
        go (Some i) s f = ((i, in_front (Some i) f), refl)

    missed : is_some o ≡ false → Place P xs (min len (length xs)) None
    missed s = go o s f
      where
        go : (r : Option ℕ) → is_some r ≡ false → Place P (take n xs) (length (take n xs)) r → Place P xs (min len (length xs)) None
        go None s f = in_front None f
        go (Some i) s f = cc

    pub added_full : is_some o ≡ false → length xs ≤ len → AddedAs P x xs (min len (length xs)) (Err Full) xs
    added_full s h = ((omega arith), missed s, refl)

    pub added_at : is_some o ≡ false → len < length xs → AddedAs P x xs (min len (length xs)) (Ok len) (set xs len x)
    added_at s h =
        let q : len ≡ min len (length xs) = omega arith in
        (q, (omega arith), missed s, ap (λ k. set xs k x) q)
