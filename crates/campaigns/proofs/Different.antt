-- Lists in which nothing stands twice.
use Rattle.std.proofs.Common.{◌≡◌, ℕ, zero, suc, ◌+◌, ◌<◌, ◌≢◌, List, [], ◌∷◌, ◌++◌, map, length, get_or, sym, refl, ap, ◌∙◌, subst, ⊎_elim, arith}
use Rattle.std.specs.List.{range_with_len, flat_map}
use Rattle.std.proofs.lemmas.List.{length-append, get_or_at}
use Rattle.scenarios.specs.Fits.{Among}
use Rattle.scenarios.proofs.Chains.{in_from_among, in_counting}
use Rattle.scenarios.proofs.Members.{among_here, among_more, among_append, map_among, joined_among}

abbrev pub Once : {X : Type 0} → List X → Type 0
Once [] = Unit {0}
Once (x ∷ xs) = (Among xs x → ⊥) × Once xs

-- places

module _ {X : Type 0} where
  pub among_getD : (xs : List X) (i : ℕ) (d : X) → i < length xs → Among xs (get_or xs i d)
  among_getD [] i d h = absurd (omega arith)
  among_getD (x ∷ xs) zero d h = among_here x xs
  among_getD (x ∷ xs) (suc i) d h = among_more x xs (get_or xs i d) (among_getD xs i d (omega arith))

  pub getD_among : (xs : List X) (x d : X) → Among xs x → (i : ℕ) × (i < length xs) × (get_or xs i d ≡ x)
  getD_among xs x d a =
      let l = ap length a.2 ∙ length-append a.0 (x ∷ a.1) in
      (length a.0, omega arith, ap (λ k. get_or k (length a.0) d) a.2 ∙ get_or_at a.0 x a.1 d (length a.0) refl)

  pub once_from_getD : (xs : List X) (d : X) → ((i j : ℕ) → i < j → j < length xs → get_or xs i d ≢ get_or xs j d) → Once xs
  once_from_getD [] d h = tt
  once_from_getD (x ∷ xs) d h = (
    λ a. let t = getD_among xs x d a in h 0 (suc t.0) (omega arith) (omega (arith, t.1)) (sym t.2),
    once_from_getD xs d (λ i j l m. h (suc i) (suc j) (omega arith) (omega arith)),
  )

  pub getD_once : (xs : List X) (i j : ℕ) (d : X) → Once xs → i < j → j < length xs → get_or xs i d ≢ get_or xs j d
  getD_once [] i j d o h l e = omega arith
  getD_once (x ∷ xs) zero zero d o h l e = omega arith
  getD_once (x ∷ xs) zero (suc j) d o h l e = o.0 (subst (Among xs) (sym e) (among_getD xs j d (omega arith)))
  getD_once (x ∷ xs) (suc i) zero d o h l e = omega arith
  getD_once (x ∷ xs) (suc i) (suc j) d o h l e = getD_once xs i j d o.1 (omega arith) (omega arith) e

  once_append : (xs ys : List X) → Once xs → Once ys → ((x : X) → Among xs x → Among ys x → ⊥) → Once (xs ++ ys)
  once_append [] ys o q h = q
  once_append (x ∷ xs) ys o q h = (
    λ a. ⊎_elim o.0 (h x (among_here x xs)) (among_append xs ys x a),
    once_append xs ys o.1 q (λ y a b. h y (among_more x xs y a) b),
  )

-- lists made of others

pub once_counting : (a n : ℕ) → Once (range_with_len a n)
once_counting a zero = tt
once_counting a (suc n) = (λ h. let t = in_counting (a + 1) n a (in_from_among (range_with_len (a + 1) n) a h) in omega (arith, t.0), once_counting (a + 1) n)

pub once_map : {X Y : Type 0} (f : X → Y) (xs : List X) → ((x y : X) → f x ≡ f y → x ≡ y) → Once xs → Once (map f xs)
once_map f [] h o = tt
once_map f (x ∷ xs) h o = (λ a. let t = map_among f xs (f x) a in o.0 (subst (Among xs) (h t.0 x t.2) t.1), once_map f xs h o.1)

pub once_joined : {X Y : Type 0} (f : X → List Y) (xs : List X) → ((x : X) → Once (f x)) → ((x y : X) (z : Y) → Among (f x) z → Among (f y) z → x ≡ y) → Once xs → Once (flat_map f xs)
once_joined f [] g h o = tt
once_joined f (x ∷ xs) g h o =
    once_append (f x) (flat_map f xs) (g x) (once_joined f xs g h o.1) (λ z a b. let t = joined_among f xs z b in o.0 (subst (Among xs) (h t.0 x z t.2 a) t.1))
