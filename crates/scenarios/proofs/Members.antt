-- What stands in a list.
use Rattle.std.proofs.Common.{◌≡◌, ◌⊎◌, List, [], ◌∷◌, ◌++◌, map, sym, refl, ap, ◌∙◌, inl, inr}
use Rattle.std.specs.List.{flat_map}
use Rattle.std.proofs.lemmas.List.{append_assoc, map-append}
use Rattle.scenarios.specs.Fits.{Among}
use Rattle.scenarios.proofs.Chains.{In, in_from_among, among_from_in, in_map, joined_in, in_joined}

pub among_here : {X : Type 0} (x : X) (xs : List X) → Among (x ∷ xs) x
among_here x xs = ([], xs, refl)

pub among_more : {X : Type 0} (y : X) (xs : List X) (x : X) → Among xs x → Among (y ∷ xs) x
among_more y xs x a = (y ∷ a.0, a.1, ap (λ l. y ∷ l) a.2)

pub among_none : {X : Type 0} (x : X) → Among [] x → ⊥
among_none x a = in_from_among [] x a

pub among_cases : {X : Type 0} (y : X) (ys : List X) (x : X) → Among (y ∷ ys) x → (y ≡ x) ⊎ Among ys x
among_cases y ys x a = go (in_from_among (y ∷ ys) x a)
  where
    go : (y ≡ x) ⊎ In ys x → (y ≡ x) ⊎ Among ys x
    go (inl e) = inl e
    go (inr h) = inr (among_from_in ys x h)

pub among_append_left : {X : Type 0} (xs ys : List X) (x : X) → Among xs x → Among (xs ++ ys) x
among_append_left xs ys x a = (a.0, a.1 ++ ys, ap (λ l. l ++ ys) a.2 ∙ append_assoc a.0 (x ∷ a.1) ys)

pub among_append_right : {X : Type 0} (xs ys : List X) (x : X) → Among ys x → Among (xs ++ ys) x
among_append_right xs ys x a = (xs ++ a.0, a.1, ap (λ l. xs ++ l) a.2 ∙ sym (append_assoc xs a.0 (x ∷ a.1)))

pub among_append : {X : Type 0} (xs ys : List X) (x : X) → Among (xs ++ ys) x → Among xs x ⊎ Among ys x
among_append [] ys x a = inr a
among_append {X} (y ∷ xs) ys x a = go (among_cases y (xs ++ ys) x a) (among_append xs ys x)
  where
    later : Among xs x ⊎ Among ys x → Among (y ∷ xs) x ⊎ Among ys x
    later (inl b) = inl (among_more y xs x b)
    later (inr b) = inr b

    go : (y ≡ x) ⊎ Among (xs ++ ys) x → (Among (xs ++ ys) x → Among xs x ⊎ Among ys x) → Among (y ∷ xs) x ⊎ Among ys x
    go (inl e) ih = inl ([], xs, ap (λ z. z ∷ xs) e)
    go (inr b) ih = later (ih b)

pub among_map : {X Y : Type 0} (f : X → Y) (xs : List X) (x : X) → Among xs x → Among (map f xs) (f x)
among_map f xs x a = (map f a.0, map f a.1, ap (map f) a.2 ∙ map-append f a.0 (x ∷ a.1))

pub map_among : {X Y : Type 0} (f : X → Y) (xs : List X) (y : Y) → Among (map f xs) y → (x : X) × Among xs x × (f x ≡ y)
map_among f xs y a = let r = in_map f xs y (in_from_among (map f xs) y a) in (r.0, among_from_in xs r.0 r.1, r.2)

pub among_joined : {X Y : Type 0} (f : X → List Y) (xs : List X) (x : X) (y : Y) → Among xs x → Among (f x) y → Among (flat_map f xs) y
among_joined f xs x y a b = among_from_in (flat_map f xs) y (joined_in f xs x y (in_from_among xs x a) (in_from_among (f x) y b))

pub joined_among : {X Y : Type 0} (f : X → List Y) (xs : List X) (y : Y) → Among (flat_map f xs) y → (x : X) × Among xs x × Among (f x) y
joined_among f xs y a =
    let r = in_joined f xs y (in_from_among (flat_map f xs) y a) in
    (r.0, among_from_in xs r.0 r.1, among_from_in (f r.0) y r.2)

pub joined_append : {X Y : Type 0} (f : X → List Y) (xs ys : List X) → flat_map f (xs ++ ys) ≡ flat_map f xs ++ flat_map f ys
joined_append f [] ys = refl
joined_append f (x ∷ xs) ys = ap (λ l. f x ++ l) (joined_append f xs ys) ∙ sym (append_assoc (f x) (flat_map f xs) (flat_map f ys))
