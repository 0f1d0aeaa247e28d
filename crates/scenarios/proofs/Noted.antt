-- Lists in order of arrival.
use Rattle.std.proofs.Common.{◌≡◌, ◌≤◌, Bool, true, false, ◌⊎◌, List, [], ◌∷◌, ◌++◌, length, Decides, sym, refl, ap, ◌∙◌, inl, inr, arith}
use Rattle.std.proofs.lemmas.List.{append_assoc, append-nil, length-append}
use Rattle.std.proofs.lemmas.Bool.{false≢true, cases_Bool, cond-true, cond-false}
use Rattle.std.proofs.lemmas.Bool.Decides.{Decides-or, Decides-like}
use Rattle.scenarios.specs.Fits.{Among}
use Rattle.scenarios.proofs.Members.{among_here, among_more, among_none, among_cases, among_append, among_append_left, among_append_right}
use Rattle.scenarios.specs.Counting.{member, note, noted}

-- the test tells whether two elements are equal
abbrev pub Tells : {X : Type 0} → (X → X → Bool) → Type 0
Tells {X} same = (x y : X) → Decides (same x y) (x ≡ y)

pub member_tells : {X : Type 0} (same : X → X → Bool) (tells : Tells same) (x : X) (xs : List X) → Decides (member same x xs) (Among xs x)
member_tells same tells x [] = ((λ e. absurd (false≢true e)), (λ a. absurd (among_none x a)))
member_tells same tells x (y ∷ ys) =
    Decides-like (member same x (y ∷ ys)) there (among_cases y ys x) (Decides-or (same y x) (member same x ys) (tells y x) (member_tells same tells x ys))
  where
    there : (y ≡ x) ⊎ Among ys x → Among (y ∷ ys) x
    there (inl e) = ([], ys, ap (λ z. z ∷ ys) e)
    there (inr a) = among_more y ys x a

-- what one more adds, and what many add

pub note_seen : {X : Type 0} (same : X → X → Bool) (seen : List X) (x : X) → member same x seen ≡ true → note same seen x ≡ seen
note_seen same seen x e = cond-true (member same x seen) seen (seen ++ (x ∷ [])) e

pub note_new : {X : Type 0} (same : X → X → Bool) (seen : List X) (x : X) → member same x seen ≡ false → note same seen x ≡ seen ++ (x ∷ [])
note_new same seen x e = cond-false (member same x seen) seen (seen ++ (x ∷ [])) e

pub noted_append : {X : Type 0} (same : X → X → Bool) (seen xs ys : List X) → noted same seen (xs ++ ys) ≡ noted same (noted same seen xs) ys
noted_append same seen [] ys = refl
noted_append same seen (x ∷ xs) ys = noted_append same (note same seen x) xs ys

pub note_extends : {X : Type 0} (same : X → X → Bool) (seen : List X) (x : X) → (more : List X) × (note same seen x ≡ seen ++ more)
note_extends {X} same seen x = go (cases_Bool (member same x seen))
  where
    go : (member same x seen ≡ true) ⊎ (member same x seen ≡ false) → (more : List X) × (note same seen x ≡ seen ++ more)
    go (inl e) = ([], note_seen same seen x e ∙ sym (append-nil seen))
    go (inr e) = (x ∷ [], note_new same seen x e)

pub noted_extends : {X : Type 0} (same : X → X → Bool) (seen xs : List X) → (more : List X) × (noted same seen xs ≡ seen ++ more)
noted_extends same seen [] = ([], sym (append-nil seen))
noted_extends same seen (x ∷ xs) =
    let a = note_extends same seen x in
    let b = noted_extends same (note same seen x) xs in
    (a.0 ++ b.0, b.1 ∙ ap (λ l. l ++ b.0) a.1 ∙ append_assoc seen a.0 b.0)

pub noted_longer : {X : Type 0} (same : X → X → Bool) (seen xs : List X) → length seen ≤ length (noted same seen xs)
noted_longer same seen xs =
    let a = noted_extends same seen xs in
    let e = ap length a.1 ∙ length-append seen a.0 in
    omega arith

-- what stands in them

pub note_among : {X : Type 0} (same : X → X → Bool) (seen : List X) (x y : X) → Among (note same seen x) y → Among seen y ⊎ (x ≡ y)
note_among same seen x y a = go (cases_Bool (member same x seen))
  where
    last : Among seen y ⊎ Among (x ∷ []) y → Among seen y ⊎ (x ≡ y)
    last (inl b) = inl b
    last (inr b) = only (among_cases x [] y b)
      where
        only : (x ≡ y) ⊎ Among [] y → Among seen y ⊎ (x ≡ y)
        only (inl e) = inr e
        only (inr c) = absurd (among_none y c)

    go : (member same x seen ≡ true) ⊎ (member same x seen ≡ false) → Among seen y ⊎ (x ≡ y)
    go (inl e) = inl (rw (note_seen same seen x e) at a)
    go (inr e) = last (among_append seen (x ∷ []) y (rw (note_new same seen x e) at a))

pub noted_among : {X : Type 0} (same : X → X → Bool) (seen xs : List X) (y : X) → Among (noted same seen xs) y → Among seen y ⊎ Among xs y
noted_among same seen [] y a = inl a
noted_among same seen (x ∷ xs) y a = go (noted_among same (note same seen x) xs y a)
  where
    first : Among seen y ⊎ (x ≡ y) → Among seen y ⊎ Among (x ∷ xs) y
    first (inl b) = inl b
    first (inr e) = inr ([], xs, ap (λ z. z ∷ xs) e)

    go : Among (note same seen x) y ⊎ Among xs y → Among seen y ⊎ Among (x ∷ xs) y
    go (inl b) = first (note_among same seen x y b)
    go (inr b) = inr (among_more x xs y b)

pub among_note : {X : Type 0} (same : X → X → Bool) (tells : Tells same) (seen : List X) (x : X) → Among (note same seen x) x
among_note same tells seen x = go (cases_Bool (member same x seen))
  where
    go : (member same x seen ≡ true) ⊎ (member same x seen ≡ false) → Among (note same seen x) x
    go (inl e) = rw (note_seen same seen x e) ((member_tells same tells x seen).0 e)
    go (inr e) = rw (note_new same seen x e) (among_append_right seen (x ∷ []) x (among_here x []))

pub among_noted_seen : {X : Type 0} (same : X → X → Bool) (seen xs : List X) (y : X) → Among seen y → Among (noted same seen xs) y
among_noted_seen same seen xs y a = let e = noted_extends same seen xs in rw e.1 (among_append_left seen e.0 y a)

pub among_noted : {X : Type 0} (same : X → X → Bool) (tells : Tells same) (seen xs : List X) (y : X) → Among xs y → Among (noted same seen xs) y
among_noted same tells seen [] y a = absurd (among_none y a)
among_noted same tells seen (x ∷ xs) y a = go (among_cases x xs y a) (among_noted same tells (note same seen x) xs y)
  where
    go : (x ≡ y) ⊎ Among xs y → (Among xs y → Among (noted same (note same seen x) xs) y) → Among (noted same (note same seen x) xs) y
    go (inl e) ih = among_noted_seen same (note same seen x) xs y (rw (← e) (among_note same tells seen x))
    go (inr b) ih = ih b
