-- The names that a mask picks, name by name. Assumes nothing.
use Rattle.std.proofs.Common.{◌≡◌, ℕ, suc, ◌+◌, ◌<◌, ◌≤◌, Bool, true, false, cond, List, [], ◌∷◌, ◌++◌, length, get_or, take, drop, set, sym, refl, ap, ◌∙◌, subst, arith}
use Rattle.std.proofs.lemmas.List.{length-append, length-take-le, take_more, take-append-drop, get_or_default, append-nil, length_push}
use Rattle.std.specs.List.{filter, range_with_len}
use Rattle.scenarios.specs.Masks.{bit}
use Rattle.views.specs.Groups.{picked}
use Rattle.views.proofs.Writing.{Put, put_more}

module _ {X : Type 0} (mask : ℕ) where
  cond_append : (b : Bool) (x : X) (us vs ws : List X) → us ≡ vs ++ ws → cond b (x ∷ us) us ≡ cond b (x ∷ vs) vs ++ ws
  cond_append true x us vs ws e = ap (λ l. x ∷ l) e
  cond_append false x us vs ws e = e

  picked_append : (j : ℕ) (xs ys : List X) → picked mask j (xs ++ ys) ≡ picked mask j xs ++ picked mask (j + length xs) ys
  picked_append j [] ys = let e : j ≡ j + 0 = omega arith in ap (λ k. picked mask k ys) e
  picked_append j (x ∷ xs) ys =
      let e : j + 1 + length xs ≡ j + suc (length xs) = omega arith in
      cond_append (bit mask j) x (picked mask (j + 1) (xs ++ ys)) (picked mask (j + 1) xs) (picked mask (j + suc (length xs)) ys)
      (picked_append (j + 1) xs ys ∙ ap (λ k. picked mask (j + 1) xs ++ picked mask k ys) e)

  picked_more : (xs : List X) (i : ℕ) (y : X) → i < length xs → y ≡ get_or xs i y
      → picked mask 0 (take (i + 1) xs) ≡ picked mask 0 (take i xs) ++ cond (bit mask i) (y ∷ []) []
  picked_more xs i y h r =
      let e : 0 + length (take i xs) ≡ i = omega (arith, length-take-le i xs (omega arith)) in
      ap (picked mask 0) (take_more xs i y h)
      ∙ ap (λ z. picked mask 0 (take i xs ++ (z ∷ []))) (sym r)
      ∙ picked_append 0 (take i xs) (y ∷ [])
      ∙ ap (λ k. picked mask 0 (take i xs) ++ cond (bit mask k) (y ∷ []) []) e

  -- the first names pick no more than all do
  picked_front : (xs : List X) (i : ℕ) → length (picked mask 0 (take i xs)) ≤ length (picked mask 0 xs)
  picked_front xs i =
      let e = ap (λ l. length (picked mask 0 l)) (take-append-drop i xs) in
      let f = ap length (picked_append 0 (take i xs) (drop i xs)) in
      let g = length-append (picked mask 0 (take i xs)) (picked mask (0 + length (take i xs)) (drop i xs)) in
      omega arith

  length_one : (b : Bool) (y : X) → length (cond b (y ∷ []) []) ≡ cond b 1 0
  length_one true y = refl
  length_one false y = refl

  -- there is a name at each place
  there : (xs : List X) (i : ℕ) → i < length xs → (y : X) × (y ≡ get_or xs i y)
  there [] i h = absurd (omega arith)
  there (x ∷ xs) i h = (get_or (x ∷ xs) i x, get_or_default (x ∷ xs) i x _ h)

  length_picked_more : (xs : List X) (i : ℕ) → i < length xs → length (picked mask 0 (take (i + 1) xs)) ≡ length (picked mask 0 (take i xs)) + cond (bit mask i) 1 0
  length_picked_more xs i h =
      let (y, r) = there xs i h in
      ap length (picked_more xs i y h r)
      ∙ length-append (picked mask 0 (take i xs)) (cond (bit mask i) (y ∷ []) [])
      ∙ ap (λ n. length (picked mask 0 (take i xs)) + n) (length_one (bit mask i) y)

  length_cond : (b : Bool) (k : ℕ) (x : X) (ns : List ℕ) (us : List X) → length ns ≡ length us → length (cond b (k ∷ ns) ns) ≡ length (cond b (x ∷ us) us)
  length_cond true k x ns us e = ap suc e
  length_cond false k x ns us e = e

  -- as many names are picked as places are in the mask
  pub length_picked : (j : ℕ) (xs : List X) → length (filter (bit mask) (range_with_len j (length xs))) ≡ length (picked mask j xs)
  length_picked j [] = refl
  length_picked j (x ∷ xs) = length_cond (bit mask j) j x _ _ (length_picked (j + 1) xs)

  -- a turn of the loop that writes
  module _ (xs ms ys : List X) (i next : ℕ) (below : i < length xs) (written : Put (picked mask 0 (take i xs)) ms next ys) where
    -- before a name that is picked, the group is not yet whole
    pub room : bit mask i ≡ true → length (picked mask 0 xs) ≤ length ms → length ms ≡ length ys → next < length ys
    room t h e =
        let front = picked_front xs (i + 1) in
        let more = length_picked_more xs i below ∙ ap (λ b. length (picked mask 0 (take i xs)) + cond b 1 0) t in
        let at = written.place in
        omega arith

    -- the name is written
    pub picked_here : (y : X) (next' : ℕ) (ys' : List X) → bit mask i ≡ true → y ≡ get_or xs i y → length (picked mask 0 xs) ≤ length ms
        → next' ≡ next + 1 → ys' ≡ set ys next y → Put (picked mask 0 (take (i + 1) xs)) ms next' ys'
    picked_here y next' ys' t r h e f =
        let more : picked mask 0 (take (i + 1) xs) ≡ picked mask 0 (take i xs) ++ (y ∷ []) =
        picked_more xs i y below r ∙ ap (λ b. picked mask 0 (take i xs) ++ cond b (y ∷ []) []) t in
        let front = picked_front xs (i + 1) in
        let one = ap length more ∙ length_push (picked mask 0 (take i xs)) y in
        let p = put_more (picked mask 0 (take i xs)) ms ys next y (omega arith) written in
        let P : List X → Type 0 = λ l. Put l ms next' ys' in
        subst P (sym more) (record { place = e ∙ p.place; written = f ∙ p.written })

    -- or passed over
    pub passed_here : (next' : ℕ) (ys' : List X) → bit mask i ≡ false → next' ≡ next → ys' ≡ ys → Put (picked mask 0 (take (i + 1) xs)) ms next' ys'
    passed_here next' ys' t e f =
        let (y, r) = there xs i below in
        let more : picked mask 0 (take (i + 1) xs) ≡ picked mask 0 (take i xs) =
        picked_more xs i y below r ∙ ap (λ b. picked mask 0 (take i xs) ++ cond b (y ∷ []) []) t ∙ append-nil _ in
        let P : List X → Type 0 = λ l. Put l ms next' ys' in
        subst P (sym more) (record { place = e ∙ written.place; written = f ∙ written.written })
