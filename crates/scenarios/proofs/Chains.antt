-- Lists in which a step leads from each element to the next, and membership in lists that are joined of others.
use Rattle.std.proofs.Common.{◌≡◌, ℕ, zero, suc, ◌+◌, ◌<◌, ◌≤◌, ◌⊎◌, List, [], ◌∷◌, ◌++◌, map, Some, None, Option, sym, refl, ap, ◌∙◌, subst, inl, inr, arith}
use Rattle.std.specs.List.{range_with_len, flat_map}
use Rattle.std.proofs.lemmas.List.{append_cancel_right}
use Rattle.std.proofs.lemmas.Bool.{cases_eq}
use Rattle.scenarios.specs.Fits.{Among}
use Rattle.scenarios.specs.Steps.{first_of}
use Rattle.scenarios.proofs.Composing.{through}

-- membership by recursion

abbrev pub In : {X : Type 0} → List X → X → Type 0
In [] x = ⊥
In (y ∷ ys) x = (y ≡ x) ⊎ In ys x

in_middle : {X : Type 0} (b r : List X) (x : X) → In (b ++ (x ∷ r)) x
in_middle [] r x = inl refl
in_middle (y ∷ b) r x = inr (in_middle b r x)

pub in_from_among : {X : Type 0} (xs : List X) (x : X) → Among xs x → In xs x
in_from_among xs x a = subst (λ l. In l x) (sym a.2) (in_middle a.0 a.1 x)

pub among_from_in : {X : Type 0} (xs : List X) (x : X) → In xs x → Among xs x
among_from_in [] x h = absurd h
among_from_in (y ∷ ys) x (inl e) = ([], ys, ap (λ z. z ∷ ys) e)
among_from_in (y ∷ ys) x (inr h) = let a = among_from_in ys x h in (y ∷ a.0, a.1, ap (λ l. y ∷ l) a.2)

append_in_left : {X : Type 0} (xs ys : List X) (x : X) → In xs x → In (xs ++ ys) x
append_in_left [] ys x h = absurd h
append_in_left (y ∷ xs) ys x (inl e) = inl e
append_in_left (y ∷ xs) ys x (inr h) = inr (append_in_left xs ys x h)

append_in_right : {X : Type 0} (xs ys : List X) (x : X) → In ys x → In (xs ++ ys) x
append_in_right [] ys x h = h
append_in_right (y ∷ xs) ys x h = inr (append_in_right xs ys x h)

in_append : {X : Type 0} (xs ys : List X) (x : X) → In (xs ++ ys) x → In xs x ⊎ In ys x
in_append [] ys x h = inr h
in_append (y ∷ xs) ys x (inl e) = inl (inl e)
in_append (y ∷ xs) ys x (inr h) = go (in_append xs ys x h)
  where
    go : In xs x ⊎ In ys x → ((y ≡ x) ⊎ In xs x) ⊎ In ys x
    go (inl k) = inl (inr k)
    go (inr k) = inr k

pub map_in : {X Y : Type 0} (g : X → Y) (xs : List X) (x : X) → In xs x → In (map g xs) (g x)
map_in g [] x h = absurd h
map_in g (y ∷ ys) x (inl e) = inl (ap g e)
map_in g (y ∷ ys) x (inr h) = inr (map_in g ys x h)

pub in_map : {X Y : Type 0} (g : X → Y) (xs : List X) (y : Y) → In (map g xs) y → (x : X) × In xs x × (g x ≡ y)
in_map g [] y h = absurd h
in_map g (x ∷ xs) y (inl e) = (x, inl refl, e)
in_map g (x ∷ xs) y (inr h) = let t = in_map g xs y h in (t.0, inr t.1, t.2)

pub joined_in : {X Y : Type 0} (F : X → List Y) (xs : List X) (x : X) (y : Y) → In xs x → In (F x) y → In (flat_map F xs) y
joined_in F [] x y h k = absurd h
joined_in F (z ∷ xs) x y (inl e) k = append_in_left (F z) (flat_map F xs) y (subst (λ v. In (F v) y) (sym e) k)
joined_in F (z ∷ xs) x y (inr h) k = append_in_right (F z) (flat_map F xs) y (joined_in F xs x y h k)

pub in_joined : {X Y : Type 0} (F : X → List Y) (xs : List X) (y : Y) → In (flat_map F xs) y → (x : X) × In xs x × In (F x) y
in_joined F [] y h = absurd h
in_joined {X = X} F (x ∷ xs) y h = go (in_joined F xs y) (in_append (F x) (flat_map F xs) y h)
  where
    go : (In (flat_map F xs) y → (z : X) × In xs z × In (F z) y) → In (F x) y ⊎ In (flat_map F xs) y → (z : X) × ((x ≡ z) ⊎ In xs z) × In (F z) y
    go ih (inl k) = (x, inl refl, k)
    go ih (inr k) = let t = ih k in (t.0, inr t.1, t.2)

pub in_counting : (a n i : ℕ) → In (range_with_len a n) i → (a ≤ i) × (i < a + n)
in_counting a zero i h = absurd h
in_counting a (suc n) i (inl e) = (omega arith, omega arith)
in_counting a (suc n) i (inr h) = let t = in_counting (a + 1) n i h in (omega arith, omega arith)

pub counting_in : (a n i : ℕ) → a ≤ i → i < a + n → In (range_with_len a n) i
counting_in a zero i h k = absurd (omega arith)
counting_in a (suc n) i h k = go (λ e. counting_in (a + 1) n i (omega (arith, e)) (omega arith)) (cases_eq a i)
  where
    go : ((a ≡ i → ⊥) → In (range_with_len (a + 1) n) i) → (a ≡ i) ⊎ (a ≡ i → ⊥) → (a ≡ i) ⊎ In (range_with_len (a + 1) n) i
    go ih (inl e) = inl e
    go ih (inr e) = inr (ih e)

-- the first element, or o of the empty list

abbrev pub first_or : {X : Type 0} → List X → Option X → Option X
first_or [] o = o
first_or (x ∷ xs) o = Some x

pub first_or_none : {X : Type 0} (xs : List X) → first_or xs None ≡ first_of xs
first_or_none [] = refl
first_or_none (x ∷ xs) = refl

pub first_or_some : {X : Type 0} (xs : List X) (x : X) (o : Option X) → first_or xs None ≡ Some x → first_or xs o ≡ Some x
first_or_some [] x o e = absurd (let z : ◌≡◌ {A = ℕ} 0 1 = cc in omega arith)
first_or_some (y ∷ xs) x o e = e

pub first_map : {X Y : Type 0} (g : X → Y) (xs : List X) (o : Option Y) → first_or (map g xs) o ≡ through g o (first_or xs None)
first_map g [] o = refl
first_map g (x ∷ xs) o = refl

first_append : {X : Type 0} (xs ys : List X) (o : Option X) → first_or (xs ++ ys) o ≡ first_or xs (first_or ys o)
first_append [] ys o = refl
first_append (x ∷ xs) ys o = refl

first_counting : (a n : ℕ) → first_or (range_with_len a n) (Some (a + n)) ≡ Some a
first_counting a zero = let e : a + 0 ≡ a = omega arith in ap Some e
first_counting a (suc n) = refl

-- next leads from each element to the one behind it, and from the last to o

abbrev pub Chain : {X : Type 0} → (X → Option X) → List X → Option X → Type 0
Chain next [] o = Unit {0}
Chain next (x ∷ xs) o = (next x ≡ first_or xs o) × Chain next xs o

-- a chain of xs to o that begins with f
abbrev pub Walk : {X : Type 0} → (X → Option X) → List X → Option X → Option X → Type 0
Walk next xs o f = Chain next xs o × (first_or xs o ≡ f)

chain_append : {X : Type 0} (next : X → Option X) (xs ys : List X) (o : Option X) → Chain next xs (first_or ys o) → Chain next ys o → Chain next (xs ++ ys) o
chain_append next [] ys o c d = d
chain_append next (x ∷ xs) ys o c d = (c.0 ∙ sym (first_append xs ys o), chain_append next xs ys o c.1 d)

chain_behind : {X : Type 0} (next : X → Option X) (b ys : List X) (o : Option X) → Chain next (b ++ ys) o → Chain next ys o
chain_behind next [] ys o c = c
chain_behind next (x ∷ b) ys o c = chain_behind next b ys o c.1

chain_counting : (a n : ℕ) → Chain (λ i. Some (i + 1)) (range_with_len a n) (Some (a + n))
chain_counting a zero = tt
chain_counting a (suc n) =
    let e : a + suc n ≡ (a + 1) + n = omega arith in
    rw e (sym (first_counting (a + 1) n), chain_counting (a + 1) n)

pub chain_map : {X Y : Type 0} (g : X → Y) (next : X → Option X) (next' : Y → Option Y) (o : Option Y) (xs : List X)
    → ((x : X) → In xs x → next' (g x) ≡ through g o (next x)) → Chain next xs None → Chain next' (map g xs) o
chain_map g next next' o [] h c = tt
chain_map g next next' o (x ∷ xs) h c =
    (h x (inl refl) ∙ ap (through g o) c.0 ∙ sym (first_map g xs o), chain_map g next next' o xs (λ y k. h y (inr k)) c.1)

-- f says where the lists from an element on begin
pub walk_joined : {X Y : Type 0} (next : X → Option X) (next' : Y → Option Y) (F : X → List Y) (f : Option X → Option Y) (e : Option X) (xs : List X)
    → ((x : X) → In xs x → Walk next' (F x) (f (next x)) (f (Some x))) → Chain next xs e → Walk next' (flat_map F xs) (f e) (f (first_or xs e))
walk_joined next next' F f e [] h c = (tt, refl)
walk_joined next next' F f e (x ∷ xs) h c =
    let ih = walk_joined next next' F f e xs (λ y k. h y (inr k)) c.1 in
    let same = ih.1 ∙ ap f (sym c.0) in
    let w = h x (inl refl) in (
      chain_append next' (F x) (flat_map F xs) (f e) (subst (Chain next' (F x)) (sym same) w.0) ih.0,
      first_append (F x) (flat_map F xs) (f e) ∙ ap (first_or (F x)) same ∙ w.1,
    )

pub walk_counting : {Y : Type 0} (next : Y → Option Y) (F : ℕ → List Y) (f : ℕ → Option Y) (a n : ℕ)
    → ((i : ℕ) → a ≤ i → i < a + n → Walk next (F i) (f (i + 1)) (f i)) → f (a + n) ≡ None → Walk next (flat_map F (range_with_len a n)) None (f a)
walk_counting {Y = Y} next F f a n h e =
    let w = walk_joined (λ i. Some (i + 1)) next F at (Some (a + n)) (range_with_len a n) (λ i k. let t = in_counting a n i k in h i t.0 t.1) (chain_counting a n) in
    subst (λ o. Walk next (flat_map F (range_with_len a n)) o (f a)) e (subst (λ o. Walk next (flat_map F (range_with_len a n)) (f (a + n)) (at o)) (first_counting a n) w)
  where
    at : Option ℕ → Option Y
    at None = None
    at (Some i) = f i

-- what a chain to the end says

pub first_in : {X : Type 0} (xs : List X) (x : X) → first_or xs None ≡ Some x → In xs x
first_in [] x e = absurd (let z : ◌≡◌ {A = ℕ} 0 1 = cc in omega arith)
first_in (y ∷ xs) x e = inl (cc)

pub chain_next_in : {X : Type 0} (next : X → Option X) (xs : List X) (x y : X) → Chain next xs None → In xs x → next x ≡ Some y → In xs y
chain_next_in next [] x y c h e = absurd h
chain_next_in next (z ∷ xs) x y c (inl q) e = inr (first_in xs y (sym c.0 ∙ ap next q ∙ e))
chain_next_in next (z ∷ xs) x y c (inr h) e = inr (chain_next_in next xs x y c.1 h e)

chain_from : {X : Type 0} (next : X → Option X) (xs b ys : List X) → Chain next xs None → xs ≡ b ++ ys → Chain next ys None
chain_from next xs b ys c e = chain_behind next b ys None (subst (λ l. Chain next l None) e c)

pub chain_walks : {X : Type 0} (next : X → Option X) (xs b r : List X) (x : X) → Chain next xs None → xs ≡ b ++ (x ∷ r) → next x ≡ first_of r
chain_walks next xs b r x c e = (chain_from next xs b (x ∷ r) c e).0 ∙ first_or_none r

same_chain : {X : Type 0} (next : X → Option X) (xs ys : List X) → Chain next xs None → Chain next ys None → first_or xs None ≡ first_or ys None → xs ≡ ys
same_chain next [] [] c d e = refl
same_chain next [] (y ∷ ys) c d e = absurd (let z : ◌≡◌ {A = ℕ} 0 1 = cc in omega arith)
same_chain next (x ∷ xs) [] c d e = absurd (let z : ◌≡◌ {A = ℕ} 0 1 = cc in omega arith)
same_chain next (x ∷ xs) (y ∷ ys) c d e =
    let q : x ≡ y = cc in
    let r = same_chain next xs ys c.1 d.1 (sym c.0 ∙ ap next q ∙ d.0) in
    cc

pub chain_apart : {X : Type 0} (next : X → Option X) (xs : List X) (x : X) (b r b' r' : List X) → Chain next xs None
    → xs ≡ b ++ (x ∷ r) → xs ≡ b' ++ (x ∷ r') → (b ≡ b') × (r ≡ r')
chain_apart next xs x b r b' r' c e e' =
    let same : x ∷ r ≡ x ∷ r' = same_chain next (x ∷ r) (x ∷ r') (chain_from next xs b (x ∷ r) c e) (chain_from next xs b' (x ∷ r') c e') refl in
    (append_cancel_right b b' (x ∷ r) (sym e ∙ e' ∙ ap (λ l. b' ++ l) (sym same)), cc)
