-- The step from a composition to the next, written out for one to four parts.
use Rattle.std.proofs.Common.{◌≡◌, ℕ, ◌+◌, ◌-◌, ◌<◌, min, Bool, true, false, cond, ltb, List, [], ◌∷◌, length, Some, None, Option, refl, arith}
use Rattle.std.proofs.lemmas.Bool.Decides.{nat_tests}
use Rattle.scenarios.specs.Cells.{total}
use Rattle.scenarios.specs.Steps.{first_parts, next_parts, next_composition}

-- what an option holds goes through f, and none becomes r
abbrev pub through : {X Y : Type 0} → (X → Y) → Option Y → Option X → Option Y
through f r None = r
through f r (Some x) = Some (f x)

pub through_cond : {X Y : Type 0} (f : X → Y) (r : Option Y) (t : Bool) (x : X) (o : Option X) → through f r (cond t (Some x) o) ≡ cond t (Some (f x)) (through f r o)
through_cond f r true x o = refl
through_cond f r false x o = refl

-- what follows where the parts behind p have no next, and where ps has none of as many parts
abbrev pub raised : ℕ → List ℕ → Option (List ℕ)
raised p ps = cond (ltb (length ps) (total ps)) (Some ((p + 1) ∷ first_parts (length ps) (total ps - 1))) None

abbrev pub grown : List ℕ → Option (List ℕ)
grown ps = cond (ltb (length ps) (min (total ps) 4)) (Some (first_parts (length ps + 1) (total ps))) None

pub next_parts_is : (p : ℕ) (ps : List ℕ) → next_parts (p ∷ ps) ≡ through (λ qs. p ∷ qs) (raised p ps) (next_parts ps)
next_parts_is p ps = go (next_parts ps)
  where
    go : (o : Option (List ℕ)) → elim o [ Some qs ↦ Some (p ∷ qs) | None ↦ raised p ps ] ≡ through (λ qs. p ∷ qs) (raised p ps) o
    go (Some qs) = refl
    go None = refl

pub next_composition_is : (ps : List ℕ) → next_composition ps ≡ through (λ qs. qs) (grown ps) (next_parts ps)
next_composition_is ps = go (next_parts ps)
  where
    go : (o : Option (List ℕ)) → elim o [ Some qs ↦ Some qs | None ↦ grown ps ] ≡ through (λ qs. qs) (grown ps) o
    go (Some qs) = refl
    go None = refl

pub next_parts_two : (a b : ℕ) → next_parts (a ∷ b ∷ []) ≡ cond (ltb 1 b) (Some ((a + 1) ∷ (b - 1) ∷ [])) None
next_parts_two a b = grind (arith, nat_tests)

pub next_parts_three : (a b c : ℕ) → 0 < c
    → next_parts (a ∷ b ∷ c ∷ []) ≡ cond (ltb 1 c) (Some (a ∷ (b + 1) ∷ (c - 1) ∷ [])) (cond (ltb 1 b) (Some ((a + 1) ∷ 1 ∷ (b - 1) ∷ [])) None)
next_parts_three a b c h = rw (next_parts_is a (b ∷ c ∷ []), next_parts_two b c, through_cond) (grind (arith, nat_tests))

pub next_parts_four : (a b c d : ℕ) → 0 < c → 0 < d
    → next_parts (a ∷ b ∷ c ∷ d ∷ [])
    ≡ cond (ltb 1 d) (Some (a ∷ b ∷ (c + 1) ∷ (d - 1) ∷ [])) (cond (ltb 1 c) (Some (a ∷ (b + 1) ∷ 1 ∷ (c - 1) ∷ [])) (cond (ltb 1 b) (Some ((a + 1) ∷ 1 ∷ 1 ∷ (b - 1) ∷ [])) None))
next_parts_four a b c d hc hd = rw (next_parts_is a (b ∷ c ∷ d ∷ []), next_parts_three b c d hd, through_cond, through_cond) (grind (arith, nat_tests))

pub next_composition_one : (a : ℕ) → next_composition (a ∷ []) ≡ cond (ltb 1 a) (Some (1 ∷ (a - 1) ∷ [])) None
next_composition_one a = grind (arith, nat_tests)

pub next_composition_two : (a b : ℕ) → 0 < b
    → next_composition (a ∷ b ∷ []) ≡ cond (ltb 1 b) (Some ((a + 1) ∷ (b - 1) ∷ [])) (cond (ltb 1 a) (Some (1 ∷ 1 ∷ (a - 1) ∷ [])) None)
next_composition_two a b h = rw (next_composition_is (a ∷ b ∷ []), next_parts_two a b, through_cond) (grind (arith, nat_tests))

pub next_composition_three : (a b c : ℕ) → 0 < b → 0 < c
    → next_composition (a ∷ b ∷ c ∷ [])
    ≡ cond (ltb 1 c) (Some (a ∷ (b + 1) ∷ (c - 1) ∷ [])) (cond (ltb 1 b) (Some ((a + 1) ∷ 1 ∷ (b - 1) ∷ [])) (cond (ltb 1 a) (Some (1 ∷ 1 ∷ 1 ∷ (a - 1) ∷ [])) None))
next_composition_three a b c hb hc = rw (next_composition_is (a ∷ b ∷ c ∷ []), next_parts_three a b c hc, through_cond, through_cond) (grind (arith, nat_tests))

pub next_composition_four : (a b c d : ℕ) → 0 < c → 0 < d
    → next_composition (a ∷ b ∷ c ∷ d ∷ [])
    ≡ cond (ltb 1 d) (Some (a ∷ b ∷ (c + 1) ∷ (d - 1) ∷ [])) (cond (ltb 1 c) (Some (a ∷ (b + 1) ∷ 1 ∷ (c - 1) ∷ [])) (cond (ltb 1 b) (Some ((a + 1) ∷ 1 ∷ 1 ∷ (b - 1) ∷ [])) None))
next_composition_four a b c d hc hd = rw (next_composition_is (a ∷ b ∷ c ∷ d ∷ []), next_parts_four a b c d hc hd, through_cond, through_cond, through_cond) (grind (arith, nat_tests))
