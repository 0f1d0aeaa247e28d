-- The word of one cell: parts with strictly rising letters spell the words that rise, each in one way. Assumes nothing.
use Rattle.std.proofs.Common.{◌≡◌, ℕ, zero, suc, ◌+◌, ◌-◌, ◌<◌, ◌≤◌, true, ◌&&◌, eqb, ◌≢◌, ◌⊎◌, List, [], ◌∷◌, ◌++◌, length, get_or, replicate, sym, refl, ap, ◌∙◌, inl, inr, add-one, arith}
use Rattle.std.specs.List.{AllByRecursion}
use Rattle.std.proofs.lemmas.Bool.{cases_lt, cases_eq, cases_order, lt-ltb, le-ltb, ltb-true, eq-eqb, ne_eqb}
use Rattle.std.proofs.lemmas.List.{append_assoc, append_cancel_left, length-append, length-replicate, get_or-replicate, get_or_append_left, get_or-append_right}
use Rattle.scenarios.specs.Cells.{total, inner}
use Rattle.scenarios.specs.Turns.{spell}
use Rattle.scenarios.proofs.Choosing.{Upwards}
use Rattle.scenarios.proofs.Parting.{inner_below, inner_above, inner_past, inner_one, Lays}

pub length_spell : (ps xs : List ℕ) → length ps ≡ length xs → length (spell ps xs) ≡ total ps
length_spell [] xs e = refl
length_spell (p ∷ ps) [] e = absurd (omega arith)
length_spell (p ∷ ps) (x ∷ xs) e = let h = length_spell ps xs (omega arith) in omega (arith, length-append (replicate p x) (spell ps xs), length-replicate p x)

pub spell_append : (ps qs xs ys : List ℕ) → length ps ≡ length xs → spell (ps ++ qs) (xs ++ ys) ≡ spell ps xs ++ spell qs ys
spell_append [] qs [] ys e = refl
spell_append [] qs (x ∷ xs) ys e = absurd (omega arith)
spell_append (p ∷ ps) qs [] ys e = absurd (omega arith)
spell_append (p ∷ ps) qs (x ∷ xs) ys e = ap (λ w. replicate p x ++ w) (spell_append ps qs xs ys (omega arith)) ∙ sym (append_assoc (replicate p x) (spell ps xs) (spell qs ys))

-- rising letters from low on and below high
abbrev pub Climbs : ℕ → ℕ → List ℕ → Type 0
Climbs low high [] = Unit {0}
Climbs low high (x ∷ w) = (low ≤ x) × (x < high) × Climbs x high w

pub climbs_lower : (low low' high : ℕ) (w : List ℕ) → low ≤ low' → Climbs low' high w → Climbs low high w
climbs_lower low low' high [] h c = tt
climbs_lower low low' high (x ∷ w) h c = (omega arith, c.1, c.2)

pub climbs_run : (p low high x : ℕ) (w : List ℕ) → low ≤ x → x < high → Climbs x high w → Climbs low high (replicate p x ++ w)
climbs_run zero low high x w a b c = climbs_lower low x high w a c
climbs_run (suc p) low high x w a b c = (a, b, climbs_run p x high x w (omega arith) b c)

pub spell_climbs : (low high : ℕ) (ps xs : List ℕ) → Upwards low high xs → Climbs low high (spell ps xs)
spell_climbs low high [] xs u = tt
spell_climbs low high (p ∷ ps) [] u = tt
spell_climbs low high (p ∷ ps) (x ∷ xs) u = climbs_run p low high x (spell ps xs) u.0 u.1 (climbs_lower x (suc x) high (spell ps xs) (omega arith) (spell_climbs (suc x) high ps xs u.2))

pub climbs_first : (low high : ℕ) (w : List ℕ) → Climbs low high w → 0 < length w → low ≤ get_or w 0 0
climbs_first low high [] c h = absurd (omega arith)
climbs_first low high (x ∷ w) c h = c.0

pub climbs_next : (low high : ℕ) (w : List ℕ) → Climbs low high w → (j : ℕ) → suc j < length w → get_or w j 0 ≤ get_or w (suc j) 0
climbs_next low high [] c j h = absurd (omega arith)
climbs_next low high (x ∷ w) c zero h = climbs_first x high w c.2 (omega arith)
climbs_next low high (x ∷ w) c (suc j) h = climbs_next x high w c.2 j (omega arith)

pub climbs_below : (low high : ℕ) (w : List ℕ) → Climbs low high w → AllByRecursion (λ x. x < high) w
climbs_below low high [] c = tt
climbs_below low high (x ∷ w) c = (c.1, climbs_below x high w c.2)

pub climbs_from : (low high : ℕ) (w : List ℕ) → (0 < length w → low ≤ get_or w 0 0) → AllByRecursion (λ x. x < high) w → ((j : ℕ) → suc j < length w → get_or w j 0 ≤ get_or w (suc j) 0) → Climbs low high w
climbs_from low high [] f b n = tt
climbs_from low high (x ∷ w) f b n = (f (omega arith), b.0, climbs_from x high w (λ h. n 0 (omega arith)) b.1 (λ j h. n (suc j) (omega arith)))

pub run_left : (p x j : ℕ) (w : List ℕ) → j < p → get_or (replicate p x ++ w) j 0 ≡ x
run_left p x j w l = get_or_append_left (replicate p x) w 0 j (omega (arith, length-replicate p x)) ∙ get_or-replicate p j x 0 l

pub run_right : (p x j k : ℕ) (w : List ℕ) → p + k ≡ j → get_or (replicate p x ++ w) j 0 ≡ get_or w k 0
run_right p x j k w q = get_or-append_right (replicate p x) w p j 0 (length-replicate p x) (omega arith) ∙ ap (λ n. get_or w n 0) (let z : j - p ≡ k = omega arith in z)

-- within a part the letters are equal, and between parts they differ
pub inner_spell : (low high : ℕ) (ps xs : List ℕ) → AllByRecursion (λ p. 0 < p) ps → length ps ≡ length xs → Upwards low high xs → (i : ℕ) → suc i < total ps → inner ps i ≡ eqb (get_or (spell ps xs) i 0) (get_or (spell ps xs) (suc i) 0)
inner_spell low high [] xs f e u i h = absurd (omega arith)
inner_spell low high (p ∷ ps) [] f e u i h = absurd (omega arith)
inner_spell low high (p ∷ ps) (x ∷ xs) f e u i h = go (λ l. inner_spell (suc x) high ps xs f.1 (omega arith) u.2 (i - p) (omega (arith, l))) (cases_order (suc i) p)
  where
    more : suc i ≡ p → suc x ≤ get_or (spell ps xs) 0 0
    more q = climbs_first (suc x) high (spell ps xs) (spell_climbs (suc x) high ps xs u.2) (omega (arith, length_spell ps xs (omega arith)))

    go : (p ≤ i → inner ps (i - p) ≡ eqb (get_or (spell ps xs) (i - p) 0) (get_or (spell ps xs) (suc (i - p)) 0)) → (suc i ≡ p) ⊎ ((suc i < p) ⊎ (p < suc i))
        → inner (p ∷ ps) i ≡ eqb (get_or (replicate p x ++ spell ps xs) i 0) (get_or (replicate p x ++ spell ps xs) (suc i) 0)
    go ih (inl q) =
        let m = more q in
        let a = run_left p x i (spell ps xs) (omega arith) in
        let b = run_right p x (suc i) 0 (spell ps xs) (omega arith) in
        inner_below p ps i (omega arith) ∙ le-ltb (i + 1) p (omega arith) ∙ sym (ne_eqb _ _ (λ z. omega arith))
    go ih (inr (inl q)) = inner_below p ps i (omega arith) ∙ lt-ltb (i + 1) p (omega arith) ∙ sym (eq-eqb _ _ (run_left p x i (spell ps xs) (omega arith) ∙ sym (run_left p x (suc i) (spell ps xs) q)))
    go ih (inr (inr q)) = inner_above p ps i (omega arith) ∙ ih (omega arith) ∙ sym (rw (run_right p x i (i - p) (spell ps xs) (omega arith), run_right p x (suc i) (suc (i - p)) (spell ps xs) (omega arith)))

pub spell_lays : (low high c : ℕ) (ps xs : List ℕ) → AllByRecursion (λ p. 0 < p) ps → length ps ≡ length xs → Upwards low high xs → total ps ≡ c → Lays (c ∷ []) ps (spell ps xs)
spell_lays low high c ps xs f e u t = record { filled = f; whole = omega arith; long = omega (arith, length_spell ps xs e); rises = rises; parts = λ j. parts j (cases_lt (j + 1) c) }
  where
    rises : (j : ℕ) → inner (c ∷ []) j ≡ true → get_or (spell ps xs) j 0 ≤ get_or (spell ps xs) (j + 1) 0
    rises j h = rw add-one (climbs_next low high (spell ps xs) (spell_climbs low high ps xs u) j (omega (arith, length_spell ps xs e, ltb-true (j + 1) c (sym (inner_one c j) ∙ h))))

    parts : (j : ℕ) → (j + 1 < c) ⊎ (c ≤ j + 1) → inner ps j ≡ (inner (c ∷ []) j && eqb (get_or (spell ps xs) j 0) (get_or (spell ps xs) (j + 1) 0))
    parts j (inl l) = rw (inner_one c j, lt-ltb (j + 1) c l, add-one) (inner_spell low high ps xs f e u j (omega arith))
    parts j (inr l) = rw (inner_one c j, le-ltb (j + 1) c l) (inner_past ps j (omega arith))

-- a word that rises, as parts with their letters
pub record Runs (low high : ℕ) (w : List ℕ) : Type 0 where
  pub sizes : List ℕ
  pub heads : List ℕ
  pub filled : AllByRecursion (λ p. 0 < p) sizes
  pub even : length sizes ≡ length heads
  pub upwards : Upwards low high heads
  pub spells : spell sizes heads ≡ w

one_more : (low high x : ℕ) (w : List ℕ) → low ≤ x → x < high → (ps xs : List ℕ) → AllByRecursion (λ p. 0 < p) ps → length ps ≡ length xs → Upwards x high xs → spell ps xs ≡ w → Runs low high (x ∷ w)
one_more low high x w a b [] [] f e u s = record { sizes = 1 ∷ []; heads = x ∷ []; filled = (omega arith, tt); even = refl; upwards = (a, b, tt); spells = ap (λ v. x ∷ v) s }
one_more low high x w a b [] (y ∷ ys) f e u s = absurd (omega arith)
one_more low high x w a b (p ∷ ps) [] f e u s = absurd (omega arith)
one_more low high x w a b (p ∷ ps) (y ∷ ys) f e u s = go (cases_eq x y)
  where
    go : (x ≡ y) ⊎ (x ≢ y) → Runs low high (x ∷ w)
    go (inl q) = record { sizes = suc p ∷ ps; heads = y ∷ ys; filled = (omega arith, f.1); even = e; upwards = (omega arith, u.1, u.2); spells = cc }
    go (inr q) = record { sizes = 1 ∷ p ∷ ps; heads = x ∷ y ∷ ys; filled = (omega arith, f); even = ap suc e; upwards = (a, b, (omega arith, u.1, u.2)); spells = ap (λ v. x ∷ v) s }

pub runs : (low high : ℕ) (w : List ℕ) → Climbs low high w → Runs low high w
runs low high [] c = record { sizes = []; heads = []; filled = tt; even = refl; upwards = tt; spells = refl }
runs low high (x ∷ w) c = let r = runs x high w c.2 in one_more low high x w c.0 c.1 r.sizes r.heads r.filled r.even r.upwards r.spells

-- a run ends where greater letters follow
no_longer : (p p' x x' : ℕ) (w w' : List ℕ) → 0 < p → (0 < length w → x < get_or w 0 0) → replicate p x ++ w ≡ replicate p' x' ++ w' → p < p' → ⊥
no_longer p p' x x' w w' pos up e l =
    let n = ap length e in
    let a = length-append (replicate p x) w in
    let b = length-append (replicate p' x') w' in
    let c = length-replicate p x in
    let d = length-replicate p' x' in
    let first : x ≡ x' = sym (run_left p x 0 w pos) ∙ ap (λ v. get_or v 0 0) e ∙ run_left p' x' 0 w' (omega arith) in
    let next : get_or w 0 0 ≡ x' = sym (run_right p x p 0 w (omega arith)) ∙ ap (λ v. get_or v p 0) e ∙ run_left p' x' p w' l in
    let g = up (omega arith) in
    omega arith

pub spell_apart : (low low' high : ℕ) (ps ps' xs xs' : List ℕ) → AllByRecursion (λ p. 0 < p) ps → AllByRecursion (λ p. 0 < p) ps' → length ps ≡ length xs → length ps' ≡ length xs'
    → Upwards low high xs → Upwards low' high xs' → spell ps xs ≡ spell ps' xs' → (ps ≡ ps') × (xs ≡ xs')
spell_apart low low' high [] [] [] [] f f' e e' u u' s = (refl, refl)
spell_apart low low' high [] [] [] (x' ∷ xs') f f' e e' u u' s = absurd (omega arith)
spell_apart low low' high [] [] (x ∷ xs) xs' f f' e e' u u' s = absurd (omega arith)
spell_apart low low' high [] (p' ∷ ps') xs xs' f f' e e' u u' s = absurd (omega (arith, length_spell (p' ∷ ps') xs' e', ap length s))
spell_apart low low' high (p ∷ ps) [] xs xs' f f' e e' u u' s = absurd (omega (arith, length_spell (p ∷ ps) xs e, ap length s))
spell_apart low low' high (p ∷ ps) (p' ∷ ps') [] xs' f f' e e' u u' s = absurd (omega arith)
spell_apart low low' high (p ∷ ps) (p' ∷ ps') (x ∷ xs) [] f f' e e' u u' s = absurd (omega arith)
spell_apart low low' high (p ∷ ps) (p' ∷ ps') (x ∷ xs) (x' ∷ xs') f f' e e' u u' s =
    go (spell_apart (suc x) (suc x') high ps ps' xs xs' f.1 f'.1 (omega arith) (omega arith) u.2 u'.2) (cases_order p p')
  where
    up : 0 < length (spell ps xs) → x < get_or (spell ps xs) 0 0
    up = climbs_first (suc x) high (spell ps xs) (spell_climbs (suc x) high ps xs u.2)

    up' : 0 < length (spell ps' xs') → x' < get_or (spell ps' xs') 0 0
    up' = climbs_first (suc x') high (spell ps' xs') (spell_climbs (suc x') high ps' xs' u'.2)

    first : x ≡ x'
    first = sym (run_left p x 0 (spell ps xs) f.0) ∙ ap (λ v. get_or v 0 0) s ∙ run_left p' x' 0 (spell ps' xs') f'.0

    go : (spell ps xs ≡ spell ps' xs' → (ps ≡ ps') × (xs ≡ xs')) → (p ≡ p') ⊎ ((p < p') ⊎ (p' < p)) → (p ∷ ps ≡ p' ∷ ps') × (x ∷ xs ≡ x' ∷ xs')
    go ih (inr (inl l)) = absurd (no_longer p p' x x' (spell ps xs) (spell ps' xs') f.0 up s l)
    go ih (inr (inr l)) = absurd (no_longer p' p x' x (spell ps' xs') (spell ps xs) f'.0 up' (sym s) l)
    go ih (inl q) =
        let same : replicate p' x' ≡ replicate p x = cc (q, first) in
        let rest = ih (append_cancel_left (replicate p x) (spell ps xs) (spell ps' xs') (s ∙ ap (λ v. v ++ spell ps' xs') same)) in
        (cc (q, rest.0), cc (first, rest.1))
