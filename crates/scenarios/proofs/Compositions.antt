-- The splits of one cell: which they are, and the walk over them.
use Rattle.std.proofs.Common.{◌≡◌, ℕ, zero, suc, ◌+◌, ◌-◌, ◌<◌, ◌≤◌, min, Bool, true, false, cond, ltb, leb, ◌⊎◌, List, [], ◌∷◌, ◌++◌, map, length, take, Some, None, Option, sym, refl, ap, ◌∙◌, subst, inl, inr, arith}
use Rattle.std.specs.List.{range_with_len, AllByRecursion}
use Rattle.std.proofs.lemmas.List.{map-id, take_at, take_all, take_more, length_push, get_or_push}
use Rattle.std.proofs.ByRecursion.{All-push, All-take}
use Rattle.std.proofs.lemmas.Bool.{cases_eq, eq-eqb, ne_eqb, lt-ltb, le-leb, cond-true, false≢true}
use Rattle.std.proofs.lemmas.Bool.Decides.{nat_tests}
use Rattle.scenarios.specs.Cells.{total}
use Rattle.scenarios.specs.Turns.{parts_in, compositions, splits}
use Rattle.scenarios.specs.Fits.{Split}
use Rattle.scenarios.specs.Steps.{first_parts, next_parts, first_composition, next_composition, first_split, next_split, with_leader}
use Rattle.scenarios.proofs.Composing.{through, raised, grown, through_cond, next_parts_is, next_composition_is}
use Rattle.scenarios.proofs.Chains.{In, map_in, in_map, joined_in, in_joined, in_counting, counting_in, first_or_some, first_map, Chain, Walk, chain_map, walk_counting, chain_next_in, first_in}

abbrev pub Filled : List ℕ → Type 0
Filled ps = AllByRecursion (λ p. 0 < p) ps

pub length_filled : (ps : List ℕ) → Filled ps → length ps ≤ total ps
length_filled [] h = omega arith
length_filled (p ∷ ps) h = let ih = length_filled ps h.1 in omega (arith, h.0)

-- the parts of m that are k

pub record Parts (k m : ℕ) (ps : List ℕ) : Type 0 where
  pub many : length ps ≡ k
  pub filled : Filled ps
  pub whole : total ps ≡ m

pub in_parts : (k m : ℕ) (ps : List ℕ) → In (parts_in k m) ps → Parts k m ps
in_parts zero m ps h = go (cases_eq m 0)
  where
    go : (m ≡ 0) ⊎ (m ≡ 0 → ⊥) → Parts zero m ps
    go (inl e) = one (subst (λ t. In (cond t ([] ∷ []) []) ps) (eq-eqb m 0 e) h)
      where
        one : ([] ≡ ps) ⊎ ⊥ → Parts zero m ps
        one (inl q) = subst (Parts zero m) q (record { many = refl; filled = tt; whole = sym e })
        one (inr q) = absurd q
    go (inr e) = absurd (subst (λ t. In (cond t ([] ∷ []) []) ps) (ne_eqb m 0 e) h)
in_parts (suc k) m ps h =
    let t = in_joined (λ a. map (λ qs. a ∷ qs) (parts_in k (m - a))) (range_with_len 1 m) ps h in
    let a = t.0 in
    let u = in_map (λ qs. a ∷ qs) (parts_in k (m - a)) ps t.2 in
    let low = in_counting 1 m a t.1 in
    let ih = in_parts k (m - a) u.0 u.1 in
    subst (Parts (suc k) m) u.2 (record { many = ap suc ih.many; filled = (low.0, ih.filled); whole = omega (arith, ih.whole, low.0, low.1) })

pub parts_found : (ps : List ℕ) → Filled ps → In (parts_in (length ps) (total ps)) ps
parts_found [] h = inl refl
parts_found (p ∷ ps) h =
    let e : p + total ps - p ≡ total ps = omega arith in
    let ih = parts_found ps h.1 in
    joined_in (λ a. map (λ qs. a ∷ qs) (parts_in (length ps) (p + total ps - a))) (range_with_len 1 (p + total ps)) p (p ∷ ps)
    (counting_in 1 (p + total ps) p h.0 (omega arith))
    (map_in (λ qs. p ∷ qs) (parts_in (length ps) (p + total ps - p)) ps (rw e ih))

abbrev pub PartsWalk : ℕ → ℕ → Type 0
PartsWalk k m = Walk next_parts (parts_in (suc k) m) None (cond (ltb k m) (Some (first_parts (suc k) m)) None)

one_part : (m : ℕ) → PartsWalk 0 m
one_part m = walk_counting next_parts (λ a. map (λ ps. a ∷ ps) (parts_in 0 (m - a))) f 1 m each (grind (arith, nat_tests))
  where
    -- where the parts that begin with i or more begin
    f : ℕ → Option (List ℕ)
    f i = cond (leb i m) (Some (m ∷ [])) None

    each : (i : ℕ) → 1 ≤ i → i < 1 + m → Walk next_parts (map (λ ps. i ∷ ps) (parts_in 0 (m - i))) (f (i + 1)) (f i)
    each i h k = go (cases_eq (m - i) 0)
      where
        go : (m - i ≡ 0) ⊎ (m - i ≡ 0 → ⊥) → Walk next_parts (map (λ ps. i ∷ ps) (parts_in 0 (m - i))) (f (i + 1)) (f i)
        go (inl e) = subst (λ t. Walk next_parts (map (λ ps. i ∷ ps) (cond t ([] ∷ []) [])) (f (i + 1)) (f i)) (sym (eq-eqb (m - i) 0 e)) ((grind (arith, nat_tests), tt), grind (arith, nat_tests))
        go (inr e) = subst (λ t. Walk next_parts (map (λ ps. i ∷ ps) (cond t ([] ∷ []) [])) (f (i + 1)) (f i)) (sym (ne_eqb (m - i) 0 e)) (tt, grind (arith, nat_tests))

one_part_more : (k m : ℕ) → ((i : ℕ) → PartsWalk k (m - i)) → PartsWalk (suc k) m
one_part_more k m ih =
    let e : 1 + k ≡ suc k = omega arith in
    subst (λ j. Walk next_parts (parts_in (suc (suc k)) m) None (cond (ltb j m) (Some (first_parts (suc (suc k)) m)) None)) e
    (walk_counting next_parts (λ a. map (λ ps. a ∷ ps) (parts_in (suc k) (m - a))) f 1 m each (grind (arith, nat_tests)))
  where
    f : ℕ → Option (List ℕ)
    f i = cond (ltb (i + k) m) (Some (i ∷ first_parts (suc k) (m - i))) None

    again : (i : ℕ) (ps : List ℕ) → length ps ≡ suc k → total ps ≡ m - i → raised i ps ≡ f (i + 1)
    again i ps e e' = grind (arith, nat_tests)

    each : (i : ℕ) → 1 ≤ i → i < 1 + m → Walk next_parts (map (λ ps. i ∷ ps) (parts_in (suc k) (m - i))) (f (i + 1)) (f i)
    each i h l =
        let last : cond (ltb k (m - i)) (Some (i ∷ first_parts (suc k) (m - i))) (f (i + 1)) ≡ f i = grind (arith, nat_tests) in (
          chain_map (λ ps. i ∷ ps) next_parts next_parts (f (i + 1)) (parts_in (suc k) (m - i))
              (λ ps q. let t = in_parts (suc k) (m - i) ps q in next_parts_is i ps ∙ ap (λ r. through (λ qs. i ∷ qs) r (next_parts ps)) (again i ps t.many t.whole)) (ih i).0,
          first_map (λ ps. i ∷ ps) (parts_in (suc k) (m - i)) (f (i + 1)) ∙ ap (through (λ ps. i ∷ ps) (f (i + 1))) (ih i).1 ∙ through_cond (λ ps. i ∷ ps) (f (i + 1)) (ltb k (m - i)) (first_parts (suc k) (m - i)) None ∙ last,
        )

pub parts_walk : (k m : ℕ) → PartsWalk k m
parts_walk zero m = one_part m
parts_walk (suc k) m = one_part_more k m (λ i. parts_walk k (m - i))

-- at most four parts

pub record Composition (m : ℕ) (ps : List ℕ) : Type 0 where
  pub filled : Filled ps
  pub whole : total ps ≡ m
  pub few : length ps ≤ 4

pub in_compositions : (m : ℕ) (ps : List ℕ) → In (compositions m) ps → Composition m ps
in_compositions zero ps (inl e) = subst (Composition 0) e (record { filled = tt; whole = refl; few = omega arith })
in_compositions zero ps (inr h) = absurd h
in_compositions (suc m) ps h =
    let t = in_joined (λ k. parts_in k (suc m)) (range_with_len 1 (min (suc m) 4)) ps h in
    let low = in_counting 1 (min (suc m) 4) t.0 t.1 in
    let p = in_parts t.0 (suc m) ps t.2 in
    record { filled = p.filled; whole = p.whole; few = omega (arith, p.many, low.1) }

pub composition_found : (m : ℕ) (ps : List ℕ) → Composition m ps → In (compositions m) ps
composition_found zero [] h = inl refl
composition_found zero (p ∷ ps) h = absurd (omega (arith, h.whole, h.filled.0))
composition_found (suc m) [] h = absurd (omega (arith, h.whole))
composition_found (suc m) (p ∷ ps) h =
    joined_in (λ k. parts_in k (suc m)) (range_with_len 1 (min (suc m) 4)) (length (p ∷ ps)) (p ∷ ps)
    (counting_in 1 (min (suc m) 4) (length (p ∷ ps)) (omega arith) (omega (arith, length_filled (p ∷ ps) h.filled, h.whole, h.few)))
    (subst (λ n. In (parts_in (length (p ∷ ps)) n) (p ∷ ps)) h.whole (parts_found (p ∷ ps) h.filled))

pub compositions_walk : (m : ℕ) → Walk next_composition (compositions m) None (Some (first_composition m))
compositions_walk zero = ((refl, tt), refl)
compositions_walk (suc m) =
    let w = walk_counting next_composition (λ k. parts_in k (suc m)) f 1 (min (suc m) 4) each (grind (arith, nat_tests)) in
    (w.0, w.1 ∙ cond-true _ _ _ (le-leb 1 (min (suc m) 4) (omega arith)))
  where
    -- where the compositions of k or more parts begin
    f : ℕ → Option (List ℕ)
    f k = cond (leb k (min (suc m) 4)) (Some (first_parts k (suc m))) None

    again : (k : ℕ) (ps : List ℕ) → length ps ≡ k → total ps ≡ suc m → grown ps ≡ f (k + 1)
    again k ps e e' = grind (arith, nat_tests)

    each : (k : ℕ) → 1 ≤ k → k < 1 + min (suc m) 4 → Walk next_composition (parts_in k (suc m)) (f (k + 1)) (f k)
    each zero h l = absurd (omega arith)
    each (suc k) h l =
        let w = parts_walk k (suc m) in
        let is : f (suc k) ≡ Some (first_parts (suc k) (suc m)) = cond-true _ _ _ (le-leb (suc k) (min (suc m) 4) (omega arith)) in (
          subst (λ xs. Chain next_composition xs (f (suc k + 1))) (map-id (parts_in (suc k) (suc m)))
              (chain_map (λ ps. ps) next_parts next_composition (f (suc k + 1)) (parts_in (suc k) (suc m))
              (λ ps q. let t = in_parts (suc k) (suc m) ps q in next_composition_is ps ∙ ap (λ r. through (λ qs. qs) r (next_parts ps)) (again (suc k) ps t.many t.whole)) w.0),
          first_or_some (parts_in (suc k) (suc m)) (first_parts (suc k) (suc m)) (f (suc k + 1)) (w.1 ∙ cond-true _ _ _ (lt-ltb k (suc m) (omega arith))) ∙ sym is,
        )

-- a leader alone at the end

total_push : (ps : List ℕ) (x : ℕ) → total (ps ++ (x ∷ [])) ≡ total ps + x
total_push [] x = omega arith
total_push (p ∷ ps) x = let ih = total_push ps x in omega arith

pub in_splits : (led : Bool) (c : ℕ) (ps : List ℕ) → 0 < c → In (splits led c) ps → Split led c ps
in_splits false c ps l h =
    let t = in_compositions c ps h in
    record { filled = t.filled; whole = t.whole; few = omega (arith, t.few); alone = λ e. absurd (false≢true e) }
in_splits true c ps l h =
    let t = in_map (λ qs. qs ++ (1 ∷ [])) (compositions (c - 1)) ps h in
    let qs = t.0 in
    let u = in_compositions (c - 1) qs t.1 in
    let e = length_push qs 1 in
    subst (Split true c) t.2 (record {
      filled = All-push (λ p. 0 < p) qs 1 u.filled (omega arith);
      whole = omega (arith, total_push qs 1, u.whole);
      few = omega (arith, e, u.few);
      alone = λ _. get_or_push qs 1 0 (length (qs ++ (1 ∷ [])) - 1) (omega (arith, e));
    })

-- all parts but the last
abbrev pub front : List ℕ → List ℕ
front ps = take (length ps - 1) ps

pub led_is : (c : ℕ) (ps : List ℕ) → 0 < c → Split true c ps → front ps ++ (1 ∷ []) ≡ ps
led_is c [] l h = absurd (omega (arith, h.whole))
led_is c (p ∷ ps) l h =
    ap (λ x. front (p ∷ ps) ++ (x ∷ [])) (sym (h.alone refl)) ∙ sym (take_more (p ∷ ps) (length (p ∷ ps) - 1) 0 (omega arith)) ∙ take_all (length (p ∷ ps) - 1 + 1) (p ∷ ps) (omega arith)

pub split_found : (led : Bool) (c : ℕ) (ps : List ℕ) → 0 < c → Split led c ps → In (splits led c) ps
split_found false c ps l h = composition_found c ps (record { filled = h.filled; whole = h.whole; few = omega (arith, h.few) })
split_found true c ps l h =
    let e = led_is c ps l h in
    let whole : total (front ps) + 1 ≡ c = sym (total_push (front ps) 1) ∙ ap total e ∙ h.whole in
    let many : length (front ps) + 1 ≡ length ps = sym (length_push (front ps) 1) ∙ ap length e in
    subst (In (splits true c)) e (map_in (λ qs. qs ++ (1 ∷ [])) (compositions (c - 1)) (front ps)
    (composition_found (c - 1) (front ps) (record { filled = All-take (λ p. 0 < p) (length ps - 1) ps h.filled; whole = omega arith; few = omega (arith, h.few) })))

with_leader_is : (o : Option (List ℕ)) → with_leader o ≡ through (λ ps. ps ++ (1 ∷ [])) None o
with_leader_is None = refl
with_leader_is (Some ps) = refl

pub next_led : (ps : List ℕ) → next_split true (ps ++ (1 ∷ [])) ≡ through (λ qs. qs ++ (1 ∷ [])) None (next_composition ps)
next_led ps =
    let e = length_push ps 1 in
    ap (λ l. with_leader (next_composition l)) (take_at ps (1 ∷ []) (length (ps ++ (1 ∷ [])) - 1) (omega arith)) ∙ with_leader_is (next_composition ps)

pub splits_walk : (led : Bool) (c : ℕ) → Walk (next_split led) (splits led c) None (Some (first_split led c))
splits_walk false c = compositions_walk c
splits_walk true c =
    let w = compositions_walk (c - 1) in (
      chain_map (λ ps. ps ++ (1 ∷ [])) next_composition (next_split true) None (compositions (c - 1)) (λ ps _. next_led ps) w.0,
      first_map (λ ps. ps ++ (1 ∷ [])) (compositions (c - 1)) None ∙ ap (through (λ ps. ps ++ (1 ∷ [])) None) w.1,
    )

-- a step stays among the splits
pub next_splits : (led : Bool) (c : ℕ) (ps qs : List ℕ) → 0 < c → Split led c ps → next_split led ps ≡ Some qs → Split led c qs
next_splits led c ps qs l h e = in_splits led c qs l (chain_next_in (next_split led) (splits led c) ps qs (splits_walk led c).0 (split_found led c ps l h) e)

pub first_splits : (led : Bool) (c : ℕ) → 0 < c → Split led c (first_split led c)
first_splits led c l = in_splits led c (first_split led c) l (first_in (splits led c) (first_split led c) (splits_walk led c).1)
