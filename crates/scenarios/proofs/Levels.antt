-- The places of all depths, one depth after the other.
use Rattle.std.proofs.Common.{◌≡◌, ℕ, zero, suc, ◌+◌, ◌-◌, ◌<◌, ◌≤◌, true, false, ◌&&◌, ◌||◌, eqb, ◌⊎◌, List, [], ◌∷◌, ◌++◌, map, length, get_or, sym, refl, ap, ◌∙◌, subst, inl, inr, arith}
use Rattle.std.specs.List.{range_with_len, flat_map, AllByRecursion}
use Rattle.std.proofs.lemmas.List.{append_assoc, append-nil, length-append, map_push, get_or_append_left, get_or-append_right}
use Rattle.std.proofs.ByRecursion.{All-append, All-map, All-get_or, All-weaker}
use Rattle.std.proofs.lemmas.Bool.{cases_Bool, cases_lt, ne_eqb, eq-eqb, and_left}
use Rattle.std.proofs.lemmas.Bool.Decides.{Decides-eqb, Decides-and, Decides-like}
use Rattle.scenarios.specs.Fits.{Among}
use Rattle.scenarios.proofs.Chains.{in_from_among, among_from_in, in_counting, counting_in}
use Rattle.scenarios.proofs.Members.{among_map, map_among, among_joined, joined_among, joined_append}
use Rattle.scenarios.specs.declared.counting.Place.{Place}
use Rattle.scenarios.specs.Counting.{nexts, member, note, noted, layer, place, same_place, places_before}
use Rattle.scenarios.proofs.Noted.{Tells, note_seen, note_new}

pub same_place_tells : Tells same_place
same_place_tells p q =
    Decides-like (same_place p q) (λ h i. record { depth = h.0 i; state = record { boundaries = h.1 i } }) (λ e. (ap (λ r. r.depth) e, ap (λ r. r.state.boundaries) e))
    (Decides-and (eqb p.depth q.depth) (eqb p.state.boundaries q.state.boundaries) (Decides-eqb p.depth q.depth) (Decides-eqb p.state.boundaries q.state.boundaries))

-- noting places of one depth behind those of lower depths is noting their states

member_level : (d x : ℕ) (seen : List ℕ) → member same_place (place d x) (map (place d) seen) ≡ member eqb x seen
member_level d x [] = refl
member_level d x (y ∷ ys) = let e = eq-eqb d d refl in λ i. (e i && eqb y x) || member_level d x ys i

member_lower : (ps : List Place) (d x : ℕ) (qs : List Place) → AllByRecursion (λ p. p.depth < d) ps → member same_place (place d x) (ps ++ qs) ≡ member same_place (place d x) qs
member_lower [] d x qs h = refl
member_lower (p ∷ ps) d x qs h =
    let e = ne_eqb p.depth d (λ q. let l = h.0 in omega arith) in
    let s = and_left (eqb p.depth d) (eqb p.state.boundaries x) e in
    λ i. s i || member_lower ps d x qs h.1 i

note_level : (ps : List Place) (d : ℕ) (seen : List ℕ) (x : ℕ) → AllByRecursion (λ p. p.depth < d) ps → note same_place (ps ++ map (place d) seen) (place d x) ≡ ps ++ map (place d) (note eqb seen x)
note_level ps d seen x h = go (cases_Bool (member eqb x seen))
  where
    same : member same_place (place d x) (ps ++ map (place d) seen) ≡ member eqb x seen
    same = member_lower ps d x (map (place d) seen) h ∙ member_level d x seen

    go : (member eqb x seen ≡ true) ⊎ (member eqb x seen ≡ false) → note same_place (ps ++ map (place d) seen) (place d x) ≡ ps ++ map (place d) (note eqb seen x)
    go (inl e) = note_seen same_place (ps ++ map (place d) seen) (place d x) (same ∙ e) ∙ ap (λ l. ps ++ map (place d) l) (sym (note_seen eqb seen x e))
    go (inr e) =
        note_new same_place (ps ++ map (place d) seen) (place d x) (same ∙ e) ∙ append_assoc ps (map (place d) seen) (place d x ∷ [])
        ∙ ap (λ l. ps ++ l) (sym (map_push (place d) seen x)) ∙ ap (λ l. ps ++ map (place d) l) (sym (note_new eqb seen x e))

pub noted_level : (ps : List Place) (d : ℕ) (seen xs : List ℕ) → AllByRecursion (λ p. p.depth < d) ps → noted same_place (ps ++ map (place d) seen) (map (place d) xs) ≡ ps ++ map (place d) (noted eqb seen xs)
noted_level ps d seen [] h = refl
noted_level ps d seen (x ∷ xs) h = ap (λ l. noted same_place l (map (place d) xs)) (note_level ps d seen x h) ∙ noted_level ps d (note eqb seen x) xs h

-- one depth more

counting_push : (a m : ℕ) → range_with_len a (suc m) ≡ range_with_len a m ++ ((a + m) ∷ [])
counting_push a zero = ap (λ k. k ∷ []) (let e : a ≡ a + 0 = omega arith in e)
counting_push a (suc m) = ap (λ l. a ∷ l) (counting_push (a + 1) m ∙ ap (λ k. range_with_len (a + 1) m ++ (k ∷ [])) (let e : a + 1 + m ≡ a + suc m = omega arith in e))

pub places_more : (n d : ℕ) → places_before n (suc d) ≡ places_before n d ++ map (place d) (layer n d)
places_more n d =
    let f : ℕ → List Place = λ k. map (place k) (layer n k) in
    let e : 0 + d ≡ d = omega arith in
    ap (flat_map f) (counting_push 0 d) ∙ joined_append f (range_with_len 0 d) ((0 + d) ∷ []) ∙ ap (λ l. flat_map f (range_with_len 0 d) ++ l) (append-nil (f (0 + d)) ∙ ap f e)

pub before_depth : (n d : ℕ) → AllByRecursion (λ p. p.depth < d) (places_before n d)
before_depth n zero = tt
before_depth n (suc d) =
    let P : List Place → Type 0 = λ ps. AllByRecursion (λ p. p.depth < suc d) ps in
    subst P (sym (places_more n d))
    (All-append (λ p. p.depth < suc d) (places_before n d) (map (place d) (layer n d))
    (All-weaker (λ p. p.depth < d) (λ p. p.depth < suc d) (λ p h. omega arith) (places_before n d) (before_depth n d))
    (All-map (λ p. p.depth < suc d) (place d) (layer n d) (each (layer n d))))
  where
    each : (xs : List ℕ) → AllByRecursion (λ x. d < suc d) xs
    each [] = tt
    each (x ∷ xs) = ((omega arith), each xs)

-- noting all states after those of depth d gives the places of the next depth
pub level_step : (n d : ℕ) → noted same_place (places_before n (suc d)) (map (place (suc d)) (flat_map (nexts n) (layer n d))) ≡ places_before n (suc (suc d))
level_step n d =
    let xs = flat_map (nexts n) (layer n d) in
    ap (λ l. noted same_place l (map (place (suc d)) xs)) (sym (append-nil (places_before n (suc d))))
    ∙ noted_level (places_before n (suc d)) (suc d) [] xs (before_depth n (suc d)) ∙ sym (places_more n (suc d))

pub places_longer : (n d k : ℕ) → length (places_before n d) ≤ length (places_before n (d + k))
places_longer n d zero = let e = ap (λ m. length (places_before n m)) (let z : d + 0 ≡ d = omega arith in z) in omega arith
places_longer n d (suc k) =
    let h = places_longer n d k in
    let e = ap (λ m. length (places_before n m)) (let z : d + suc k ≡ suc (d + k) = omega arith in z) in
    let m = ap length (places_more n (d + k)) ∙ length-append (places_before n (d + k)) (map (place (d + k)) (layer n (d + k))) in
    omega arith

-- which places there are

pub place_among : (n e : ℕ) (p : Place) → Among (places_before n e) p → (p.depth < e) × Among (layer n p.depth) p.state.boundaries
place_among n e p a =
    let r = joined_among (λ k. map (place k) (layer n k)) (range_with_len 0 e) p a in
    let k = r.0 in
    let m = map_among (place k) (layer n k) p r.2 in
    let c = in_counting 0 e k (in_from_among (range_with_len 0 e) k r.1) in
    let below : k < e = let z = c.1 in omega arith in
    let P : Place → Type 0 = λ q. (q.depth < e) × Among (layer n q.depth) q.state.boundaries in
    subst P m.2 (below, m.1)

pub among_place : (n e d s : ℕ) → d < e → Among (layer n d) s → Among (places_before n e) (place d s)
among_place n e d s h a =
    among_joined (λ k. map (place k) (layer n k)) (range_with_len 0 e) d (place d s) (among_from_in (range_with_len 0 e) d (counting_in 0 e d (omega arith) (omega arith))) (among_map (place d) (layer n d) s a)

-- a place of a larger depth stands behind
pub depths_rise : (n e i j : ℕ) (z : Place) → i ≤ j → j < length (places_before n e) → (get_or (places_before n e) i z).depth ≤ (get_or (places_before n e) j z).depth
depths_rise n zero i j z h l = absurd (omega arith)
depths_rise n (suc e) i j z h l = go (cases_lt j (length (places_before n e))) (depths_rise n e i j z h)
  where
    ps : List Place
    ps = places_before n e

    qs : List Place
    qs = map (place e) (layer n e)

    more : places_before n (suc e) ≡ ps ++ qs
    more = places_more n e

    all : length (places_before n (suc e)) ≡ length ps + length qs
    all = ap length more ∙ length-append ps qs

    last : (xs : List ℕ) → AllByRecursion (λ p. p.depth ≡ e) (map (place e) xs)
    last [] = tt
    last (x ∷ xs) = (refl, last xs)

    go : (j < length ps) ⊎ (length ps ≤ j) → (j < length ps → (get_or ps i z).depth ≤ (get_or ps j z).depth) → (get_or (places_before n (suc e)) i z).depth ≤ (get_or (places_before n (suc e)) j z).depth
    go (inl b) ih =
        let a = ap (λ l. (get_or l i z).depth) more ∙ ap (λ p. p.depth) (get_or_append_left ps qs z i (omega arith)) in
        let c = ap (λ l. (get_or l j z).depth) more ∙ ap (λ p. p.depth) (get_or_append_left ps qs z j b) in
        let d = ih b in
        omega arith
    go (inr b) ih =
        let low = All-get_or (λ p. p.depth < suc e) (places_before n (suc e)) i z (omega arith) (before_depth n (suc e)) in
        let c = ap (λ l. (get_or l j z).depth) more ∙ ap (λ p. p.depth) (get_or-append_right ps qs (length ps) j z refl b) in
        let q = all in
        let f = All-get_or (λ p. p.depth ≡ e) qs (j - length ps) z (omega arith) (last (layer n e)) in
        omega arith
