-- Steps of counting in the slots: a place is added, found, and given its count.
use Rattle.std.proofs.Common.{◌≡◌, ℕ, suc, ◌+◌, ◌-◌, ◌<◌, ◌≤◌, min, true, false, ◌⊎◌, List, [], ◌∷◌, ◌++◌, map, length, get_or, take, drop, set, Some, None, Option, Ok, Err, Result, sym, refl, ap, ◌∙◌, subst, inl, inr, arith}
use lib.Seq.{take-set-lt}
use Rattle.std.proofs.lemmas.List.{length-append, length_push, length-map, length-set, length-take-le, take-append-drop, take_more_set, drop_more, drop-drop, drop-set-lt, map_push, map-set, set-get_or, get_or_at, get_or-take, get_or-map, get_or-set_same, get_or-set_other, get_or_default, same_lists}
use Rattle.std.proofs.lemmas.Bool.{cases_eq, cases_lt, cases_Bool}
use Rattle.scenarios.specs.Cells.{cells, boundaries}
use Rattle.scenarios.specs.Turns.{Turn, turns, after}
use Rattle.scenarios.specs.Fits.{Among}
use Rattle.table.specs.declared.NotAdded.{NotAdded}
use Rattle.table.specs.declared.NotAdded.TheVariants.{There, Full}
use Rattle.table.specs.Places.{Place as Found, AddedAs}
use Rattle.scenarios.specs.declared.counting.Place.{Place}
use Rattle.scenarios.specs.Scenarios.{count}
use Rattle.scenarios.specs.Counting.{member, note, place, same_place, places, Slot, entry, entries, zero_slot}
use Rattle.scenarios.specs.Slots.{meant, Holds, Settled}
use Rattle.scenarios.proofs.Noted.{member_tells, note_seen, note_new}
use Rattle.scenarios.proofs.Layers.{layer_next, next_cells, root_state}
use Rattle.scenarios.proofs.Levels.{same_place_tells, place_among, among_place, depths_rise}

-- elements by their places

pub among_index : {X : Type 0} (xs : List X) (x : X) → Among xs x → (i : ℕ) × (i < length xs) × ((d : X) → get_or xs i d ≡ x)
among_index xs x a =
    let l = ap length a.2 ∙ length-append a.0 (x ∷ a.1) in
    (length a.0, (omega arith), λ d. ap (λ l. get_or l (length a.0) d) a.2 ∙ get_or_at a.0 x a.1 d (length a.0) refl)

pub index_among : {X : Type 0} (xs : List X) (i : ℕ) (d : X) → i < length xs → Among xs (get_or xs i d)
index_among xs i d h = (take i xs, drop (i + 1) xs, sym (take-append-drop i xs) ∙ ap (λ l. take i xs ++ l) (drop_more xs i d h))

pub meant_same : (p q : Place) → meant p ≡ meant q → p ≡ q
meant_same p q e =
    let a : p.depth ≡ q.depth = cc in
    let b : p.state.boundaries ≡ q.state.boundaries = cc in
    λ i. record { depth = a i; state = record { boundaries = b i } }

-- the key of a slot in use
pub holds_key : (ps : List Place) (len : ℕ) (xs ys : List Slot) → Holds ps len xs ys → (j : ℕ) (z : Slot) (w : Place) → j < len → (get_or ys j z).key ≡ get_or ps j w
holds_key ps len xs ys h j z w l =
    let f = h.fits in
    let t = length-take-le len ys h.fits in
    let a = get_or-map (λ e. e.key) (take len ys) j z w (omega arith) in
    let b = ap (λ e. e.key) (get_or-take len ys j z l) in
    sym b ∙ sym a ∙ ap (λ q. get_or q j w) h.keys

-- a search

not_found : (ps : List Place) (p : Place) (len : ℕ) (xs ys : List Slot) → Holds ps len xs ys → Found (λ e. meant e.key ≡ meant p) ys len None → Among ps p → ⊥
not_found ps p len xs ys h f a =
    let r = among_index ps p a in
    let u = h.used in
    let l = r.1 in
    f r.0 zero_slot (omega arith) (omega arith) (ap meant (holds_key ps len xs ys h r.0 zero_slot p (omega arith) ∙ r.2 p))

found_at : (ps : List Place) (p : Place) (len i : ℕ) (xs ys : List Slot) → Holds ps len xs ys → Found (λ e. meant e.key ≡ meant p) ys len (Some i) → (w : Place) → get_or ps i w ≡ p
found_at ps p len i xs ys h f w =
    sym (holds_key ps len xs ys h i zero_slot w f.0) ∙ meant_same (get_or ys i zero_slot).key p (f.1 zero_slot)

pub found_place : (ps : List Place) (p : Place) (len : ℕ) (r : Option ℕ) (xs ys : List Slot) → Holds ps len xs ys → Among ps p → Found (λ e. meant e.key ≡ meant p) ys (min len (length ys)) r
    → (i : ℕ) × (r ≡ Some i) × (i < len) × ((w : Place) → get_or ps i w ≡ p)
found_place ps p len r xs ys h a f =
    let e : min len (length ys) ≡ len = (let z = h.fits in omega arith) in
    go r (subst (λ k. Found (λ s. meant s.key ≡ meant p) ys k r) e f)
  where
    go : (r : Option ℕ) → Found (λ s. meant s.key ≡ meant p) ys len r → (i : ℕ) × (r ≡ Some i) × (i < len) × ((w : Place) → get_or ps i w ≡ p)
    go None g = absurd (not_found ps p len xs ys h g a)
    go (Some i) g = (i, refl, g.0, found_at ps p len i xs ys h g)

-- one place more

holds_push : (ps : List Place) (p : Place) (v len : ℕ) (xs ys : List Slot) → Holds ps len xs ys → len < length ys → Holds (ps ++ (p ∷ [])) (len + 1) xs (set ys len (record { key = p; value = v }))
holds_push ps p v len xs ys h l =
    let e : Slot = record { key = p; value = v } in
    let u = h.used in
    record {
      used = length_push ps p ∙ ap (λ k. k + 1) u;
      fits = (let z = length-set ys len e in omega arith);
      long = length-set ys len e ∙ h.long;
      keys = ap (map (λ s. s.key)) (take_more_set ys len e l) ∙ map_push (λ s. s.key) (take len ys) e ∙ ap (λ q. q ++ (p ∷ [])) h.keys;
      rest = drop-set-lt (len + 1) ys len e (omega arith) ∙ sym (drop-drop 1 len ys) ∙ ap (drop 1) h.rest ∙ drop-drop 1 len xs;
    }

-- what became of an addition: the next slots hold one place more if it is new, or there is no room for it
abbrev pub NotedAs : List Place → Place → ℕ → List Slot → Result ℕ NotAdded → List Slot → Type 0
NotedAs ps p len xs (Ok i) zs = Holds (note same_place ps p) (i + 1) xs zs
NotedAs ps p len xs (Err There) zs = Holds (note same_place ps p) len xs zs
NotedAs ps p len xs (Err Full) zs = length xs < length (note same_place ps p)

pub note_step : (ps : List Place) (p : Place) (v len : ℕ) (xs ys zs : List Slot) (r : Result ℕ NotAdded) → Holds ps len xs ys
    → AddedAs (λ e. meant e.key ≡ meant p) (record { key = p; value = v }) ys (min len (length ys)) r zs → NotedAs ps p len xs r zs
note_step ps p v len xs ys zs r h f =
    let e : min len (length ys) ≡ len = (let z = h.fits in omega arith) in
    go r (subst (λ k. AddedAs (λ s. meant s.key ≡ meant p) (record { key = p; value = v }) ys k r zs) e f)
  where
    new : Found (λ s. meant s.key ≡ meant p) ys len None → note same_place ps p ≡ ps ++ (p ∷ [])
    new g = choose (cases_Bool (member same_place p ps))
      where
        choose : (member same_place p ps ≡ true) ⊎ (member same_place p ps ≡ false) → note same_place ps p ≡ ps ++ (p ∷ [])
        choose (inl e) = absurd (not_found ps p len xs ys h g ((member_tells same_place same_place_tells p ps).0 e))
        choose (inr e) = note_new same_place ps p e

    go : (r : Result ℕ NotAdded) → AddedAs (λ s. meant s.key ≡ meant p) (record { key = p; value = v }) ys len r zs → NotedAs ps p len xs r zs
    go (Ok i) g =
        let P : List Place → List Slot → Type 0 = λ qs ws. Holds qs (i + 1) xs ws in
        subst (λ qs. P qs zs) (sym (new g.2)) (subst (P (ps ++ (p ∷ []))) (sym g.3) (subst (λ k. Holds (ps ++ (p ∷ [])) (k + 1) xs (set ys len (record { key = p; value = v }))) (sym g.0) (holds_push ps p v len xs ys h g.1)))
    go (Err There) g =
        let i = g.0.0 in
        let q = found_at ps p len i xs ys h g.0.1 p in
        let l = g.0.1.0 in
        let u = h.used in
        let a : Among ps p = subst (Among ps) q (index_among ps i p (omega arith)) in
        let s = note_seen same_place ps p ((member_tells same_place same_place_tells p ps).1 a) in
        let P : List Place → List Slot → Type 0 = λ qs ws. Holds qs len xs ws in
        subst (λ qs. P qs zs) (sym s) (subst (P ps) (sym g.1) h)
    go (Err Full) g =
        let k = ap length (new g.1) ∙ length_push ps p in
        let u = h.used in
        let b = g.0 in
        let c = h.fits in
        let d = h.long in
        omega arith

pub holds_none : (xs : List Slot) → Holds [] 0 xs xs
holds_none xs = record { used = refl; fits = (omega arith); long = refl; keys = refl; rest = refl }

-- counts, from the last slot to the first

pub settled_step : (n R : ℕ) (ps : List Place) (len i v : ℕ) (xs ys : List Slot) (p : Place) → Settled n R ps len (i + 1) xs ys → i < len → p ≡ (get_or ys i zero_slot).key
    → v ≡ count (R - p.depth) (cells n p.state.boundaries) → Settled n R ps len i xs (set ys i (record { key = p; value = v }))
settled_step n R ps len i v xs ys p s l q c =
    let e : Slot = record { key = p; value = v } in
    let h = s.holds in
    let f = h.fits in
    let u = h.used in
    let t = length-take-le len ys f in
    let same : p ≡ get_or ps i (place 0 0) = q ∙ holds_key ps len xs ys h i zero_slot (place 0 0) l in
    let right : e ≡ entry n R (get_or ps i (place 0 0)) = (λ k. record { key = p; value = c k }) ∙ ap (entry n R) same in
    record {
      holds = record {
        used = u;
        fits = (let z = length-set ys i e in omega arith);
        long = length-set ys i e ∙ h.long;
        keys = ap (map (λ x. x.key)) (take-set-lt len ys i e l) ∙ map-set (λ x. x.key) (take len ys) i e ∙ (λ k. set (h.keys k) i (same k)) ∙ set-get_or ps i (place 0 0);
        rest = drop-set-lt len ys i e l ∙ h.rest;
      };
      done = λ j a b. at right j a b (cases_eq j i);
    }
  where
    at : (record { key = p; value = v }) ≡ entry n R (get_or ps i (place 0 0)) → (j : ℕ) → i ≤ j → j < len → (j ≡ i) ⊎ (j ≡ i → ⊥) → get_or (set ys i (record { key = p; value = v })) j zero_slot ≡ entry n R (get_or ps j (place 0 0))
    at right j a b (inl e) =
        let f = s.holds.fits in
        ap (λ k. get_or (set ys i (record { key = p; value = v })) k zero_slot) e ∙ get_or-set_same ys i (record { key = p; value = v }) zero_slot (omega arith) ∙ right
        ∙ ap (λ k. entry n R (get_or ps k (place 0 0))) (sym e)
    at right j a b (inr e) = get_or-set_other ys i j (record { key = p; value = v }) zero_slot e ∙ s.done j (omega arith) b

-- all slots in use have their counts
pub settled_all : (n R len : ℕ) (xs ys : List Slot) → Settled n R (places n R) len 0 xs ys → (length (entries n R) ≤ length xs) × (ys ≡ entries n R ++ drop (length (entries n R)) xs)
unfolding entries
settled_all n R len xs ys s =
    let h = s.holds in
    let u = h.used in
    let f = h.fits in
    let t = length-take-le len ys f in
    let m = length-map (places n R) (entry n R) in
    let e : take len ys ≡ map (entry n R) (places n R) =
    same_lists (take len ys) (map (entry n R) (places n R)) (omega arith)
    (λ k d b. get_or-take len ys k d (omega arith) ∙ get_or_default ys k d zero_slot (omega arith) ∙ s.done k (omega arith) (omega arith) ∙ sym (get_or-map (entry n R) (places n R) k (place 0 0) d (omega arith))) in
    let w : len ≡ length (map (entry n R) (places n R)) = omega arith in
    let g = h.long in
    ((omega arith), sym (take-append-drop len ys) ∙ (λ i. e i ++ h.rest i) ∙ ap (λ k. map (entry n R) (places n R) ++ drop k xs) w)

-- the first slot has the total
pub settled_total : (n R len : ℕ) (xs ys : List Slot) → 0 < n → Settled n R (places n R) len 0 xs ys → (get_or ys 0 zero_slot).value ≡ count R (n ∷ [])
settled_total n R len xs ys z s =
    let u = s.holds.used in
    let e : R - 0 ≡ R = omega arith in
    ap (λ x. x.value) (s.done 0 (omega arith) (omega arith)) ∙ (λ i. count (e i) (cells n 0)) ∙ ap (count R) (root_state n z)

-- the count that is found for the place after a turn
pub next_count : (n R len i : ℕ) (t : Turn) (r : Option ℕ) (xs ys : List Slot) (p : Place) → 0 < n → Settled n R (places n R) len (i + 1) xs ys → i < len
    → p ≡ (get_or ys i zero_slot).key → p.depth < R → Among (turns (cells n p.state.boundaries)) t
    → Found (λ e. meant e.key ≡ meant (place (p.depth + 1) (boundaries (after t)))) ys (min len (length ys)) r
    → (j : ℕ) × (r ≡ Some j) × (j < len) × ((get_or ys j zero_slot).value ≡ count (R - (p.depth + 1)) (after t))
next_count n R len i t r xs ys p z s l q b a f =
    let ps = places n R in
    let h = s.holds in
    let u = h.used in
    let same : get_or ps i (place 0 0) ≡ p = sym (holds_key ps len xs ys h i zero_slot (place 0 0) l) ∙ sym q in
    let there = place_among n (suc R) p (subst (Among ps) same (index_among ps i (place 0 0) (omega arith))) in
    let d = p.depth in
    let x = boundaries (after t) in
    let one : suc d ≡ d + 1 = omega arith in
    let next : Among ps (place (d + 1) x) =
    subst (λ k. Among ps (place k x)) one (among_place n (suc R) (suc d) x (omega arith) (layer_next n d p.state.boundaries t there.1 a)) in
    let g = found_place ps (place (d + 1) x) len r xs ys h next f in
    let j = g.0 in
    let at = g.3 (place 0 0) in
    let behind : i + 1 ≤ j = later j at (cases_lt i j) in
    let value : get_or ys j zero_slot ≡ entry n R (place (d + 1) x) = s.done j behind g.2 ∙ ap (entry n R) at in
    (j, g.1, g.2, ap (λ e. e.value) value ∙ ap (count (R - (d + 1))) (next_cells n p.state.boundaries t z a))
  where
    later : (j : ℕ) → get_or (places n R) j (place 0 0) ≡ place (p.depth + 1) (boundaries (after t)) → (i < j) ⊎ (j ≤ i) → i + 1 ≤ j
    later j e (inl k) = omega arith
    later j e (inr k) =
        let u = s.holds.used in
        let rise = depths_rise n (suc R) j i (place 0 0) k (omega arith) in
        let v = ap (λ w. w.depth) e in
        let w = ap (λ w. w.depth) (sym (holds_key (places n R) len xs ys s.holds i zero_slot (place 0 0) l) ∙ sym q) in
        omega arith
