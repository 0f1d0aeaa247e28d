-- Steps of noting the places of one depth after the other.
use Rattle.std.proofs.Common.{◌≡◌, ℕ, suc, ◌+◌, ◌-◌, ◌<◌, ◌≤◌, List, [], ◌∷◌, ◌++◌, map, length, get_or, take, drop, Option, sym, refl, ap, ◌∙◌, subst, arith}
use Rattle.std.specs.List.{flat_map}
use Rattle.std.proofs.lemmas.List.{append-nil, length-drop, take-append-drop, take_more, take_all, get_or-drop, get_or_append_left, drop_at, map-append}
use Rattle.scenarios.proofs.Members.{joined_append}
use Rattle.scenarios.specs.declared.counting.Place.{Place}
use Rattle.scenarios.specs.Counting.{nexts, noted, layer, place, same_place, places_before, Slot, zero_slot}
use Rattle.scenarios.specs.Slots.{Holds, Kept, afters}
use Rattle.scenarios.proofs.Noted.{noted_append, noted_extends, noted_longer}
use Rattle.scenarios.proofs.Levels.{places_more, places_longer, level_step}
use Rattle.scenarios.proofs.Slots.{holds_key}

-- the places after the first k of those from `from` on are noted
abbrev pub noted_upto : ℕ → ℕ → ℕ → ℕ → List Place → List Place
noted_upto n m from k ps = noted same_place ps (flat_map (afters n m) (take k (drop from ps)))

-- the key of a slot that was in use before others were noted
pub noted_key : (ps qs : List Place) (used i : ℕ) (xs ys : List Slot) → Holds (noted same_place ps qs) used xs ys → i < length ps → (get_or ys i zero_slot).key ≡ get_or ps i (place 0 0)
noted_key ps qs used i xs ys h l =
    let m = noted_extends same_place ps qs in
    let u = h.used in
    let o = noted_longer same_place ps qs in
    holds_key (noted same_place ps qs) used xs ys h i zero_slot (place 0 0) (omega arith) ∙ ap (λ q. get_or q i (place 0 0)) m.1 ∙ get_or_append_left ps m.0 (place 0 0) i l

noted_more : (n m from i : ℕ) (ps : List Place) → from ≤ i → i < length ps → noted same_place (noted_upto n m from (i - from) ps) (afters n m (get_or ps i (place 0 0))) ≡ noted_upto n m from (i + 1 - from) ps
noted_more n m from i ps h l =
    let k = i - from in
    let qs = drop from ps in
    let z = place 0 0 in
    let f = length-drop from ps in
    let e : i + 1 - from ≡ k + 1 = omega arith in
    let g : get_or qs k z ≡ get_or ps i z = get_or-drop from ps k z ∙ ap (λ j. get_or ps j z) (let w : from + k ≡ i = omega arith in w) in
    let one : flat_map (afters n m) (take (k + 1) qs) ≡ flat_map (afters n m) (take k qs) ++ afters n m (get_or ps i z) =
    ap (flat_map (afters n m)) (take_more qs k z (omega arith)) ∙ joined_append (afters n m) (take k qs) (get_or qs k z ∷ [])
    ∙ ap (λ t. flat_map (afters n m) (take k qs) ++ t) (append-nil (afters n m (get_or qs k z)) ∙ ap (afters n m) g) in
    sym (noted_append same_place ps (flat_map (afters n m) (take k qs)) (afters n m (get_or ps i z)))
    ∙ ap (noted same_place ps) (sym one) ∙ ap (λ j. noted_upto n m from j ps) (sym e)

-- one place of the depth is done
pub layer_turn : (n m from i used : ℕ) (ps : List Place) (p : Place) (xs ys zs : List Slot) (r : Option ℕ) → from ≤ i → i < length ps → Holds (noted_upto n m from (i - from) ps) used xs ys → p ≡ (get_or ys i zero_slot).key
    → Kept (noted same_place (noted_upto n m from (i - from) ps) (afters n m p)) xs r zs → Kept (noted_upto n m from (i + 1 - from) ps) xs r zs
layer_turn n m from i used ps p xs ys zs r h l s e k =
    let q = e ∙ noted_key ps (flat_map (afters n m) (take (i - from) (drop from ps))) used i xs ys s l in
    subst (λ t. Kept t xs r zs) (ap (λ t. noted same_place (noted_upto n m from (i - from) ps) (afters n m t)) q ∙ noted_more n m from i ps h l) k

pub layer_all : (n m from k : ℕ) (ps : List Place) → length ps ≤ k + from → noted_upto n m from k ps ≡ noted same_place ps (flat_map (afters n m) (drop from ps))
layer_all n m from k ps h = let f = length-drop from ps in ap (λ t. noted same_place ps (flat_map (afters n m) t)) (take_all k (drop from ps) (omega arith))

-- a front of the places to note asks for no more slots than all
pub layer_short : (n m from k : ℕ) (ps : List Place) → length (noted_upto n m from k ps) ≤ length (noted same_place ps (flat_map (afters n m) (drop from ps)))
layer_short n m from k ps =
    let qs = drop from ps in
    let e : noted same_place (noted_upto n m from k ps) (flat_map (afters n m) (drop k qs)) ≡ noted same_place ps (flat_map (afters n m) qs) =
    sym (noted_append same_place ps (flat_map (afters n m) (take k qs)) (flat_map (afters n m) (drop k qs)))
    ∙ ap (noted same_place ps) (sym (joined_append (afters n m) (take k qs) (drop k qs)) ∙ ap (flat_map (afters n m)) (take-append-drop k qs)) in
    let l = noted_longer same_place (noted_upto n m from k ps) (flat_map (afters n m) (drop k qs)) in
    let b = ap length e in
    omega arith

-- from one depth to the next

afters_level : (n m d : ℕ) (xs : List ℕ) → flat_map (afters n m) (map (place d) xs) ≡ map (place m) (flat_map (nexts n) xs)
afters_level n m d [] = refl
afters_level n m d (x ∷ xs) = ap (λ l. map (place m) (nexts n x) ++ l) (afters_level n m d xs) ∙ sym (map-append (place m) (nexts n x) (flat_map (nexts n) xs))

pub level_next : (n d : ℕ) → noted same_place (places_before n (suc d)) (flat_map (afters n (suc d)) (drop (length (places_before n d)) (places_before n (suc d)))) ≡ places_before n (suc (suc d))
level_next n d =
    let e : drop (length (places_before n d)) (places_before n (suc d)) ≡ map (place d) (layer n d) =
    ap (drop (length (places_before n d))) (places_more n d) ∙ drop_at (places_before n d) (map (place d) (layer n d)) (length (places_before n d)) refl in
    ap (λ t. noted same_place (places_before n (suc d)) (flat_map (afters n (suc d)) t)) e ∙ ap (noted same_place (places_before n (suc d))) (afters_level n (suc d) d (layer n d)) ∙ level_step n d

pub places_within : (n d e : ℕ) → d ≤ e → length (places_before n d) ≤ length (places_before n e)
places_within n d e h =
    let l = places_longer n d (e - d) in
    let q = ap (λ m. length (places_before n m)) (let z : d + (e - d) ≡ e = omega arith in z) in
    omega arith

-- the depth m is done, which comes after d
pub depth_turn : (n d m from : ℕ) (xs zs : List Slot) (r : Option ℕ) → suc d ≡ m → from ≡ length (places_before n d)
    → Kept (noted same_place (places_before n m) (flat_map (afters n m) (drop from (places_before n m)))) xs r zs → Kept (places_before n (m + 1)) xs r zs
depth_turn n d m from xs zs r e f k =
    let p = subst (λ i. noted same_place (places_before n i) (flat_map (afters n i) (drop (length (places_before n d)) (places_before n i))) ≡ places_before n (suc i)) e (level_next n d) in
    let o : suc m ≡ m + 1 = omega arith in
    subst (λ t. Kept t xs r zs) (ap (λ j. noted same_place (places_before n m) (flat_map (afters n m) (drop j (places_before n m)))) f ∙ p ∙ ap (places_before n) o) k
