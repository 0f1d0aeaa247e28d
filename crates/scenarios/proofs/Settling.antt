-- Steps of giving each place its count, from the last slot to the first.
use Rattle.std.proofs.Common.{◌≡◌, ℕ, suc, ◌+◌, ◌-◌, ◌<◌, ◌≤◌, List, [], ◌∷◌, length, get_or, set, sym, refl, subst, arith}
use Rattle.std.proofs.lemmas.List.{length-map}
use Rattle.scenarios.specs.Fits.{Among}
use Rattle.scenarios.specs.declared.counting.Place.{Place}
use Rattle.scenarios.specs.Scenarios.{count}
use Rattle.scenarios.specs.Counting.{place, places, Slot, entry, entries, zero_slot}
use Rattle.scenarios.specs.Slots.{Holds, Settled}
use Rattle.scenarios.proofs.Layers.{count_below}
use Rattle.scenarios.proofs.Levels.{place_among}
use Rattle.scenarios.proofs.Slots.{holds_key, index_among, settled_step}

pub entries_long : (n R : ℕ) → length (entries n R) ≡ length (places n R)
unfolding entries
entries_long n R = length-map (places n R) (entry n R)

-- the slot before i is next
pub settled_back : (n R : ℕ) (ps : List Place) (len i : ℕ) (xs ys : List Slot) → Settled n R ps len i xs ys → 0 < i → Settled n R ps len (i - 1 + 1) xs ys
settled_back n R ps len i xs ys s h = subst (λ k. Settled n R ps len k xs ys) (let e : i ≡ i - 1 + 1 = omega arith in e) s

pub settle_turn : (n R : ℕ) (ps : List Place) (len i v : ℕ) (xs ys : List Slot) → Settled n R ps len i xs ys → 0 < i → i ≤ len → v ≡ (entry n R (get_or ys (i - 1) zero_slot).key).value
    → Settled n R ps len (i - 1) xs (set ys (i - 1) (record { key = (get_or ys (i - 1) zero_slot).key; value = v }))
settle_turn n R ps len i v xs ys s h l e =
    settled_step n R ps len (i - 1) v xs ys (get_or ys (i - 1) zero_slot).key (settled_back n R ps len i xs ys s h) (omega arith) refl e

-- no count on the way is above the total
pub key_count : (n R len i : ℕ) (xs ys : List Slot) → 0 < n → Holds (places n R) len xs ys → i < len → (entry n R (get_or ys i zero_slot).key).value ≤ count R (n ∷ [])
key_count n R len i xs ys z h l =
    let ps = places n R in
    let u = h.used in
    let p = (get_or ys i zero_slot).key in
    let same : get_or ps i (place 0 0) ≡ p = sym (holds_key ps len xs ys h i zero_slot (place 0 0) l) in
    let there = place_among n (suc R) p (subst (Among ps) same (index_among ps i (place 0 0) (omega arith))) in
    let d = there.0 in
    count_below n R p.depth p.state.boundaries z (omega arith) there.1
