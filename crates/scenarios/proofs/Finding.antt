-- The count that a search of the slots finds for a state that rounds can lead to.
use Rattle.std.proofs.Common.{◌≡◌, ℕ, suc, ◌+◌, ◌-◌, ◌<◌, ◌≤◌, min, ◌⊎◌, List, length, get_or, take, drop, Some, None, Option, sym, refl, ap, ◌∙◌, subst, inl, inr, arith}
use Rattle.std.proofs.lemmas.List.{length-take, length-take-le, length-map, take_at, get_or-take, get_or-map}
use Rattle.std.proofs.lemmas.Bool.{cases_lt}
use Rattle.table.specs.Places.{Place as Found}
use Rattle.table.proofs.Front.{in_front}
use Rattle.scenarios.specs.declared.counting.Place.{Place}
use Rattle.scenarios.specs.Cells.{cells, boundaries}
use Rattle.scenarios.specs.Turns.{Turn, turns, after}
use Rattle.scenarios.specs.Fits.{Among}
use Rattle.scenarios.specs.Scenarios.{count}
use Rattle.scenarios.specs.Counting.{layer, place, places, Slot, entry, entries, zero_slot, CountedAs}
use Rattle.scenarios.specs.Slots.{meant, value_at, Valued}
use Rattle.scenarios.proofs.Layers.{layer_next}
use Rattle.scenarios.proofs.Levels.{among_place}
use Rattle.scenarios.proofs.Slots.{among_index, meant_same}

-- counting leaves the entries in front
pub counted_front : (n R v : ℕ) (xs ys : List Slot) → CountedAs n R xs v ys → take (length (entries n R)) ys ≡ entries n R
counted_front n R v xs ys c = ap (take (length (entries n R))) c.3 ∙ take_at (entries n R) (drop (length (entries n R)) xs) (length (entries n R)) refl

-- what a search of the slots in use finds is what a search of as many slots finds
pub valued_in_front : (p : Place) (len n v : ℕ) (xs : List Slot) → n ≡ min len (length xs) → Valued p (length (take n xs)) (take n xs) v → Valued p len xs v
valued_in_front p len n v xs e f = go f.0 f.1 f.2
  where
    within : length (take n xs) ≡ n
    within = length-take-le n xs (omega (arith, e))

    go : (o : Option ℕ) → Found (λ s. meant s.key ≡ meant p) (take n xs) (min (length (take n xs)) (length (take n xs))) o → v ≡ value_at (take n xs) o → Valued p len xs v
    go o g q = (o, in_front (λ s. meant s.key ≡ meant p) len n xs e o (subst (λ k. Found (λ s. meant s.key ≡ meant p) (take n xs) k o) (let m : min (length (take n xs)) (length (take n xs)) ≡ length (take n xs) = omega arith in m) g), q ∙ same o g)
      where
        same : (o : Option ℕ) → Found (λ s. meant s.key ≡ meant p) (take n xs) (min (length (take n xs)) (length (take n xs))) o → value_at (take n xs) o ≡ value_at xs o
        same None g = refl
        same (Some i) g = ap (λ s. s.value) (get_or-take n xs i zero_slot (omega (arith, g.0, within)))

-- the slots that hold the entries in front, and a search of them all or of at least those
module _ (n R len : ℕ) (ys : List Slot) (front : take (length (entries n R)) ys ≡ entries n R) (most : length (entries n R) ≤ len) where
  slot_at : (i : ℕ) → i < length (places n R) → (i < length ys) × (i < len) × (get_or ys i zero_slot ≡ entry n R (get_or (places n R) i (place 0 0)))
  unfolding entries
  slot_at i h =
      let m = length-map (places n R) (entry n R) in
      let t = ap length front in
      let s = length-take (length (entries n R)) ys in
      ((omega arith), (omega arith), sym (get_or-take (length (entries n R)) ys i zero_slot (omega arith)) ∙ ap (λ l. get_or l i zero_slot) front ∙ get_or-map (entry n R) (places n R) i (place 0 0) zero_slot (omega arith))

  value_found : (p : Place) (o : Option ℕ) → Among (places n R) p → Found (λ e. meant e.key ≡ meant p) ys (min len (length ys)) o → value_at ys o ≡ (entry n R p).value
  value_found p o a f = go o f
    where
      ps : List Place
      ps = places n R

      i : ℕ
      i = (among_index ps p a).0

      within : i < length ps
      within = (among_index ps p a).1

      here : meant (get_or ys i zero_slot).key ≡ meant p
      here = ap (λ e. meant e.key) (slot_at i within).2 ∙ ap meant ((among_index ps p a).2 (place 0 0))

      go : (o : Option ℕ) → Found (λ e. meant e.key ≡ meant p) ys (min len (length ys)) o → value_at ys o ≡ (entry n R p).value
      go None g = let s = slot_at i within in let b = s.0 in let c = s.1 in absurd (g i zero_slot (omega arith) (omega arith) here)
      go (Some j) g = at (cases_lt i j)
        where
          at : (i < j) ⊎ (j ≤ i) → (get_or ys j zero_slot).value ≡ (entry n R p).value
          at (inl l) = absurd (g.2 i zero_slot (omega arith) (omega arith) here)
          at (inr l) =
              let w = within in
              let s = (slot_at j (omega arith)).2 in
              let k : get_or ps j (place 0 0) ≡ p = sym (ap (λ e. e.key) s) ∙ meant_same (get_or ys j zero_slot).key p (g.1 zero_slot) in
              ap (λ e. e.value) s ∙ ap (λ q. (entry n R q).value) k

  -- the value that is found for a state of a layer is the number of scenarios that continue from it
  pub entry_found : (d s v : ℕ) → d ≤ R → Among (layer n d) s → Valued (place d s) len ys v → v ≡ count (R - d) (cells n s)
  entry_found d s v h a f = f.2 ∙ value_found (place d s) f.0 (among_place n (suc R) d s (omega arith) a) f.1

-- a turn from a state of a layer leads to a state of the next
pub layer_after : (n d s : ℕ) (t : Turn) → Among (layer n d) s → Among (turns (cells n s)) t → Among (layer n (d + 1)) (boundaries (after t))
layer_after n d s t a b = subst (λ k. Among (layer n k) (boundaries (after t))) (let e : suc d ≡ d + 1 = omega arith in e) (layer_next n d s t a b)
