-- Every set goes over, by exchanges within cells, into exactly one that takes a first few of each cell.
use Rattle.std.proofs.Common.{◌≡◌, ℕ, ◌+◌, ◌-◌, ◌*◌, ◌/◌, ◌<◌, ◌≤◌, true, ◌⊎◌, List, [], ◌∷◌, map, length, get_or, sym, ap, ◌∙◌, inl, inr, arith}
use Rattle.std.specs.List.{range_with_len}
use Rattle.std.proofs.lemmas.List.Sorted.{IsNonDecreasingBy-from_all_adjacent}
use Rattle.std.proofs.lemmas.Bool.{cases_lt, true≢false}
use Rattle.std.proofs.lemmas.List.FromFn.{get_or-map-range_with_len, length-map-range_with_len}
use Rattle.orders.specs.Orders.{Renaming}
use Rattle.orders.proofs.Sorting.{sorts, moved_from_shuffled, turned, after}
use Rattle.orders.specs.Members.{member}
use Rattle.sets.specs.Sets.{SetOf, cell_of, FirstFew}
use Rattle.sets.specs.Claims.{Exchanges, SetsSuffice}
use Rattle.sets.proofs.Members.{same_set}
use Rattle.sets.proofs.CellPlaces.{cell_here, cell_behind}
use Rattle.sets.proofs.Marks.{mark, Marked, mark_is, mark_tells}
use Rattle.sets.proofs.Rearranged.{≤_order, RisingBelow, same_rising}
use Rattle.sets.proofs.SetsRenamed.{renamed, member_renamed, set_renamed}

-- a later participant is in no earlier cell
cell_rises : (cs : List ℕ) (i j : ℕ) → i ≤ j → cell_of cs i ≤ cell_of cs j
cell_rises [] i j h = omega arith
cell_rises (c ∷ cs) i j h = go (cell_rises cs (i - c) (j - c) (omega arith)) (cases_lt i c) (cases_lt j c)
  where
    go : cell_of cs (i - c) ≤ cell_of cs (j - c) → (i < c) ⊎ (c ≤ i) → (j < c) ⊎ (c ≤ j) → cell_of (c ∷ cs) i ≤ cell_of (c ∷ cs) j
    go ih (inl a) b = omega (arith, cell_here c cs i a)
    go ih (inr a) (inl b) = absurd (omega arith)
    go ih (inr a) (inr b) = omega (arith, cell_behind c cs i a, cell_behind c cs j b)

-- a participant's key: its cell first, then members before the others

abbrev key : List ℕ → List ℕ → ℕ → ℕ
key cs s i = 2 * cell_of cs i + mark (member s i)

-- the keys of a set rise if it takes a first few of each cell, and only then

keys_rise : (n : ℕ) (cs s : List ℕ) → FirstFew n cs s → RisingBelow n (key cs s)
keys_rise n cs s few i j h l = go (cell_rises cs i j h) (cases_lt i j) (cases_lt (cell_of cs i) (cell_of cs j)) (mark_is (member s i)) (mark_is (member s j))
  where
    go : cell_of cs i ≤ cell_of cs j → (i < j) ⊎ (j ≤ i) → (cell_of cs i < cell_of cs j) ⊎ (cell_of cs j ≤ cell_of cs i) → Marked (member s i) → Marked (member s j) → key cs s i ≤ key cs s j
    go up (inr a) c x y = let e : i ≡ j = omega arith in omega (arith, ap (key cs s) e)
    go up (inl a) (inl c) x y = omega arith
    go up (inl a) (inr c) (inl x) y = omega arith
    go up (inl a) (inr c) (inr x) (inl y) = absurd (true≢false (sym (few i j a l (omega arith) y.0) ∙ x.0))
    go up (inl a) (inr c) (inr x) (inr y) = omega arith

few_from_keys : (n : ℕ) (cs s : List ℕ) → RisingBelow n (key cs s) → FirstFew n cs s
few_from_keys n cs s up i j h l same m = go (up i j (omega arith) l) (mark_is (member s i)) (ap mark m)
  where
    go : key cs s i ≤ key cs s j → Marked (member s i) → mark (member s j) ≡ mark true → member s i ≡ true
    go u (inl x) y = x.0
    go u (inr x) y = absurd (omega arith)

-- exchanges, turned round and one after the other

exchanges_back : {n : ℕ} (cs s t : List ℕ) (p : Renaming n) → Exchanges cs s t p → Exchanges cs t s (turned p)
unfolding turned
exchanges_back cs s t p e = record {
  within = λ i h. sym (e.within (p.back i) (p.back_below i h)) ∙ ap (cell_of cs) (p.to_back i h);
  turns = λ i h. sym (e.turns (p.back i) (p.back_below i h)) ∙ ap (member t) (p.to_back i h);
}

exchanges_on : {n : ℕ} (cs s t u : List ℕ) (p q : Renaming n) → Exchanges cs s t p → Exchanges cs t u q → Exchanges cs s u (after q p)
unfolding after
exchanges_on cs s t u p q e f = record {
  within = λ i h. f.within (p.to i) (p.to_below i h) ∙ e.within i h;
  turns = λ i h. f.turns (p.to i) (p.to_below i h) ∙ e.turns i h;
}

-- exchanges turn no set that takes a first few of each cell into another one
same_first_few : (n f : ℕ) (cs s t : List ℕ) (p : Renaming n) → SetOf n f s → SetOf n f t → FirstFew n cs s → FirstFew n cs t → Exchanges cs s t p → s ≡ t
same_first_few n f cs s t p os ot few few' e = same_set 0 n s t os.upwards ot.upwards (λ i _ h. mark_tells (member s i) (member t i) (let k = same i h in omega arith))
  where
    same : (i : ℕ) → i < n → key cs s i ≡ key cs t i
    same = same_rising p (key cs s) (key cs t) (λ i h. cc (e.within i h, e.turns i h)) (keys_rise n cs s few) (keys_rise n cs t few')

-- a permutation that sorts the keys
record SortingKeys (n : ℕ) (cs s : List ℕ) : Type 0 where
  by : Renaming n
  values : ℕ → ℕ
  rise : RisingBelow n values
  sends : (i : ℕ) → i < n → values (by.to i) ≡ key cs s i

sorting_keys : (n : ℕ) (cs s : List ℕ) → SortingKeys n cs s
sorting_keys n cs s =
    let ks = map (key cs s) (range_with_len 0 n) in
    let long : length ks ≡ n = length-map-range_with_len (key cs s) 0 n in
    let o = sorts ◌≤◌ ≤_order ks in
    let m = moved_from_shuffled n ks o.the long o.holds.0 in
    record {
      by = m.0;
      values = λ i. get_or o.the i 0;
      rise = λ i j h l. IsNonDecreasingBy-from_all_adjacent (λ x. x) o.the o.holds.1 i j 0 h (let e = m.1.long' in omega arith);
      sends = λ i h. m.1.at i 0 h ∙ get_or-map-range_with_len (key cs s) 0 n i i 0 h (omega arith);
    }

module _ (n : ℕ) (cs s : List ℕ) (k : SortingKeys n cs s) where
  -- the cells stand in order already, so the sort leaves each place its cell
  cell_at : (i : ℕ) → i < n → cell_of cs i ≡ k.values i / 2
  cell_at = same_rising k.by (cell_of cs) (λ i. k.values i / 2) halved (λ i j h l. cell_rises cs i j h) (λ i j h l. let u = k.rise i j h l in omega arith)
    where
      halved : (i : ℕ) → i < n → k.values (k.by.to i) / 2 ≡ cell_of cs i
      halved i h = let e = k.sends i h in let x = mark_is (member s i) in omega arith

  keeps_cells : (i : ℕ) → i < n → cell_of cs (k.by.to i) ≡ cell_of cs i
  keeps_cells i h =
      let a = cell_at (k.by.to i) (k.by.to_below i h) in
      let e = k.sends i h in
      let x = mark_is (member s i) in
      omega arith

  sorted_exchanges : Exchanges cs s (renamed k.by s) k.by
  sorted_exchanges = record {
    within = keeps_cells;
    turns = λ i h. member_renamed k.by s (k.by.to i) (k.by.to_below i h) ∙ ap (member s) (k.by.back_to i h);
  }

  sorted_few : FirstFew n cs (renamed k.by s)
  sorted_few = few_from_keys n cs (renamed k.by s) (λ i j h l. let u = k.rise i j h l in let a = at i (omega arith) in let b = at j l in omega arith)
    where
      at : (i : ℕ) → i < n → key cs (renamed k.by s) i ≡ k.values i
      at i h =
          let b = k.by.back_below i h in
          let e = k.by.to_back i h in
          let c = keeps_cells (k.by.back i) b in
          let m = member_renamed k.by s i h in
          let v = k.sends (k.by.back i) b in
          cc

pub sets_suffice : (n f : ℕ) (cs : List ℕ) → SetsSuffice n f cs
sets_suffice n f cs s o =
    let k = sorting_keys n cs s in
    let t = renamed k.by s in
    let ot = set_renamed k.by s f o in
    let few = sorted_few n cs s k in
    let e = sorted_exchanges n cs s k in
    record {
      the = t;
      holds = (ot, few, (k.by, e));
      only = λ z h. same_first_few n f cs z t (after k.by (turned h.2.0)) h.0 ot h.1 few (exchanges_on cs z s t _ _ (exchanges_back cs s z _ h.2.1) e);
    }
