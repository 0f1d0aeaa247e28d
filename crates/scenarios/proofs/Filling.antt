-- The step to the next splits of all cells, from the last cell back to the first.
use Rattle.std.proofs.Common.{◌≡◌, ℕ, zero, suc, ◌+◌, ◌-◌, ◌<◌, ◌≤◌, eqb, List, [], ◌∷◌, ◌++◌, map, length, get_or, take, drop, set, Some, None, Option, sym, refl, ap, ◌∙◌, subst, arith}
use Rattle.std.specs.List.{AllByRecursion}
use Rattle.std.proofs.lemmas.List.{take_more_set, map_push, length-map, drop_all, append-nil, take_all, drop_more, take_more, append_assoc, set_at, length-take-le, get_or_at, map-set, get_or-map}
use Rattle.std.proofs.ByRecursion.{All-get_or}
use Rattle.scenarios.specs.declared.refinement.LocalRefinement.{LocalRefinement}
use Rattle.scenarios.specs.declared.edge.SplitCell.{SplitCell}
use Rattle.scenarios.specs.Steps.{next_split, next_fill, first_fill, first_split}
use Rattle.scenarios.specs.Fits.{Split, Fills}
use Rattle.scenarios.specs.Refinements.{sizes}
use Rattle.scenarios.specs.Edges.{sizes_of, ranges_in, sizes_in, fill_in}
use Rattle.scenarios.proofs.Composing.{through}
use Rattle.scenarios.proofs.Walks.{begun, next_fill_is}

pub fills_at : (l i k : ℕ) (cs : List ℕ) (f : List (List ℕ)) → Fills l i cs f → k < length cs → Split (eqb (i + k) l) (get_or cs k 0) (get_or f k [])
fills_at l i k [] f h b = absurd (omega arith)
fills_at l i k (c ∷ cs) [] h b = absurd h
fills_at l i zero (c ∷ cs) (ps ∷ f) h b = subst (λ j. Split (eqb j l) c ps) (let e : i ≡ i + 0 = omega arith in e) h.0
fills_at l i (suc k) (c ∷ cs) (ps ∷ f) h b =
    subst (λ j. Split (eqb j l) (get_or cs k 0) (get_or f k [])) (let e : i + 1 + k ≡ i + suc k = omega arith in e) (fills_at l (i + 1) k cs f h.1 (omega arith))

module _ (l : ℕ) where
  -- a step of the cells from k on is a step of all
  pub next_fill_under : (i k : ℕ) (cs : List ℕ) (f : List (List ℕ)) (g : List (List ℕ)) → length f ≡ length cs → k ≤ length cs
      → next_fill l (i + k) (drop k cs) (drop k f) ≡ Some g → next_fill l i cs f ≡ Some (take k f ++ g)
  next_fill_under i zero cs f g e h s = ap (λ j. next_fill l j cs f) (let z : i ≡ i + 0 = omega arith in z) ∙ s
  next_fill_under i (suc k) [] f g e h s = absurd (omega arith)
  next_fill_under i (suc k) (c ∷ cs) [] g e h s = absurd (omega arith)
  next_fill_under i (suc k) (c ∷ cs) (ps ∷ f) g e h s =
      let up : i + suc k ≡ i + 1 + k = omega arith in
      let ih = next_fill_under (i + 1) k cs f g (omega arith) (omega arith) (ap (λ j. next_fill l j (drop k cs) (drop k f)) (sym up) ∙ s) in
      next_fill_is l i c cs ps f ∙ ap (through (λ x. ps ∷ x) (begun l i cs (next_split (eqb i l) ps))) ih

  module _ (k : ℕ) (cs : List ℕ) (f : List (List ℕ)) (h : k < length cs) (h' : k < length f) (e : next_fill l (k + 1) (drop (k + 1) cs) (drop (k + 1) f) ≡ None) where
    here : (o : Option (List ℕ)) → next_split (eqb k l) (get_or f k []) ≡ o → next_fill l k (drop k cs) (drop k f) ≡ begun l k (drop (k + 1) cs) o
    here o s =
        ap (λ xs. next_fill l k xs (drop k f)) (drop_more cs k 0 h)
        ∙ ap (next_fill l k (get_or cs k 0 ∷ drop (k + 1) cs)) (drop_more f k [] h')
        ∙ next_fill_is l k (get_or cs k 0) (drop (k + 1) cs) (get_or f k []) (drop (k + 1) f)
        ∙ ap (through (λ x. get_or f k [] ∷ x) (begun l k (drop (k + 1) cs) (next_split (eqb k l) (get_or f k [])))) e
        ∙ ap (begun l k (drop (k + 1) cs)) s

    pub next_fill_here : (qs : List ℕ) → next_split (eqb k l) (get_or f k []) ≡ Some qs → next_fill l k (drop k cs) (drop k f) ≡ Some (qs ∷ first_fill l (k + 1) (drop (k + 1) cs))
    next_fill_here qs s = here (Some qs) s

    pub next_fill_none : next_split (eqb k l) (get_or f k []) ≡ None → next_fill l k (drop k cs) (drop k f) ≡ None
    next_fill_none s = here None s

  pub first_fill_more : (k : ℕ) (cs : List ℕ) → k < length cs → first_fill l k (drop k cs) ≡ first_split (eqb k l) (get_or cs k 0) ∷ first_fill l (k + 1) (drop (k + 1) cs)
  first_fill_more k cs h = ap (first_fill l k) (drop_more cs k 0 h)

-- a front of f with something behind, read and written at its end
pub front_at : (f g : List (List ℕ)) (i : ℕ) → i < length f → get_or (take (i + 1) f ++ g) i [] ≡ get_or f i []
front_at f g i h =
    ap (λ x. get_or (x ++ g) i []) (take_more f i [] h)
    ∙ ap (λ x. get_or x i []) (append_assoc (take i f) (get_or f i [] ∷ []) g)
    ∙ get_or_at (take i f) (get_or f i []) g [] i (length-take-le i f (omega arith))

pub front_set : (f g : List (List ℕ)) (i : ℕ) (q : List ℕ) → i < length f → set (take (i + 1) f ++ g) i q ≡ take i f ++ (q ∷ g)
front_set f g i q h =
    ap (λ x. set (x ++ g) i q) (take_more f i [] h)
    ∙ ap (λ x. set x i q) (append_assoc (take i f) (get_or f i [] ∷ []) g)
    ∙ set_at (take i f) (get_or f i []) g q i (length-take-le i f (omega arith))

-- the walk back over the cells, as the code takes it: the cells from i on have no next splits, and stand at their first again
pub record Back (l : ℕ) (cs : List ℕ) (f g : List (List ℕ)) (i : ℕ) : Type 0 where
  pub none : next_fill l i (drop i cs) (drop i f) ≡ None
  pub again : g ≡ take i f ++ first_fill l i (drop i cs)

module _ (l : ℕ) (cs : List ℕ) (f g : List (List ℕ)) (i : ℕ) (even : length f ≡ length cs) (h : i < length cs) (back : Back l cs f g (i + 1)) where
  here_is : get_or f i [] ≡ get_or g i []
  here_is = sym (front_at f (first_fill l (i + 1) (drop (i + 1) cs)) i (omega arith)) ∙ ap (λ x. get_or x i []) (sym back.again)

  pub back_split : Fills l 0 cs f → Split (eqb i l) (get_or cs i 0) (get_or g i [])
  back_split filled =
      let s = fills_at l 0 i cs f filled h in
      let z : 0 + i ≡ i = omega arith in
      subst (λ k. Split (eqb k l) (get_or cs i 0) (get_or g i [])) z (subst (Split (eqb (0 + i) l) (get_or cs i 0)) here_is s)

  pub back_some : (r : List ℕ) → next_split (eqb i l) (get_or g i []) ≡ Some r → next_fill l 0 cs f ≡ Some (set g i r)
  back_some r s =
      let n = next_fill_here l i cs f h (omega arith) back.none r (ap (next_split (eqb i l)) here_is ∙ s) in
      let z : 0 + i ≡ i = omega arith in
      let u = next_fill_under l 0 i cs f (r ∷ first_fill l (i + 1) (drop (i + 1) cs)) even (omega arith) (ap (λ k. next_fill l k (drop i cs) (drop i f)) z ∙ n) in
      let w = ap (λ x. set x i r) back.again ∙ front_set f (first_fill l (i + 1) (drop (i + 1) cs)) i r (omega arith) in
      u ∙ ap Some (sym w)

  pub back_none : (r : List ℕ) → next_split (eqb i l) (get_or g i []) ≡ None → r ≡ first_split (eqb i l) (get_or cs i 0) → Back l cs f (set g i r) i
  back_none r s e = record {
    none = next_fill_none l i cs f h (omega arith) back.none (ap (next_split (eqb i l)) here_is ∙ s);
    again =
        ap (λ x. set x i r) back.again ∙ front_set f (first_fill l (i + 1) (drop (i + 1) cs)) i r (omega arith)
        ∙ ap (λ q. take i f ++ (q ∷ first_fill l (i + 1) (drop (i + 1) cs))) e
        ∙ ap (λ x. take i f ++ x) (sym (first_fill_more l i cs h));
  }

pub back_start : (l : ℕ) (cs : List ℕ) (f : List (List ℕ)) → length f ≡ length cs → Back l cs f f (length cs)
back_start l cs f even =
    let d : drop (length cs) cs ≡ [] = drop_all (length cs) cs (omega arith) in
    record {
      none = ap (λ xs. next_fill l (length cs) xs (drop (length cs) f)) d;
      again = sym (ap (λ xs. take (length cs) f ++ first_fill l (length cs) xs) d ∙ append-nil (take (length cs) f) ∙ take_all (length cs) f (omega arith));
    }

-- setting each cell to its first split

pub first_fill_long : (l i : ℕ) (cs : List ℕ) → length (first_fill l i cs) ≡ length cs
first_fill_long l i [] = refl
first_fill_long l i (c ∷ cs) = ap suc (first_fill_long l (i + 1) cs)

pub first_fill_at : (l i k : ℕ) (cs : List ℕ) → k < length cs → get_or (first_fill l i cs) k [] ≡ first_split (eqb (i + k) l) (get_or cs k 0)
first_fill_at l i k [] h = absurd (omega arith)
first_fill_at l i zero (c ∷ cs) h = ap (λ j. first_split (eqb j l) c) (let e : i ≡ i + 0 = omega arith in e)
first_fill_at l i (suc k) (c ∷ cs) h = first_fill_at l (i + 1) k cs (omega arith) ∙ ap (λ j. first_split (eqb j l) (get_or cs k 0)) (let e : i + 1 + k ≡ i + suc k = omega arith in e)

-- cells, and the one at a place

pub ranges_long : (cs : List SplitCell) → length (ranges_in cs) ≡ length cs
ranges_long cs = length-map {B = ℕ × ℕ} cs (λ c. (c.start, c.size))

pub cells_long : (cs : List SplitCell) → length (sizes_in cs) ≡ length cs
cells_long cs = length-map (ranges_in cs) (λ r. r.1) ∙ ranges_long cs

pub fill_long : (cs : List SplitCell) → length (fill_in cs) ≡ length cs
fill_long cs = length-map cs (λ c. sizes c.split)

set_same : {X : Type 0} (xs : List X) (i : ℕ) (d x : X) → i < length xs → x ≡ get_or xs i d → set xs i x ≡ xs
set_same [] i d x h e = absurd (omega arith)
set_same (y ∷ xs) zero d x h e = ap (λ z. z ∷ xs) e
set_same (y ∷ xs) (suc i) d x h e = ap (λ l. y ∷ l) (set_same xs i d x (omega arith) e)

-- a cell with another split
abbrev pub resplit : SplitCell → LocalRefinement → SplitCell
resplit c r = record { start = c.start; size = c.size; split = r }

module _ (cs : List SplitCell) (i : ℕ) (d : SplitCell) (h : i < length cs) where
  pub range_of : (x : ℕ × ℕ) → get_or (ranges_in cs) i x ≡ ((get_or cs i d).start, (get_or cs i d).size)
  range_of x = get_or-map (λ c. (c.start, c.size)) cs i d x h

  pub size_of : get_or (sizes_in cs) i 0 ≡ (get_or cs i d).size
  size_of = get_or-map (λ r. r.1) (ranges_in cs) i (0, 0) 0 (omega (arith, ranges_long cs)) ∙ ap (λ (r : ℕ × ℕ). r.1) (range_of (0, 0))

  pub parts_of : get_or (fill_in cs) i [] ≡ sizes (get_or cs i d).split
  parts_of = get_or-map (λ c. sizes c.split) cs i d [] h

  pub size_small : AllByRecursion (λ c. (0 < c) × (c ≤ 64)) (sizes_in cs) → (0 < (get_or cs i d).size) × ((get_or cs i d).size ≤ 64)
  size_small s = subst (λ c. (0 < c) × (c ≤ 64)) size_of (All-get_or (λ c. (0 < c) × (c ≤ 64)) (sizes_in cs) i 0 (omega (arith, cells_long cs)) s)

  module _ (r : LocalRefinement) where
    pub ranges_set : ranges_in (set cs i (resplit (get_or cs i d) r)) ≡ ranges_in cs
    ranges_set = map-set (λ c. (c.start, c.size)) cs i (resplit (get_or cs i d) r) ∙ set_same (ranges_in cs) i (0, 0) _ (omega (arith, ranges_long cs)) (sym (range_of (0, 0)))

    pub fill_set : fill_in (set cs i (resplit (get_or cs i d) r)) ≡ set (fill_in cs) i (sizes r)
    fill_set = map-set (λ c. sizes c.split) cs i (resplit (get_or cs i d) r)

-- the walk back over cells, of which only the splits change
pub record BackIn (l : ℕ) (old now : List SplitCell) (i : ℕ) : Type 0 where
  pub back : Back l (sizes_in old) (fill_in old) (fill_in now) i
  pub placed : ranges_in now ≡ ranges_in old

module _ (l : ℕ) (old now : List SplitCell) (k : ℕ) (d : SplitCell) (some : 0 < k) (h : k - 1 < length now) (b : BackIn l old now k) where
  back : Back l (sizes_in old) (fill_in old) (fill_in now) (k - 1 + 1)
  back = subst (Back l (sizes_in old) (fill_in old) (fill_in now)) (let e : k ≡ k - 1 + 1 = omega arith in e) b.back

  same : sizes_in now ≡ sizes_in old
  same = ap (map (λ r. r.1)) b.placed

  long : length (sizes_in old) ≡ length now
  long = ap length (sym same) ∙ cells_long now

  even : length (fill_in old) ≡ length (sizes_in old)
  even = fill_long old ∙ sym (cells_long old)

  within : k - 1 < length (sizes_in old)
  within = omega (arith, long)

  size_is : get_or (sizes_in old) (k - 1) 0 ≡ (get_or now (k - 1) d).size
  size_is = ap (λ cs. get_or cs (k - 1) 0) (sym same) ∙ size_of now (k - 1) d h

  pub step_split : Fills l 0 (sizes_in old) (fill_in old) → Split (eqb (k - 1) l) (get_or now (k - 1) d).size (sizes (get_or now (k - 1) d).split)
  step_split filled =
      subst (λ c. Split (eqb (k - 1) l) c (sizes (get_or now (k - 1) d).split)) size_is
      (subst (Split (eqb (k - 1) l) (get_or (sizes_in old) (k - 1) 0)) (parts_of now (k - 1) d h)
      (back_split l (sizes_in old) (fill_in old) (fill_in now) (k - 1) even within back filled))

  pub step_small : AllByRecursion (λ c. (0 < c) × (c ≤ 64)) (sizes_in old) → (0 < (get_or now (k - 1) d).size) × ((get_or now (k - 1) d).size ≤ 64)
  step_small s = size_small now (k - 1) d h (subst (AllByRecursion (λ c. (0 < c) × (c ≤ 64))) (sym same) s)

  module _ (r : LocalRefinement) where
    pub step_some : next_split (eqb (k - 1) l) (sizes (get_or now (k - 1) d).split) ≡ Some (sizes r) → next_fill l 0 (sizes_in old) (fill_in old) ≡ Some (fill_in (set now (k - 1) (resplit (get_or now (k - 1) d) r)))
    step_some s =
        back_some l (sizes_in old) (fill_in old) (fill_in now) (k - 1) even within back (sizes r) (ap (next_split (eqb (k - 1) l)) (parts_of now (k - 1) d h) ∙ s)
        ∙ ap Some (sym (fill_set now (k - 1) d h r))

    pub step_placed : ranges_in (set now (k - 1) (resplit (get_or now (k - 1) d) r)) ≡ ranges_in old
    step_placed = ranges_set now (k - 1) d h r ∙ b.placed

    pub step_none : next_split (eqb (k - 1) l) (sizes (get_or now (k - 1) d).split) ≡ None → sizes r ≡ first_split (eqb (k - 1) l) (get_or now (k - 1) d).size
        → BackIn l old (set now (k - 1) (resplit (get_or now (k - 1) d) r)) (k - 1)
    step_none s e = record {
      back = subst (λ g. Back l (sizes_in old) (fill_in old) g (k - 1)) (sym (fill_set now (k - 1) d h r))
          (back_none l (sizes_in old) (fill_in old) (fill_in now) (k - 1) even within back (sizes r) (ap (next_split (eqb (k - 1) l)) (parts_of now (k - 1) d h) ∙ s) (e ∙ ap (first_split (eqb (k - 1) l)) (sym size_is)));
      placed = step_placed;
    }

-- the first i cells stand at their first splits
pub record FirstIn (l : ℕ) (old now : List SplitCell) (i : ℕ) : Type 0 where
  pub first : take i (fill_in now) ≡ take i (first_fill l 0 (sizes_in old))
  pub placed : ranges_in now ≡ ranges_in old

first_next : (l : ℕ) (cs : List ℕ) (i : ℕ) (q : List ℕ) → i < length cs → q ≡ first_split (eqb i l) (get_or cs i 0) → take (i + 1) (first_fill l 0 cs) ≡ take i (first_fill l 0 cs) ++ (q ∷ [])
first_next l cs i q h e =
    let n = first_fill_long l 0 cs in
    let z : 0 + i ≡ i = omega arith in
    take_more (first_fill l 0 cs) i [] (omega arith)
    ∙ ap (λ x. take i (first_fill l 0 cs) ++ (x ∷ [])) (first_fill_at l 0 i cs h ∙ ap (λ j. first_split (eqb j l) (get_or cs i 0)) z ∙ sym e)

module _ (l : ℕ) (old now : List SplitCell) (i : ℕ) (d : SplitCell) (h : i < length now) (b : FirstIn l old now i) where
  same_sizes : sizes_in now ≡ sizes_in old
  same_sizes = ap (map (λ r. r.1)) b.placed

  pub first_small : AllByRecursion (λ c. (0 < c) × (c ≤ 64)) (sizes_in old) → 0 < (get_or now i d).size
  first_small s = (size_small now i d h (subst (AllByRecursion (λ c. (0 < c) × (c ≤ 64))) (sym same_sizes) s)).0

  pub first_more : (r : LocalRefinement) → sizes r ≡ first_split (eqb i l) (get_or now i d).size → FirstIn l old (set now i (resplit (get_or now i d) r)) (i + 1)
  first_more r e = record {
    first =
        ap (take (i + 1)) (fill_set now i d h r)
        ∙ take_more_set (fill_in now) i (sizes r) (omega (arith, fill_long now))
        ∙ ap (λ f. f ++ (sizes r ∷ [])) b.first
        ∙ sym (first_next l (sizes_in old) i (sizes r) (omega (arith, ap length same_sizes, cells_long now)) (e ∙ ap (first_split (eqb i l)) (sym (size_of now i d h) ∙ ap (λ cs. get_or cs i 0) same_sizes)));
    placed = ranges_set now i d h r ∙ b.placed;
  }

pub first_ends : (l : ℕ) (old now : List SplitCell) (i : ℕ) → length now ≤ i → length now ≡ length old → FirstIn l old now i → fill_in now ≡ first_fill l 0 (sizes_in old)
first_ends l old now i h e b =
    sym (take_all i (fill_in now) (omega (arith, fill_long now))) ∙ b.first ∙ take_all i (first_fill l 0 (sizes_in old)) (omega (arith, first_fill_long l 0 (sizes_in old), cells_long old))

-- cells put one behind the other, each at its first split
pub record PutIn (ranges : List (ℕ × ℕ)) (cs : List SplitCell) (i : ℕ) : Type 0 where
  pub first : fill_in cs ≡ take i (first_fill 0 0 (sizes_of ranges))
  pub placed : ranges_in cs ≡ take i ranges

pub put_long : (ranges : List (ℕ × ℕ)) (cs : List SplitCell) (i : ℕ) → i ≤ length ranges → PutIn ranges cs i → length cs ≡ i
put_long ranges cs i h p = sym (ranges_long cs) ∙ ap length p.placed ∙ length-take-le i ranges h

pub put_more : (ranges : List (ℕ × ℕ)) (cs : List SplitCell) (i : ℕ) (x : SplitCell) (d : ℕ × ℕ) → i < length ranges → PutIn ranges cs i → ◌≡◌ {A = ℕ × ℕ} (x.start, x.size) (get_or ranges i d)
    → sizes x.split ≡ first_split (eqb i 0) (get_or ranges i d).1 → PutIn ranges (cs ++ (x ∷ [])) (i + 1)
put_more ranges cs i x d h p is e = record {
  first =
      map_push (λ c. sizes c.split) cs x
      ∙ ap (λ f. f ++ (sizes x.split ∷ [])) p.first
      ∙ sym (first_next 0 (sizes_of ranges) i (sizes x.split) (omega (arith, length-map ranges (λ r. r.1))) (e ∙ ap (first_split (eqb i 0)) (sym (get_or-map (λ r. r.1) ranges i d 0 h))));
  placed = map_push (λ c. (c.start, c.size)) cs x ∙ ap (λ rs. rs ++ ((x.start, x.size) ∷ [])) p.placed ∙ ap (λ y. take i ranges ++ (y ∷ [])) is ∙ sym (take_more ranges i d h);
}

pub put_ends : (ranges : List (ℕ × ℕ)) (cs : List SplitCell) (i : ℕ) → length ranges ≤ i → PutIn ranges cs i → (fill_in cs ≡ first_fill 0 0 (sizes_of ranges)) × (ranges_in cs ≡ ranges)
put_ends ranges cs i h p = (p.first ∙ take_all i _ (omega (arith, first_fill_long 0 0 (sizes_of ranges), length-map ranges (λ r. r.1))), p.placed ∙ take_all i ranges h)
