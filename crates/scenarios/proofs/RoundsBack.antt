-- All cells of a round read back, from the last to the first: the number of their letters, and the ends of their parts. Assumes nothing.
use Rattle.std.proofs.Common.{◌≡◌, ℕ, zero, suc, ◌+◌, ◌-◌, ◌*◌, ◌/◌, ◌%◌, ◌^◌, ◌<◌, ◌≤◌, Bool, true, false, eqb, ltb, leb, ◌⊎◌, List, [], ◌∷◌, ◌++◌, map, length, get_or, take, drop, sym, refl, ap, ◌∙◌, subst, inl, inr, mul_assoc, mul-le-mul_left, mul-add, arith, pow_mono}
use native.Mathlib.Nat.{div-eq_of_lt, pow-succ'}
use Rattle.std.specs.List.{range_with_len, flat_map, AllByRecursion}
use Rattle.std.proofs.lemmas.Bool.{cases_lt, eqb-true, eqb-false, eq-eqb, ne_eqb, lt-ltb, le-ltb, le-leb}
use Rattle.std.proofs.lemmas.Nat.{pow_pos, pow-add, mul-add-lt, div-mul-add, mod-mul-add}
use Rattle.std.proofs.lemmas.List.{map-append, length-map, length_push, get_or-take, get_or_push, take_at, take-take, take_all, take_more, drop_more, take-append-drop}
use Rattle.std.proofs.ByRecursion.{All-append, All-get_or}
use Rattle.scenarios.specs.declared.round.RoundScenario.{RoundScenario}
use Rattle.scenarios.specs.declared.refinement.LocalRefinement.{LocalRefinement}
use Rattle.scenarios.specs.declared.read.Tally.{Tally}
use Rattle.scenarios.specs.Letters.{letter}
use Rattle.scenarios.specs.Turns.{ways, tones, spell, weight_from, letters_from}
use Rattle.scenarios.specs.Fits.{Split, Fills}
use Rattle.scenarios.specs.Cells.{total, ends, inner, ranges_from}
use Rattle.scenarios.specs.Refinements.{sizes}
use Rattle.scenarios.specs.Edges.{sizes_of}
use Rattle.scenarios.specs.Readings.{letters_along, Placed, SpellsCell, CellRefused, tallied, FitsTally, Told, LedRanges, CellsRefused}
use Rattle.scenarios.proofs.Parting.{total_append, inner_below, inner_above}
use Rattle.scenarios.proofs.ReadingBack.{quotient}
use Rattle.scenarios.proofs.Weighing.{four_mono, weight_under}

-- letters side by side

counting_append : (a m n : ℕ) → range_with_len a (m + n) ≡ range_with_len a m ++ range_with_len (a + m) n
counting_append a zero n = let e : zero + n ≡ n = omega arith in let f : a + zero ≡ a = omega arith in rw (e, f)
counting_append a (suc m) n =
    let e : suc m + n ≡ suc (m + n) = omega arith in
    let f : a + suc m ≡ a + 1 + m = omega arith in
    rw (e, f) (ap (λ l. a ∷ l) (counting_append (a + 1) m n))

pub along_append : (r : RoundScenario) (start m n : ℕ) → letters_along r start (m + n) ≡ letters_along r start m ++ letters_along r (start + m) n
along_append r start m n = ap (map (letter r)) (counting_append start m n) ∙ map-append (letter r) (range_with_len start m) (range_with_len (start + m) n)

-- the ends of parts

pub ends_append : (ps qs : List ℕ) → ends (ps ++ qs) ≡ ends ps + 2 ^ total ps * ends qs
ends_append [] qs = omega arith
ends_append (p ∷ ps) qs =
    let h = ap (λ e. 2 ^ p * e) (ends_append ps qs) ∙ mul-add (2 ^ p) (ends ps) (2 ^ total ps * ends qs) in
    let k = ap (λ e. e * ends qs) (pow-add 2 p (total ps)) ∙ mul_assoc (2 ^ p) (2 ^ total ps) (ends qs) in
    omega arith

pub ends_below : (ps : List ℕ) → AllByRecursion (λ p. 0 < p) ps → ends ps < 2 ^ total ps
ends_below [] f = omega arith
ends_below (p ∷ ps) f =
    let h = ends_below ps f.1 in
    let l : ends ps + 1 ≤ 2 ^ total ps = omega arith in
    let a = mul-le-mul_left (2 ^ p) l in
    let b = mul-add (2 ^ p) (ends ps) 1 in
    let d = pow-add 2 p (total ps) in
    let e : suc (p - 1) ≡ p = omega (arith, f.0) in
    let g : 2 ^ p ≡ 2 * 2 ^ (p - 1) = ap (λ k. 2 ^ k) (sym e) ∙ pow-succ' 2 (p - 1) in
    let i = pow_pos (p - 1) in
    omega arith

pub marks_below : (start : ℕ) (ps : List ℕ) → AllByRecursion (λ p. 0 < p) ps → 2 ^ start * ends ps < 2 ^ (start + total ps)
marks_below start ps f =
    let h = ends_below ps f in
    let l : ends ps + 1 ≤ 2 ^ total ps = omega arith in
    let a = mul-le-mul_left (2 ^ start) l in
    let b = mul-add (2 ^ start) (ends ps) 1 in
    let d = pow-add 2 start (total ps) in
    let i = pow_pos start in
    omega arith

-- the parts of all cells

pub fill_filled : (l i : ℕ) (cs : List ℕ) (f : List (List ℕ)) → Fills l i cs f → AllByRecursion (λ p. 0 < p) (flat_map (λ ps. ps) f) × (total (flat_map (λ ps. ps) f) ≡ total cs)
fill_filled l i [] [] s = (tt, refl)
fill_filled l i [] (ps ∷ f) s = absurd s
fill_filled l i (c ∷ cs) [] s = absurd s
fill_filled l i (c ∷ cs) (ps ∷ f) s =
    let h = fill_filled l (i + 1) cs f s.1 in
    (All-append (λ p. 0 < p) ps (flat_map (λ qs. qs) f) s.0.filled h.0, omega (arith, total_append ps (flat_map (λ qs. qs) f), s.0.whole, h.1))

-- the cells so far

pub told_fits : (r : RoundScenario) (l i start : ℕ) (cs : List ℕ) (t : Tally) → Told r l i start cs t → start + total cs ≤ 64 → FitsTally t
told_fits r l i start cs t h k =
    let a = weight_under l i cs h.fill h.fills in
    let b = four_mono (total cs) 64 (omega arith) in
    let f = fill_filled l i cs h.fill h.fills in
    let m = marks_below start (flat_map (λ ps. ps) h.fill) f.0 in
    let e : 2 ^ (start + total (flat_map (λ ps. ps) h.fill)) ≤ 2 ^ 64 = pow_mono (let l : start + total (flat_map (λ ps. ps) h.fill) ≤ 64 = omega (arith, f.1) in l) in
    (omega (arith, h.below), omega (arith, h.marked))

pub told_more : (r : RoundScenario) (l i start c : ℕ) (cs : List ℕ) (t : Tally) (b : Bool) (x : LocalRefinement) (d : ℕ) → b ≡ eqb i l → SpellsCell b c (letters_along r start c) x d → Told r l (i + 1) (start + c) cs t
    → Told r l i start (c ∷ cs) (tallied t start b x d)
told_more r l i start c cs t b x d e cell h = record {
  fill = ps ∷ h.fill;
  fills = (split, h.fills);
  below = rw e (mul-add-lt t.rank w d (weight_from l (i + 1) h.fill) h.below below);
  letters = rw e word;
  marked = marks;
}
  where
    ps : List ℕ
    ps = sizes x

    w : ℕ
    w = ways (eqb i l) ps

    split : Split (eqb i l) c ps
    split = subst (λ z. Split z c ps) e cell.split

    below : d < w
    below = subst (λ z. d < ways z ps) e cell.below

    here : spell ps (tones (eqb i l) ps d) ≡ letters_along r start c
    here = subst (λ z. spell ps (tones z ps d) ≡ letters_along r start c) e cell.word

    low : (t.rank * w + d) % w ≡ d
    low = mod-mul-add t.rank w d below

    high : (t.rank * w + d) / w ≡ t.rank
    high = div-mul-add t.rank w d below

    word : letters_from l i (ps ∷ h.fill) (t.rank * w + d) ≡ letters_along r start (c + total cs)
    word =
        ap (λ y. spell ps (tones (eqb i l) ps y) ++ letters_from l (i + 1) h.fill ((t.rank * w + d) / w)) low
        ∙ ap (λ y. spell ps (tones (eqb i l) ps d) ++ letters_from l (i + 1) h.fill y) high
        ∙ ap (λ y. y ++ letters_from l (i + 1) h.fill t.rank) here
        ∙ ap (λ y. letters_along r start c ++ y) h.letters
        ∙ sym (along_append r start c (total cs))

    marks : t.marks + 2 ^ start * ends ps ≡ 2 ^ start * ends (ps ++ flat_map (λ qs. qs) h.fill)
    marks =
        let qs : List ℕ = flat_map (λ qs. qs) h.fill in
        let a = ap (λ y. 2 ^ start * y) (ends_append ps qs ∙ ap (λ k. ends ps + 2 ^ k * ends qs) split.whole) in
        let b = mul-add (2 ^ start) (ends ps) (2 ^ c * ends qs) in
        let d = ap (λ y. y * ends qs) (pow-add 2 start c) ∙ mul_assoc (2 ^ start) (2 ^ c) (ends qs) in
        omega (arith, h.marked)

-- the parts of a cell, one by one

pub total_mono : (i j : ℕ) (xs : List ℕ) → i ≤ j → total (take i xs) ≤ total (take j xs)
total_mono zero j xs h = omega arith
total_mono (suc i) zero xs h = absurd (omega arith)
total_mono (suc i) (suc j) [] h = omega arith
total_mono (suc i) (suc j) (x ∷ xs) h = let k = total_mono i j xs (omega arith) in omega arith

pub total_more : (i : ℕ) (xs : List ℕ) → i < length xs → total (take (i + 1) xs) ≡ total (take i xs) + get_or xs i 0
total_more i xs h = ap total (take_more xs i 0 h) ∙ total_append (take i xs) (get_or xs i 0 ∷ []) ∙ (let e : total (take i xs) + (get_or xs i 0 + 0) ≡ total (take i xs) + get_or xs i 0 = omega arith in e)

-- a mask with no bit from n on

pub within_far : (m n : ℕ) → m < 2 ^ 64 → 64 ≤ n → leb 64 n ≡ ltb m (2 ^ n)
within_far m n h k = let p : 2 ^ 64 ≤ 2 ^ n = pow_mono k in le-leb 64 n k ∙ sym (lt-ltb m (2 ^ n) (omega arith))

pub within_near : (m n : ℕ) → eqb (m / 2 ^ n) 0 ≡ ltb m (2 ^ n)
within_near m n = go (cases_lt m (2 ^ n))
  where
    go : (m < 2 ^ n) ⊎ (2 ^ n ≤ m) → eqb (m / 2 ^ n) 0 ≡ ltb m (2 ^ n)
    go (inl h) = eq-eqb (m / 2 ^ n) 0 (div-eq_of_lt h) ∙ sym (lt-ltb m (2 ^ n) h)
    go (inr h) = ne_eqb (m / 2 ^ n) 0 (λ e. let q = quotient m n 0 e in omega arith) ∙ sym (le-ltb m (2 ^ n) h)

-- cells as ranges

pub range_at : (s : ℕ) (cs : List ℕ) (i : ℕ) → i < length cs → ((get_or (ranges_from s cs) i (0, 0)).0 ≡ s + total (take i cs)) × ((get_or (ranges_from s cs) i (0, 0)).1 ≡ get_or cs i 0)
range_at s [] i h = absurd (omega arith)
range_at s (c ∷ cs) zero h = (omega arith, refl)
range_at s (c ∷ cs) (suc i) h = let k = range_at (s + c) cs i (omega arith) in (omega arith, k.1)

pub inner_at : (cs : List ℕ) (i j : ℕ) → i < length cs → total (take i cs) ≤ j → j + 1 < total (take i cs) + get_or cs i 0 → inner cs j ≡ true
inner_at [] i j h a b = absurd (omega arith)
inner_at (c ∷ cs) zero j h a b = inner_below c cs j (omega arith) ∙ lt-ltb (j + 1) c (omega arith)
inner_at (c ∷ cs) (suc i) j h a b = inner_above c cs j (omega arith) ∙ inner_at cs i (j - c) (omega arith) (omega arith) (omega arith)

-- who is not the last of a cell has a neighbour in it
pub inner_else : (cs : List ℕ) (j : ℕ) → j < total cs → ((k : ℕ) → k < length cs → j + 1 ≡ total (take k cs) + get_or cs k 0 → ⊥) → inner cs j ≡ true
inner_else [] j h never = absurd (omega arith)
inner_else (c ∷ cs) j h never = go (λ l. inner_else cs (j - c) (omega arith) (λ k b e. never (suc k) (omega arith) (omega arith))) (cases_lt j c)
  where
    go : (c ≤ j → inner cs (j - c) ≡ true) → (j < c) ⊎ (c ≤ j) → inner (c ∷ cs) j ≡ true
    go ih (inl l) = inner_below c cs j l ∙ lt-ltb (j + 1) c (go' (cases_lt (j + 1) c))
      where
        go' : (j + 1 < c) ⊎ (c ≤ j + 1) → j + 1 < c
        go' (inl m) = m
        go' (inr m) = absurd (never 0 (omega arith) (omega arith))
    go ih (inr l) = inner_above c cs j l ∙ ih l

-- the ranges that are left, and behind them what is told
pub record LeftTold (rs : List (ℕ × ℕ)) (l : ℕ) (r : RoundScenario) (left : List (ℕ × ℕ)) (t : Tally) : Type 0 where
  pub few : length left ≤ length rs
  pub front : left ≡ take (length left) rs
  pub told : Told r l (length left) (total (take (length left) (sizes_of rs))) (drop (length left) (sizes_of rs)) t

-- the last of them, at the place i
pub record LastLeft (rs : List (ℕ × ℕ)) (l : ℕ) (r : RoundScenario) (i : ℕ) (rest : List (ℕ × ℕ)) (x : ℕ × ℕ) (t : Tally) : Type 0 where
  pub within : i < length rs
  pub counts : length rest ≡ i
  pub front : rest ≡ take i rs
  pub is : x ≡ get_or rs i (0, 0)
  pub told : Told r l (i + 1) (total (take (i + 1) (sizes_of rs))) (drop (i + 1) (sizes_of rs)) t

module _ (rs : List (ℕ × ℕ)) (l : ℕ) (r : RoundScenario) (led : LedRanges l r.leader rs) where
  pub count_cells : length (sizes_of rs) ≡ length rs
  count_cells = length-map rs (λ (x : ℕ × ℕ). x.1)

  pub here : (j : ℕ) → j < length rs → ((get_or rs j (0, 0)).0 ≡ total (take j (sizes_of rs))) × ((get_or rs j (0, 0)).1 ≡ get_or (sizes_of rs) j 0)
  here j h =
      let n = count_cells in
      let e : get_or rs j (0, 0) ≡ get_or (ranges_from 0 (sizes_of rs)) j (0, 0) = ap (λ l. get_or l j (0, 0)) led.ranged in
      let k = range_at 0 (sizes_of rs) j (omega arith) in
      let a = ap (λ (x : ℕ × ℕ). x.0) e in
      let b = ap (λ (x : ℕ × ℕ). x.1) e in
      (omega arith, omega arith)

  some_at : (j : ℕ) → j < length rs → 0 < get_or (sizes_of rs) j 0
  some_at j h = All-get_or (λ c. 0 < c) (sizes_of rs) j 0 (omega (arith, count_cells)) led.filled

  more_at : (j : ℕ) → j < length rs → total (take (j + 1) (sizes_of rs)) ≡ total (take j (sizes_of rs)) + get_or (sizes_of rs) j 0
  more_at j h = total_more j (sizes_of rs) (omega (arith, count_cells))

  most_at : (j : ℕ) → j < length rs → total (take (j + 1) (sizes_of rs)) ≤ total (sizes_of rs)
  most_at j h =
      let n = count_cells in
      let a = total_mono (j + 1) (length rs) (sizes_of rs) (omega arith) in
      let b = ap total (take_all (length rs) (sizes_of rs) (omega arith)) in
      omega arith

  pub bounds_at : (j : ℕ) → j < length rs → (0 < (get_or rs j (0, 0)).1) × ((get_or rs j (0, 0)).0 + (get_or rs j (0, 0)).1 ≤ 64)
  bounds_at j h = let k = here j h in let a = some_at j h in let b = more_at j h in let d = most_at j h in (omega arith, omega (arith, led.within))

  pub placed_at : (j : ℕ) → j < length rs → (b : Bool) → b ≡ eqb j l → Placed b (get_or rs j (0, 0)).0 (get_or rs j (0, 0)).1 r.leader
  placed_at j h true e = let k = here j h in let q = eqb-true j l (sym e) in let f : total (take l (sizes_of rs)) + get_or (sizes_of rs) l 0 ≡ total (take j (sizes_of rs)) + get_or (sizes_of rs) j 0 = cc in omega (arith, led.last)
  placed_at j h false e = go (cases_lt j l)
    where
      go : (j < l) ⊎ (l ≤ j) → (r.leader < (get_or rs j (0, 0)).0) ⊎ ((get_or rs j (0, 0)).0 + (get_or rs j (0, 0)).1 ≤ r.leader)
      go (inl m) = inr (let k = here j h in let a = more_at j h in let b = total_mono (j + 1) l (sizes_of rs) (omega arith) in let d = some_at l led.leads in omega (arith, led.last))
      go (inr m) =
          let ne = eqb-false j l (sym e) in
          let m' : l + 1 ≤ j = omega arith in
          inl (let k = here j h in let a = more_at l led.leads in let b = total_mono (l + 1) j (sizes_of rs) m' in omega (arith, led.last))

  pub refused_at : (j : ℕ) (b : Bool) → j < length rs → CellRefused r (get_or rs j (0, 0)).0 (get_or rs j (0, 0)).1 b → CellsRefused r (sizes_of rs)
  refused_at j b h (inr never) = inr never.1
  refused_at j b h (inl (k, from, to, never)) =
      let e = here j h in
      let n = count_cells in
      let a = more_at j h in
      let d = most_at j h in
      inl (k, omega arith, inner_at (sizes_of rs) j k (omega arith) (omega arith) (omega arith), never)

  pub added_at : (j : ℕ) (t : Tally) (b : Bool) (x : LocalRefinement) (d : ℕ) → j < length rs → b ≡ eqb j l
      → SpellsCell b (get_or rs j (0, 0)).1 (letters_along r (get_or rs j (0, 0)).0 (get_or rs j (0, 0)).1) x d
      → Told r l (j + 1) (total (take (j + 1) (sizes_of rs))) (drop (j + 1) (sizes_of rs)) t
      → Told r l j (total (take j (sizes_of rs))) (drop j (sizes_of rs)) (tallied t (get_or rs j (0, 0)).0 b x d)
  added_at j t b x d h e cell told =
      let k = here j h in
      let n = count_cells in
      let c : ℕ = get_or (sizes_of rs) j 0 in
      let s : ℕ = total (take j (sizes_of rs)) in
      let tail : List ℕ = drop (j + 1) (sizes_of rs) in
      let cell' : SpellsCell b c (letters_along r s c) x d = subst (λ z. SpellsCell b c (letters_along r z c) x d) k.0 (subst (λ z. SpellsCell b z (letters_along r (get_or rs j (0, 0)).0 z) x d) k.1 cell) in
      let told' : Told r l (j + 1) (s + c) tail t = subst (λ z. Told r l (j + 1) z tail t) (more_at j h) told in
      let all : Told r l j s (c ∷ tail) (tallied t s b x d) = told_more r l j s c tail t b x d e cell' told' in
      let at : Told r l j s (c ∷ tail) (tallied t (get_or rs j (0, 0)).0 b x d) = subst (λ z. Told r l j s (c ∷ tail) (tallied t z b x d)) (sym k.0) all in
      subst (λ z. Told r l j s z (tallied t (get_or rs j (0, 0)).0 b x d)) (sym (drop_more (sizes_of rs) j 0 (omega arith))) at

  pub fits_at : (j : ℕ) (t : Tally) → j < length rs → Told r l j (total (take j (sizes_of rs))) (drop j (sizes_of rs)) t → FitsTally t
  fits_at j t h told =
      let a = total_append (take j (sizes_of rs)) (drop j (sizes_of rs)) in
      let b = ap total (take-append-drop j (sizes_of rs)) in
      told_fits r l j (total (take j (sizes_of rs))) (drop j (sizes_of rs)) t told (omega (arith, led.within))

  pub left_last : (i count : ℕ) (left rest : List (ℕ × ℕ)) (x : ℕ × ℕ) (t : Tally) → count ≡ 0 → LeftTold rs l r left t → left ≡ rest ++ (x ∷ []) → i ≡ count + length rest → LastLeft rs l r i rest x t
  left_last i count left rest x t none told e at =
      let counts : length rest ≡ i = omega arith in
      let long : length left ≡ i + 1 = omega (arith, ap length e, length_push rest x) in
      let within : i < length rs = omega (arith, told.few) in
      let both : rest ++ (x ∷ []) ≡ take (i + 1) rs = sym e ∙ told.front ∙ ap (λ k. take k rs) long in
      record {
        within = within;
        counts = counts;
        front = sym (take_at rest (x ∷ []) i counts) ∙ ap (take i) both ∙ take-take i (i + 1) rs (omega arith);
        is = sym (get_or_push rest x (0, 0) i (omega arith)) ∙ ap (λ xs. get_or xs i (0, 0)) both ∙ get_or-take (i + 1) rs i (0, 0) (omega arith);
        told = subst (λ k. Told r l k (total (take k (sizes_of rs))) (drop k (sizes_of rs)) t) long told.told;
      }

  module _ (i : ℕ) (rest : List (ℕ × ℕ)) (x : ℕ × ℕ) (t : Tally) (last : LastLeft rs l r i rest x t) where
    pub last_bounds : (0 < x.1) × (x.0 + x.1 ≤ 64)
    last_bounds = subst (λ (y : ℕ × ℕ). (0 < y.1) × (y.0 + y.1 ≤ 64)) (sym last.is) (bounds_at i last.within)

    pub last_placed : Placed (eqb i l) x.0 x.1 r.leader
    last_placed = subst (λ (y : ℕ × ℕ). Placed (eqb i l) y.0 y.1 r.leader) (sym last.is) (placed_at i last.within (eqb i l) refl)

    pub last_refused : CellRefused r x.0 x.1 (eqb i l) → CellsRefused r (sizes_of rs)
    last_refused refused = refused_at i (eqb i l) last.within (subst (λ (y : ℕ × ℕ). CellRefused r y.0 y.1 (eqb i l)) last.is refused)

    module _ (p : LocalRefinement) (d : ℕ) (cell : SpellsCell (eqb i l) x.1 (letters_along r x.0 x.1) p d) where
      last_told : Told r l i (total (take i (sizes_of rs))) (drop i (sizes_of rs)) (tallied t x.0 (eqb i l) p d)
      last_told =
          subst (λ (y : ℕ × ℕ). Told r l i (total (take i (sizes_of rs))) (drop i (sizes_of rs)) (tallied t y.0 (eqb i l) p d)) (sym last.is)
          (added_at i t (eqb i l) p d last.within refl (subst (λ (y : ℕ × ℕ). SpellsCell (eqb i l) y.1 (letters_along r y.0 y.1) p d) last.is cell) last.told)

      pub last_fits : FitsTally (tallied t x.0 (eqb i l) p d)
      last_fits = fits_at i (tallied t x.0 (eqb i l) p d) last.within last_told

      pub left_more : (u : Tally) → u ≡ tallied t x.0 (eqb i l) p d → LeftTold rs l r rest u
      left_more u e = record {
        few = omega (arith, last.within, last.counts);
        front = last.front ∙ ap (λ k. take k rs) (sym last.counts);
        told = subst (λ k. Told r l k (total (take k (sizes_of rs))) (drop k (sizes_of rs)) u) (sym last.counts)
            (subst (Told r l i (total (take i (sizes_of rs))) (drop i (sizes_of rs))) (sym e) last_told);
      }
