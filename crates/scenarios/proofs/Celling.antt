-- One cell of a turn: its word, by its split and the number of its letters, and back. Assumes nothing.
use Rattle.std.proofs.Common.{◌≡◌, ℕ, suc, ◌+◌, ◌-◌, ◌*◌, ◌/◌, ◌%◌, ◌<◌, ◌≤◌, Bool, true, false, ◌⊎◌, List, [], ◌∷◌, ◌++◌, length, get_or, take, sym, refl, ap, ◌∙◌, subst, inl, inr, arith}
use Rattle.std.specs.List.{AllByRecursion}
use Rattle.std.proofs.lemmas.Bool.{true≢false, false≢true, cases_lt}
use Rattle.std.proofs.lemmas.List.{length_push, get_or_push, same_from_push, take_more, take_all, get_or-take, length-take-le}
use Rattle.std.proofs.ByRecursion.{All-get_or, All-from_get_or, All-append}
use Rattle.scenarios.specs.Cells.{total}
use Rattle.scenarios.specs.Turns.{choose, subset, free, ways, tones, spell}
use Rattle.scenarios.specs.Fits.{Split}
use Rattle.scenarios.proofs.Lettering.{Proper, proper_right}
use Rattle.scenarios.proofs.Choosing.{Upwards, upwards_wider, rank, length_subset, upwards_subset, few_chosen, rank_subset, subset_rank}
use Rattle.scenarios.proofs.Parting.{total_append, Lays}
use Rattle.scenarios.proofs.Spelling.{length_spell, spell_append, Climbs, spell_climbs, climbs_below, climbs_from, spell_lays, Runs, runs, spell_apart}

-- the letters of the parts

pub upwards_push : (low y : ℕ) (xs : List ℕ) → low ≤ 4 → Upwards low 4 xs → 4 ≤ y → y < 8 → Upwards low 8 (xs ++ (y ∷ []))
upwards_push low y [] h u a b = (omega arith, b, tt)
upwards_push low y (x ∷ xs) h u a b = (u.0, omega arith, upwards_push (suc x) y xs (omega arith) u.2 a b)

pub tones_upwards : (b : Bool) (ps : List ℕ) (d : ℕ) → Upwards 0 8 (tones b ps d)
tones_upwards true ps d = upwards_push 0 (7 - d % 3) (subset (free true ps) (d / 3)) (omega arith) (upwards_subset (free true ps) (d / 3)) (omega arith) (omega arith)
tones_upwards false ps d = upwards_wider 0 0 4 8 (subset (free false ps) d) (omega arith) (omega arith) (upwards_subset (free false ps) d)

pub some_part : (c : ℕ) (ps : List ℕ) → Split true c ps → 0 < length ps
some_part c [] s = let e = s.alone refl in absurd (omega arith)
some_part c (p ∷ ps) s = omega arith

pub length_tones : (b : Bool) (c : ℕ) (ps : List ℕ) (d : ℕ) → Split b c ps → d < ways b ps → length ps ≡ length (tones b ps d)
length_tones true c ps d s h =
    let k = length_subset (free true ps) (d / 3) (omega arith) in
    let l = length_push (subset (free true ps) (d / 3)) (7 - d % 3) in
    omega (arith, some_part c ps s)
length_tones false c ps d s h = let k = length_subset (free false ps) d (omega arith) in omega arith

pub tones_apart : (b : Bool) (ps : List ℕ) (d d' : ℕ) → d < ways b ps → d' < ways b ps → tones b ps d ≡ tones b ps d' → d ≡ d'
tones_apart true ps d d' h h' e =
    let same = same_from_push (subset (free true ps) (d / 3)) (subset (free true ps) (d' / 3)) (7 - d % 3) (7 - d' % 3) e in
    let k = rank_subset (free true ps) (d / 3) (omega arith) in
    let k' = rank_subset (free true ps) (d' / 3) (omega arith) in
    let high = sym k ∙ ap rank same.0 ∙ k' in
    let low = same.1 in
    omega arith
tones_apart false ps d d' h h' e = sym (rank_subset (free false ps) d (omega arith)) ∙ ap rank e ∙ rank_subset (free false ps) d' (omega arith)

-- the word of a cell

module _ (b : Bool) (c : ℕ) (ps : List ℕ) (d : ℕ) (s : Split b c ps) (h : d < ways b ps) where
  pub cell_lays : Lays (c ∷ []) ps (spell ps (tones b ps d))
  cell_lays = spell_lays 0 8 c ps (tones b ps d) s.filled (length_tones b c ps d s h) (tones_upwards b ps d) s.whole

pub low_cell : (b : Bool) (ps : List ℕ) (d : ℕ) → b ≡ false → AllByRecursion (λ x. x < 4) (spell ps (tones b ps d))
low_cell true ps d e = absurd (true≢false e)
low_cell false ps d e = climbs_below 0 4 _ (spell_climbs 0 4 ps (subset (free false ps) d) (upwards_subset (free false ps) d))

pub last_part : (ps : List ℕ) → 0 < length ps → get_or ps (length ps - 1) 0 ≡ 1 → ps ≡ take (length ps - 1) ps ++ (1 ∷ [])
last_part ps h e =
    let more = take_more ps (length ps - 1) 0 (omega arith) in
    let all = take_all (length ps - 1 + 1) ps (omega arith) in
    sym all ∙ more ∙ ap (λ x. take (length ps - 1) ps ++ (x ∷ [])) e

pub proper_cell : (b : Bool) (c : ℕ) (ps : List ℕ) (d : ℕ) → b ≡ true → Split b c ps → d < ways b ps → Proper (c - 1) (spell ps (tones b ps d))
proper_cell false c ps d e s h = absurd (false≢true e)
proper_cell true c ps d e s h = subst (λ w. Proper (c - 1) w) (sym word) (subst (λ k. Proper k (spell qs xs ++ (y ∷ []))) place (proper_right 0 (spell qs xs) (y ∷ []) low (record { leads = omega arith; loud = omega arith; below = omega arith; others = λ i l ne. absurd (omega arith) })))
  where
    qs : List ℕ
    qs = take (length ps - 1) ps

    xs : List ℕ
    xs = subset (free true ps) (d / 3)

    y : ℕ
    y = 7 - d % 3

    some : 0 < length ps
    some = some_part c ps s

    is : ps ≡ qs ++ (1 ∷ [])
    is = last_part ps some (s.alone refl)

    even : length qs ≡ length xs
    even = length-take-le (length ps - 1) ps (omega arith) ∙ sym (length_subset (free true ps) (d / 3) (omega arith))

    low : AllByRecursion (λ x. x < 4) (spell qs xs)
    low = climbs_below 0 4 _ (spell_climbs 0 4 qs xs (upwards_subset (free true ps) (d / 3)))

    word : spell ps (xs ++ (y ∷ [])) ≡ spell qs xs ++ (y ∷ [])
    word = ap (λ q. spell q (xs ++ (y ∷ []))) is ∙ spell_append qs (1 ∷ []) xs (y ∷ []) even

    place : length (spell qs xs) + 0 ≡ c - 1
    place = omega (arith, length_spell qs xs even, ap total is, total_append qs (1 ∷ []), s.whole)

-- a cell's word says its split and its number

pub same_led : (b b' : Bool) (c : ℕ) (ps ps' : List ℕ) (d d' : ℕ) → Split b c ps → Split b' c ps' → d < ways b ps → d' < ways b' ps' → spell ps (tones b ps d) ≡ spell ps' (tones b' ps' d') → b ≡ b'
same_led true true c ps ps' d d' s s' h h' e = refl
same_led false false c ps ps' d d' s s' h h' e = refl
same_led true false c ps ps' d d' s s' h h' e =
    let p = proper_cell true c ps d refl s h in
    let low = All-get_or (λ x. x < 4) (spell ps (tones true ps d)) (c - 1) 0 p.leads (subst (λ w. AllByRecursion (λ x. x < 4) w) (sym e) (low_cell false ps' d' refl)) in
    absurd (omega arith)
same_led false true c ps ps' d d' s s' h h' e =
    let p = proper_cell true c ps' d' refl s' h' in
    let low = All-get_or (λ x. x < 4) (spell ps' (tones true ps' d')) (c - 1) 0 p.leads (subst (λ w. AllByRecursion (λ x. x < 4) w) e (low_cell false ps d refl)) in
    absurd (omega arith)

pub cell_apart : (b : Bool) (c : ℕ) (ps ps' : List ℕ) (d d' : ℕ) → Split b c ps → Split b c ps' → d < ways b ps → d' < ways b ps' → spell ps (tones b ps d) ≡ spell ps' (tones b ps' d') → (ps ≡ ps') × (d ≡ d')
cell_apart b c ps ps' d d' s s' h h' e =
    let both = spell_apart 0 0 8 ps ps' (tones b ps d) (tones b ps' d') s.filled s'.filled (length_tones b c ps d s h) (length_tones b c ps' d' s' h') (tones_upwards b ps d) (tones_upwards b ps' d') e in
    (both.0, tones_apart b ps d d' h (subst (λ q. d' < ways b q) (sym both.0) h') (both.1 ∙ ap (λ q. tones b q d') (sym both.0)))

-- each word that rises is the word of a cell

pub record Cell (b : Bool) (c : ℕ) (w : List ℕ) : Type 0 where
  pub parts : List ℕ
  pub digit : ℕ
  pub split : Split b c parts
  pub below : digit < ways b parts
  pub spells : spell parts (tones b parts digit) ≡ w

pub cell_free : (c : ℕ) (w : List ℕ) → length w ≡ c → Climbs 0 4 w → Cell false c w
cell_free c w len climbs = record { parts = ps; digit = rank xs; split = record { filled = r.filled; whole = omega (arith, length_spell ps xs r.even, ap length r.spells); few = omega (arith, few_chosen (length xs) (rank xs) k.0, n); alone = λ e. absurd (false≢true e) }; below = below; spells = ap (λ ys. spell ps ys) tones_are ∙ r.spells }
  where
    r : Runs 0 4 w
    r = runs 0 4 w climbs

    ps : List ℕ
    ps = r.sizes

    xs : List ℕ
    xs = r.heads

    n : free false ps ≡ length xs
    n = omega (arith, r.even)

    k : (rank xs < choose (length xs)) × (subset (length xs) (rank xs) ≡ xs)
    k = subset_rank xs r.upwards

    below : rank xs < choose (free false ps) * 1
    below = rw n (omega (arith, k.0))

    tones_are : tones false ps (rank xs) ≡ xs
    tones_are = ap (λ m. subset m (rank xs)) n ∙ k.1

pub cell_led : (c : ℕ) (v : List ℕ) (y : ℕ) → length v + 1 ≡ c → Climbs 0 4 v → 5 ≤ y → y < 8 → Cell true c (v ++ (y ∷ []))
cell_led c v y len climbs loud small = record {
  parts = ps ++ (1 ∷ []);
  digit = rank xs * 3 + (7 - y);
  split = record {
    filled = All-append (λ p. 0 < p) ps (1 ∷ []) r.filled (omega arith, tt);
    whole = omega (arith, total_append ps (1 ∷ []), length_spell ps xs r.even, ap length r.spells);
    few = omega (arith, few_chosen (length xs) (rank xs) k.0, n);
    alone = λ e. get_or_push ps 1 0 (length (ps ++ (1 ∷ [])) - 1) (omega (arith, n, r.even));
  };
  below = below;
  spells = ap (λ ys. spell (ps ++ (1 ∷ [])) ys) tones_are ∙ spell_append ps (1 ∷ []) xs (y ∷ []) r.even ∙ ap (λ u. u ++ (y ∷ [])) r.spells;
}
  where
    r : Runs 0 4 v
    r = runs 0 4 v climbs

    ps : List ℕ
    ps = r.sizes

    xs : List ℕ
    xs = r.heads

    n : free true (ps ++ (1 ∷ [])) ≡ length xs
    n = omega (arith, r.even, length_push ps 1)

    k : (rank xs < choose (length xs)) × (subset (length xs) (rank xs) ≡ xs)
    k = subset_rank xs r.upwards

    below : rank xs * 3 + (7 - y) < choose (free true (ps ++ (1 ∷ []))) * 3
    below = rw n (omega (arith, k.0))

    tones_are : tones true (ps ++ (1 ∷ [])) (rank xs * 3 + (7 - y)) ≡ xs ++ (y ∷ [])
    tones_are =
        let high : (rank xs * 3 + (7 - y)) / 3 ≡ rank xs = omega arith in
        let low : 7 - (rank xs * 3 + (7 - y)) % 3 ≡ y = omega arith in
        rw (n, high, low, k.1)

-- and a word that rises to its only loud letter ends with it
pub cell_loud : (c k : ℕ) (w : List ℕ) → length w ≡ c → Proper k w → ((j : ℕ) → suc j < length w → get_or w j 0 ≤ get_or w (suc j) 0) → Cell true c w
cell_loud c k w len p up = subst (λ v. Cell true c v) (sym is) (cell_led c (take k w) (get_or w k 0) (omega (arith, short, last)) climbs p.loud p.below)
  where
    ends : (k + 1 < length w) ⊎ (length w ≤ k + 1) → length w ≡ k + 1
    ends (inl l) =
        let a = up k (omega arith) in
        let b = p.others (suc k) (omega arith) (λ e. omega arith) in
        absurd (omega (arith, p.loud))
    ends (inr l) = omega (arith, p.leads)

    last : length w ≡ k + 1
    last = ends (cases_lt (k + 1) (length w))

    is : w ≡ take k w ++ (get_or w k 0 ∷ [])
    is = sym (take_all (k + 1) w (omega (arith, last))) ∙ take_more w k 0 p.leads

    short : length (take k w) ≡ k
    short = length-take-le k w (omega (arith, last))

    climbs : Climbs 0 4 (take k w)
    climbs = climbs_from 0 4 (take k w) (λ h. omega arith)
        (All-from_get_or (λ x. x < 4) (take k w) 0 (λ i h. let l : i < k = omega (arith, short) in rw (get_or-take k w i 0 l) (p.others i (omega (arith, last)) (λ e. omega arith))))
        (λ j h. let l : suc j < k = omega (arith, short) in rw (get_or-take k w j 0 (omega arith), get_or-take k w (suc j) 0 l) (up j (omega (arith, last))))
