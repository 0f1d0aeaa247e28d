-- All cells of a turn, and the theorems on its rounds. Assumes nothing.
use Rattle.std.proofs.Common.{◌≡◌, ℕ, zero, suc, ◌+◌, ◌-◌, ◌*◌, ◌/◌, ◌%◌, ◌<◌, ◌≤◌, Bool, true, eqb, ◌≢◌, ◌⊎◌, List, [], ◌∷◌, length, get_or, take, drop, sym, refl, ap, ◌∙◌, subst, inl, inr, mul_comm, zero-mul, add-one, arith}
use Rattle.std.specs.List.{flat_map, AllByRecursion}
use Rattle.std.proofs.lemmas.Bool.{cases_lt, cases_eq, eq-eqb, ne_eqb, eqb-true, lt-ltb, and_parts, and_from}
use Rattle.std.proofs.lemmas.Nat.{div_below, mod_below, div-mul-add, mod-mul-add, div-add-mod', mul-add-lt}
use Rattle.std.proofs.lemmas.List.{take-append-drop, take_at, drop_at, length-take-le, length-drop, get_or-take, get_or-drop}
use Rattle.std.proofs.ByRecursion.{All-append, All-take, All-drop, All-from_get_or}
use Rattle.scenarios.specs.Cells.{total, inner}
use Rattle.scenarios.specs.Letters.{letter, letters_of, round_of}
use Rattle.scenarios.specs.Turns.{ways, tones, spell, weight_from, letters_from, weight, after, round}
use Rattle.scenarios.specs.Fits.{Split, Fills}
use Rattle.scenarios.specs.Canonical.{LegalRound, Alike}
use Rattle.scenarios.specs.Claims.{RoundsStand, RoundsFound, RoundsApart}
use Rattle.scenarios.proofs.Lettering.{order_from, order_to, alike_from, alike_to, Proper, proper_left, proper_right, letter_round, letters_round, legal_round, length_letters, getD_letters, letters_proper, round_letters}
use Rattle.scenarios.proofs.Parting.{inner_below, inner_above, Lays, lays_none, lays_append}
use Rattle.scenarios.proofs.Spelling.{climbs_from}
use Rattle.scenarios.proofs.Celling.{cell_lays, low_cell, proper_cell, same_led, cell_apart, Cell, cell_free, cell_loud}

pub digit_below : (d a b : ℕ) → d < a * b → (d % a < a) × (d / a < b)
digit_below d zero b h = absurd (omega (arith, zero-mul b))
digit_below d (suc a) b h = (mod_below d (suc a) (omega arith), div_below d (suc a) b (omega arith) (omega (arith, mul_comm (suc a) b)))

-- the letters of a turn

pub fill_lays : (l i : ℕ) (cs : List ℕ) (f : List (List ℕ)) (d : ℕ) → Fills l i cs f → d < weight_from l i f → Lays cs (flat_map (λ ps. ps) f) (letters_from l i f d)
fill_lays l i [] [] d s h = lays_none
fill_lays l i [] (ps ∷ f) d s h = absurd s
fill_lays l i (c ∷ cs) [] d s h = absurd s
fill_lays l i (c ∷ cs) (ps ∷ f) d s h =
    let w = ways (eqb i l) ps in
    let k = digit_below d w (weight_from l (i + 1) f) h in
    lays_append (c ∷ []) cs ps (flat_map (λ qs. qs) f) (spell ps (tones (eqb i l) ps (d % w))) (letters_from l (i + 1) f (d / w))
    (cell_lays (eqb i l) c ps (d % w) s.0 k.0) (fill_lays l (i + 1) cs f (d / w) s.1 k.1)

pub fill_low : (l i : ℕ) (f : List (List ℕ)) (d : ℕ) → l < i → AllByRecursion (λ x. x < 4) (letters_from l i f d)
fill_low l i [] d h = tt
fill_low l i (ps ∷ f) d h =
    let w = ways (eqb i l) ps in
    All-append (λ x. x < 4) (spell ps (tones (eqb i l) ps (d % w))) (letters_from l (i + 1) f (d / w)) (low_cell (eqb i l) ps (d % w) (ne_eqb i l (λ e. omega arith))) (fill_low l (i + 1) f (d / w) (omega arith))

pub fill_proper : (l i : ℕ) (cs : List ℕ) (f : List (List ℕ)) (d : ℕ) → Fills l i cs f → i ≤ l → l < i + length cs → d < weight_from l i f → (k : ℕ) × Proper k (letters_from l i f d)
fill_proper l i [] [] d s a b h = absurd (omega arith)
fill_proper l i [] (ps ∷ f) d s a b h = absurd s
fill_proper l i (c ∷ cs) [] d s a b h = absurd s
fill_proper l i (c ∷ cs) (ps ∷ f) d s a b h = go (λ e. fill_proper l (i + 1) cs f (d / ways (eqb i l) ps) s.1 (omega (arith, e)) (omega arith) k.1) (cases_eq i l)
  where
    k : (d % ways (eqb i l) ps < ways (eqb i l) ps) × (d / ways (eqb i l) ps < weight_from l (i + 1) f)
    k = digit_below d (ways (eqb i l) ps) (weight_from l (i + 1) f) h

    go : (i ≢ l → (k : ℕ) × Proper k (letters_from l (i + 1) f (d / ways (eqb i l) ps))) → (i ≡ l) ⊎ (i ≢ l) → (k : ℕ) × Proper k (letters_from l i (ps ∷ f) d)
    go ih (inl e) = (c - 1, proper_left (c - 1) _ _ (proper_cell (eqb i l) c ps (d % ways (eqb i l) ps) (eq-eqb i l e) s.0 k.0) (fill_low l (i + 1) f (d / ways (eqb i l) ps) (omega arith)))
    go ih (inr e) = (_, proper_right (ih e).0 _ _ (low_cell (eqb i l) ps (d % ways (eqb i l) ps) (ne_eqb i l e)) (ih e).1)

pub rounds_stand : RoundsStand
unfolding weight after round
rounds_stand n cs t d cells fits h = record {
  cells = record { filled = lays.filled; whole = lays.whole ∙ cells.whole };
  legal = subst (λ m. LegalRound m (round_of ls)) long (legal_round p.0 ls p.1);
  ordered = λ i l e. order_to (round_of ls) i (rw (at i (omega arith), at (i + 1) l) (lays.rises i e));
  parts = λ i l. (there i l, back i l);
}
  where
    ls : List ℕ
    ls = letters_from t.leader 0 t.fill d

    lays : Lays cs (flat_map (λ ps. ps) t.fill) ls
    lays = fill_lays t.leader 0 cs t.fill d fits.split h

    p : (k : ℕ) × Proper k ls
    p = fill_proper t.leader 0 cs t.fill d fits.split (omega arith) (omega (arith, fits.leads)) h

    long : length ls ≡ n
    long = lays.long ∙ cells.whole

    at : (i : ℕ) → i < n → letter (round_of ls) i ≡ get_or ls i 0
    at i l = letter_round p.0 ls p.1 i (omega (arith, long))

    there : (i : ℕ) → i + 1 < n → inner (flat_map (λ ps. ps) t.fill) i ≡ true → (inner cs i ≡ true) × Alike (round_of ls) i
    there i l e =
        let both = and_parts (inner cs i) (eqb (get_or ls i 0) (get_or ls (i + 1) 0)) (sym (lays.parts i) ∙ e) in
        (both.0, alike_to (round_of ls) i (at i (omega arith) ∙ eqb-true _ _ both.1 ∙ sym (at (i + 1) l)))

    back : (i : ℕ) → i + 1 < n → (inner cs i ≡ true) × Alike (round_of ls) i → inner (flat_map (λ ps. ps) t.fill) i ≡ true
    back i l (e, a) = lays.parts i ∙ and_from _ _ e (eq-eqb _ _ (sym (at i (omega arith)) ∙ alike_from (round_of ls) i a ∙ at (i + 1) l))

-- the turn of letters

abbrev Rises : List ℕ → List ℕ → Type 0
Rises cs ls = (j : ℕ) → j + 1 < length ls → inner cs j ≡ true → get_or ls j 0 ≤ get_or ls (j + 1) 0

record Found (l i : ℕ) (cs ls : List ℕ) : Type 0 where
  pub fill : List (List ℕ)
  pub digit : ℕ
  pub fills : Fills l i cs fill
  pub below : digit < weight_from l i fill
  pub letters : letters_from l i fill digit ≡ ls

module _ (c : ℕ) (cs ls : List ℕ) (len : length ls ≡ c + total cs) where
  short : length (take c ls) ≡ c
  short = length-take-le c ls (omega arith)

  rest : length (drop c ls) ≡ total cs
  rest = let e = length-drop c ls in omega arith

  front_at : (i : ℕ) → i < c → get_or (take c ls) i 0 ≡ get_or ls i 0
  front_at i h = get_or-take c ls i 0 h

  front_rises : Rises (c ∷ cs) ls → (j : ℕ) → suc j < length (take c ls) → get_or (take c ls) j 0 ≤ get_or (take c ls) (suc j) 0
  front_rises up j h =
      let s = short in
      rw (front_at j (omega arith), front_at (suc j) (omega arith), ← add-one) (up j (omega arith) (inner_below c cs j (omega arith) ∙ lt-ltb (j + 1) c (omega arith)))

  back_rises : Rises (c ∷ cs) ls → Rises cs (drop c ls)
  back_rises up j h e =
      let s = rest in
      let a : c + j - c ≡ j = omega arith in
      let b : c + (j + 1) ≡ c + j + 1 = omega arith in
      rw (get_or-drop c ls j 0, get_or-drop c ls (j + 1) 0, b) (up (c + j) (omega arith) (inner_above c cs (c + j) (omega arith) ∙ ap (inner cs) a ∙ e))

  front_low : (k : ℕ) → Proper k ls → c ≤ k → AllByRecursion (λ x. x < 4) (take c ls)
  front_low k p h = All-from_get_or (λ x. x < 4) (take c ls) 0 (λ i l. let m : i < c = omega (arith, short) in rw (front_at i m) (p.others i (omega arith) (λ e. omega arith)))

  back_low : (k : ℕ) → Proper k ls → k < c → AllByRecursion (λ x. x < 4) (drop c ls)
  back_low k p h = All-from_get_or (λ x. x < 4) (drop c ls) 0 (λ i l. rw (get_or-drop c ls i 0) (p.others (c + i) (omega (arith, rest)) (λ e. omega arith)))

  front_proper : (k : ℕ) → Proper k ls → k < c → Proper k (take c ls)
  front_proper k p h = record { leads = omega (arith, short); loud = rw (front_at k h) p.loud; below = rw (front_at k h) p.below; others = λ i l ne. let m : i < c = omega (arith, short) in rw (front_at i m) (p.others i (omega arith) ne) }

  back_proper : (k : ℕ) → Proper k ls → c ≤ k → Proper (k - c) (drop c ls)
  back_proper k p h =
      let e : c + (k - c) ≡ k = omega arith in
      record { leads = omega (arith, rest, p.leads); loud = rw (get_or-drop c ls (k - c) 0, e) p.loud; below = rw (get_or-drop c ls (k - c) 0, e) p.below; others = λ i l ne. rw (get_or-drop c ls i 0) (p.others (c + i) (omega (arith, rest)) (λ q. ne (omega arith))) }

  found_more : (l i : ℕ) → Cell (eqb i l) c (take c ls) → Found l (i + 1) cs (drop c ls) → Found l i (c ∷ cs) ls
  found_more l i a b = record {
    fill = a.parts ∷ b.fill;
    digit = b.digit * w + a.digit;
    fills = (a.split, b.fills);
    below = mul-add-lt b.digit w a.digit (weight_from l (i + 1) b.fill) b.below a.below;
    letters = rw (mod-mul-add b.digit w a.digit a.below, div-mul-add b.digit w a.digit a.below, a.spells, b.letters) (take-append-drop c ls);
  }
    where
      w : ℕ
      w = ways (eqb i l) a.parts

found_none : (l i : ℕ) (ls : List ℕ) → length ls ≡ 0 → Found l i [] ls
found_none l i [] e = record { fill = []; digit = 0; fills = tt; below = omega arith; letters = refl }
found_none l i (x ∷ ls) e = absurd (omega arith)

found_low : (l i : ℕ) (cs ls : List ℕ) → l < i → length ls ≡ total cs → AllByRecursion (λ x. x < 4) ls → Rises cs ls → Found l i cs ls
found_low l i [] ls h len low up = found_none l i ls len
found_low l i (c ∷ cs) ls h len low up =
    found_more c cs ls len l i
    (subst (λ b. Cell b c (take c ls)) (sym (ne_eqb i l (λ e. omega arith))) (cell_free c (take c ls) (short c cs ls len) (climbs_from 0 4 (take c ls) (λ _. omega arith) (All-take (λ x. x < 4) c ls low) (front_rises c cs ls len up))))
    (found_low l (i + 1) cs (drop c ls) (omega arith) (rest c cs ls len) (All-drop (λ x. x < 4) c ls low) (back_rises c cs ls len up))

found_led : (i k : ℕ) (cs ls : List ℕ) → length ls ≡ total cs → Proper k ls → Rises cs ls → (l : ℕ) × (i ≤ l) × (l < i + length cs) × Found l i cs ls
found_led i k [] ls len p up = absurd (omega (arith, p.leads))
found_led i k (c ∷ cs) ls len p up = go (λ h. found_led (i + 1) (k - c) cs (drop c ls) (rest c cs ls len) (back_proper c cs ls len k p h) (back_rises c cs ls len up)) (cases_lt k c)
  where
    go : (c ≤ k → (l : ℕ) × (i + 1 ≤ l) × (l < i + 1 + length cs) × Found l (i + 1) cs (drop c ls)) → (k < c) ⊎ (c ≤ k) → (l : ℕ) × (i ≤ l) × (l < i + suc (length cs)) × Found l i (c ∷ cs) ls
    go ih (inl h) = (
      i,
      omega arith,
      omega arith,
      found_more c cs ls len i i
          (subst (λ b. Cell b c (take c ls)) (sym (eq-eqb i i refl)) (cell_loud c k (take c ls) (short c cs ls len) (front_proper c cs ls len k p h) (front_rises c cs ls len up)))
          (found_low i (i + 1) cs (drop c ls) (omega arith) (rest c cs ls len) (back_low c cs ls len k p h) (back_rises c cs ls len up)),
    )
    go ih (inr h) =
        let r = ih h in
        let after = r.1 in (
          r.0,
          omega arith,
          omega (arith, r.2),
          found_more c cs ls len r.0 i
              (subst (λ b. Cell b c (take c ls)) (sym (ne_eqb i r.0 (λ e. omega arith))) (cell_free c (take c ls) (short c cs ls len) (climbs_from 0 4 (take c ls) (λ _. omega arith) (front_low c cs ls len k p h) (front_rises c cs ls len up))))
              r.3,
        )

pub rounds_found : RoundsFound
unfolding weight round
rounds_found n cs r cells legal ordered =
    (record { leader = found.0; fill = f.fill }, f.digit, record { leads = omega (arith, found.2); split = f.fills }, f.below, ap round_of f.letters ∙ round_letters n r legal)
  where
    rises : Rises cs (letters_of n r)
    rises j h e =
        let l : j + 1 < n = omega (arith, length_letters n r) in
        rw (getD_letters n r j (omega arith), getD_letters n r (j + 1) l) (order_from r j (ordered j l e))

    found : (l : ℕ) × (0 ≤ l) × (l < 0 + length cs) × Found l 0 cs (letters_of n r)
    found = found_led 0 r.leader cs (letters_of n r) (length_letters n r ∙ sym cells.whole) (letters_proper n r legal) rises

    f : Found found.0 0 cs (letters_of n r)
    f = found.3

-- the turn of letters is one

record Same (l l' i : ℕ) (cs : List ℕ) (f f' : List (List ℕ)) (d d' : ℕ) : Type 0 where
  pub leader : (j : ℕ) → i ≤ j → j < i + length cs → eqb j l ≡ eqb j l'
  pub fill : f ≡ f'
  pub digit : d ≡ d'

same_digits : (d d' a a' : ℕ) → a ≡ a' → d % a ≡ d' % a' → d / a ≡ d' / a' → d ≡ d'
same_digits d d' a a' e low high = sym (div-add-mod' d a) ∙ (cc (e, low, high)) ∙ div-add-mod' d' a'

fills_apart : (l l' i : ℕ) (cs : List ℕ) (f f' : List (List ℕ)) (d d' : ℕ) → Fills l i cs f → Fills l' i cs f' → d < weight_from l i f → d' < weight_from l' i f' → letters_from l i f d ≡ letters_from l' i f' d' → Same l l' i cs f f' d d'
fills_apart l l' i [] [] [] d d' s s' h h' e = record { leader = λ j a b. absurd (omega arith); fill = refl; digit = omega arith }
fills_apart l l' i [] [] (ps' ∷ f') d d' s s' h h' e = absurd s'
fills_apart l l' i [] (ps ∷ f) f' d d' s s' h h' e = absurd s
fills_apart l l' i (c ∷ cs) [] f' d d' s s' h h' e = absurd s
fills_apart l l' i (c ∷ cs) (ps ∷ f) [] d d' s s' h h' e = absurd s'
fills_apart l l' i (c ∷ cs) (ps ∷ f) (ps' ∷ f') d d' s s' h h' e =
    go (fills_apart l l' (i + 1) cs f f' (d / ways b ps) (d' / ways b' ps') s.1 s'.1 k.1 k'.1 behind)
  where
    b : Bool
    b = eqb i l

    b' : Bool
    b' = eqb i l'

    k : (d % ways b ps < ways b ps) × (d / ways b ps < weight_from l (i + 1) f)
    k = digit_below d (ways b ps) (weight_from l (i + 1) f) h

    k' : (d' % ways b' ps' < ways b' ps') × (d' / ways b' ps' < weight_from l' (i + 1) f')
    k' = digit_below d' (ways b' ps') (weight_from l' (i + 1) f') h'

    w : List ℕ
    w = spell ps (tones b ps (d % ways b ps))

    w' : List ℕ
    w' = spell ps' (tones b' ps' (d' % ways b' ps'))

    long : length w ≡ c
    long = omega (arith, (cell_lays b c ps (d % ways b ps) s.0 k.0).long)

    long' : length w' ≡ c
    long' = omega (arith, (cell_lays b' c ps' (d' % ways b' ps') s'.0 k'.0).long)

    ahead : w ≡ w'
    ahead = sym (take_at w _ c long) ∙ ap (take c) e ∙ take_at w' _ c long'

    behind : letters_from l (i + 1) f (d / ways b ps) ≡ letters_from l' (i + 1) f' (d' / ways b' ps')
    behind = sym (drop_at w _ c long) ∙ ap (drop c) e ∙ drop_at w' _ c long'

    led : b ≡ b'
    led = same_led b b' c ps ps' (d % ways b ps) (d' % ways b' ps') s.0 s'.0 k.0 k'.0 ahead

    cell : (ps ≡ ps') × (d % ways b ps ≡ d' % ways b' ps')
    cell = cell_apart b c ps ps' (d % ways b ps) (d' % ways b' ps') s.0 (subst (λ x. Split x c ps') (sym led) s'.0) k.0
        (subst (λ x. d' % ways b' ps' < ways x ps') (sym led) k'.0) (ahead ∙ ap (λ x. spell ps' (tones x ps' (d' % ways b' ps'))) (sym led))

    go : Same l l' (i + 1) cs f f' (d / ways b ps) (d' / ways b' ps') → Same l l' i (c ∷ cs) (ps ∷ f) (ps' ∷ f') d d'
    go r = record { leader = λ j x y. at j x y (cases_eq i j); fill = cc (cell.0, r.fill); digit = same_digits d d' (ways b ps) (ways b' ps') (cc (led, cell.0)) cell.1 r.digit }
      where
        at : (j : ℕ) → i ≤ j → j < i + suc (length cs) → (i ≡ j) ⊎ (i ≢ j) → eqb j l ≡ eqb j l'
        at j x y (inl q) = subst (λ m. eqb m l ≡ eqb m l') q led
        at j x y (inr q) = r.leader j (omega arith) (omega arith)

pub rounds_apart : RoundsApart
unfolding weight round
rounds_apart n cs t t' d d' cells fits fits' h h' e = ((λ i. record { leader = leader i; fill = same.fill i }), same.digit)
  where
    ls : List ℕ
    ls = letters_from t.leader 0 t.fill d

    ls' : List ℕ
    ls' = letters_from t'.leader 0 t'.fill d'

    p : (k : ℕ) × Proper k ls
    p = fill_proper t.leader 0 cs t.fill d fits.split (omega arith) (omega (arith, fits.leads)) h

    p' : (k : ℕ) × Proper k ls'
    p' = fill_proper t'.leader 0 cs t'.fill d' fits'.split (omega arith) (omega (arith, fits'.leads)) h'

    long : length ls ≡ length ls'
    long = (fill_lays t.leader 0 cs t.fill d fits.split h).long ∙ sym (fill_lays t'.leader 0 cs t'.fill d' fits'.split h').long

    letters : ls ≡ ls'
    letters = sym (letters_round p.0 ls p.1) ∙ ap (λ r. letters_of (length ls) r) e ∙ ap (λ m. letters_of m (round_of ls')) long ∙ letters_round p'.0 ls' p'.1

    same : Same t.leader t'.leader 0 cs t.fill t'.fill d d'
    same = fills_apart t.leader t'.leader 0 cs t.fill t'.fill d d' fits.split fits'.split h h' letters

    leader : t.leader ≡ t'.leader
    leader = eqb-true _ _ (sym (same.leader t.leader (omega arith) (omega (arith, fits.leads))) ∙ eq-eqb t.leader t.leader refl)
