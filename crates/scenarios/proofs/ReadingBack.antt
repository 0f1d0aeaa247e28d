-- Words read back member by member: the masks of roles, the parts, and the number of a choice. Assumes nothing.
use Rattle.std.proofs.Common.{◌≡◌, ℕ, zero, suc, ◌+◌, ◌-◌, ◌*◌, ◌/◌, ◌%◌, ◌^◌, ◌<◌, ◌≤◌, eqb, ◌≢◌, ◌⊎◌, List, [], ◌∷◌, ◌++◌, length, get_or, take, set, replicate, filter, sym, refl, ap, ◌∙◌, subst, inl, inr, mul-le-mul_right, arith, lit<, pow_mono}
use lib.Count.{ones}
use Rattle.std.specs.List.{range_with_len, AllByRecursion}
use Rattle.std.proofs.lemmas.Bool.{cases_lt, cases_eq}
use Rattle.std.proofs.lemmas.Nat.{pow_pos, one_shl, div-add-mod', mod_below}
use Rattle.std.proofs.lemmas.List.{append_assoc, append-nil, length-append, length-replicate, length_push, length-take-le, take_more, take_more_set, take-take, replicate_more, get_or_push, get_or-append_right, get_or-replicate}
use Rattle.std.proofs.ByRecursion.{All-append, All-take, All-get_or}
use Rattle.std.proofs.lemmas.List.FromFn.{length-map-range_with_len, get_or-map-range_with_len, map-range_with_len_more}
use Rattle.scenarios.specs.declared.round.RoundScenario.{RoundScenario}
use Rattle.scenarios.specs.declared.read.Reading.{Reading}
use Rattle.scenarios.specs.Masks.{bit}
use Rattle.scenarios.specs.Letters.{role}
use Rattle.scenarios.specs.Turns.{roles_in, choices, choose, subset, spell}
use Rattle.scenarios.specs.Readings.{roles_along, spelled, Reads, RanksChoice}
use Rattle.scenarios.proofs.Spelling.{length_spell, spell_append}
use Rattle.scenarios.proofs.Moving.{part_most}
use Rattle.scenarios.proofs.Choosing.{few_roles}

-- P of each number below n
abbrev EachBelow : ℕ → (ℕ → Type 0) → Type 0
EachBelow zero P = Unit {0}
EachBelow (suc n) P = P n × EachBelow n P

each_below : (n : ℕ) (P : ℕ → Type 0) → EachBelow n P → (k : ℕ) → k < n → P k
each_below zero P e k h = absurd (omega arith)
each_below (suc n) P e k h = go (λ l. each_below n P e.1 k l) (cases_eq k n)
  where
    go : (k < n → P k) → (k ≡ n) ⊎ (k ≢ n) → P k
    go ih (inl q) = subst P (sym q) e.0
    go ih (inr q) = ih (omega arith)

-- the roles of a mask, by its highest bit

joins_table : EachBelow 4 (λ x. EachBelow (2 ^ x) (λ m. roles_in (m + 2 ^ x) ≡ roles_in m ++ (x ∷ [])))
unfolding bit roles_in
joins_table = (
  (refl, (refl, (refl, (refl, (refl, (refl, (refl, (refl, tt)))))))),
  (
    (refl, (refl, (refl, (refl, tt)))),
    (
      (refl, (refl, tt)),
      (
        (refl, tt),
        tt,
      ),
    ),
  ),
)

pub role_joins : (m x : ℕ) → x < 4 → m < 2 ^ x → roles_in (m + 2 ^ x) ≡ roles_in m ++ (x ∷ [])
role_joins m x hx hm = each_below (2 ^ x) (λ m. roles_in (m + 2 ^ x) ≡ roles_in m ++ (x ∷ [])) (each_below 4 (λ x. EachBelow (2 ^ x) (λ m. roles_in (m + 2 ^ x) ≡ roles_in m ++ (x ∷ []))) joins_table x hx) m hm

pub role_last : (m x : ℕ) → x < 4 → 2 ^ x ≤ m → m < 2 * 2 ^ x → roles_in m ≡ roles_in (m - 2 ^ x) ++ (x ∷ [])
role_last m x hx low high = let e : m ≡ m - 2 ^ x + 2 ^ x = omega arith in ap roles_in e ∙ role_joins (m - 2 ^ x) x hx (omega arith)

pub highest : (m : ℕ) → 0 < m → m < 16 → (y : ℕ) × (y < 4) × (2 ^ y ≤ m) × (m < 2 * 2 ^ y)
highest m h k = go (cases_lt m 2) (cases_lt m 4) (cases_lt m 8)
  where
    go : (m < 2) ⊎ (2 ≤ m) → (m < 4) ⊎ (4 ≤ m) → (m < 8) ⊎ (8 ≤ m) → (y : ℕ) × (y < 4) × (2 ^ y ≤ m) × (m < 2 * 2 ^ y)
    go (inl a) b c = (0, omega arith, omega arith, omega arith)
    go (inr a) (inl b) c = (1, omega arith, omega arith, omega arith)
    go (inr a) (inr b) (inl c) = (2, omega arith, omega arith, omega arith)
    go (inr a) (inr b) (inr c) = (3, omega arith, omega arith, omega arith)

pub pow_most : (x : ℕ) → x < 4 → 2 * 2 ^ x ≤ 16
pow_most x h = let p : 2 ^ x ≤ 2 ^ 3 = pow_mono (let l : x ≤ 3 = omega arith in l) in omega arith

-- what the quotient by a power says: nothing from x on, x as the highest, or a higher one

pub quotient : (m x q : ℕ) → m / 2 ^ x ≡ q → (q * 2 ^ x ≤ m) × (m < q * 2 ^ x + 2 ^ x)
quotient m x q e =
    let p = pow_pos x in
    let d : q * 2 ^ x + m % 2 ^ x ≡ m = ap (λ k. k * 2 ^ x + m % 2 ^ x) (sym e) ∙ div-add-mod' m (2 ^ x) in
    let l = mod_below m (2 ^ x) p in
    (omega arith, omega arith)

pub shifted_one : (x : ℕ) → x < 4 → (1 * 2 ^ x) % 256 ≡ 2 ^ x
shifted_one x h = one_shl x 8 (omega arith)

-- one member more

last_letter : (v : List ℕ) (p y : ℕ) → 0 < p → (0 < length (v ++ (replicate p y ++ []))) × (get_or (v ++ (replicate p y ++ [])) (length (v ++ (replicate p y ++ [])) - 1) 0 ≡ y)
last_letter v p y h =
    let a = length-append v (replicate p y ++ []) in
    let b = append-nil (replicate p y) in
    let d = ap length b ∙ length-replicate p y in
    let e = get_or-append_right v (replicate p y ++ []) (length v) (length (v ++ (replicate p y ++ [])) - 1) 0 refl (omega arith) in
    let i : length (v ++ (replicate p y ++ [])) - 1 - length v ≡ p - 1 = omega arith in
    (omega arith, e ∙ ap (λ k. get_or (replicate p y ++ []) k 0) i ∙ ap (λ l. get_or l (p - 1) 0) b ∙ get_or-replicate p (p - 1) y 0 (omega arith))

module _ (x : Reading) (long : length x.parts ≡ 5) (whole : Reads x (spelled x)) where
  ps : List ℕ
  ps = take x.len x.parts

  measured : length ps ≡ x.len
  unfolding ps
  measured = length-take-le x.len x.parts (omega (arith, whole.few))

  even : length ps ≡ length (roles_in x.roles)
  even = measured ∙ sym whole.even

  -- the last part, whose role y is the highest
  last : (y : ℕ) → y < 4 → 2 ^ y ≤ x.roles → x.roles < 2 * 2 ^ y
      → (0 < x.len) × (length (take (x.len - 1) x.parts) ≡ length (roles_in (x.roles - 2 ^ y))) × (ps ≡ take (x.len - 1) x.parts ++ (get_or x.parts (x.len - 1) 0 ∷ []))
  unfolding ps
  last y hy low high =
      let r = role_last x.roles y hy low high in
      let n : length (roles_in x.roles) ≡ length (roles_in (x.roles - 2 ^ y)) + 1 = ap length r ∙ length_push (roles_in (x.roles - 2 ^ y)) y in
      let some : 0 < x.len = omega (arith, whole.even) in
      let k : x.len ≡ x.len - 1 + 1 = omega arith in (
        some,
        length-take-le (x.len - 1) x.parts (omega (arith, whole.few)) ∙ omega (arith, whole.even),
        ap (λ j. take j x.parts) k ∙ take_more x.parts (x.len - 1) 0 (omega (arith, whole.few)),
      )

  last_word : (y : ℕ) (hy : y < 4) (low : 2 ^ y ≤ x.roles) (high : x.roles < 2 * 2 ^ y)
      → spelled x ≡ spell (take (x.len - 1) x.parts) (roles_in (x.roles - 2 ^ y)) ++ (replicate (get_or x.parts (x.len - 1) 0) y ++ [])
  unfolding ps
  last_word y hy low high =
      let l = last y hy low high in
      ap (λ qs. spell qs (roles_in x.roles)) l.2 ∙ ap (spell (take (x.len - 1) x.parts ++ (get_or x.parts (x.len - 1) 0 ∷ []))) (role_last x.roles y hy low high)
      ∙ spell_append (take (x.len - 1) x.parts) (get_or x.parts (x.len - 1) 0 ∷ []) (roles_in (x.roles - 2 ^ y)) (y ∷ []) l.1

  pub some_last : (y : ℕ) → y < 4 → x.roles / 2 ^ y ≡ 1 → 1 ≤ x.len
  some_last y hy q = let b = quotient x.roles y 1 q in omega (arith, (last y hy (omega arith) (omega arith)).0)

  pub part_below : length (spelled x) < 64 → 0 < x.len → get_or x.parts (x.len - 1) 0 < 64
  unfolding ps
  part_below h some =
      let a = length_spell ps (roles_in x.roles) even in
      let b = part_most ps (x.len - 1) in
      let d = All-get_or (λ p. 0 < p) ps (x.len - 1) 0 (omega (arith, measured)) whole.filled in
      let t = take_more x.parts (x.len - 1) 0 (omega (arith, whole.few)) in
      let k : x.len ≡ x.len - 1 + 1 = omega arith in
      let e : ps ≡ take (x.len - 1) x.parts ++ (get_or x.parts (x.len - 1) 0 ∷ []) = ap (λ j. take j x.parts) k ∙ t in
      let g : get_or ps (x.len - 1) 0 ≡ get_or x.parts (x.len - 1) 0 = ap (λ l. get_or l (x.len - 1) 0) e ∙ get_or_push (take (x.len - 1) x.parts) (get_or x.parts (x.len - 1) 0) 0 (x.len - 1) (length-take-le (x.len - 1) x.parts (omega (arith, whole.few))) in
      omega arith

  -- a new part
  pub member_new : (y : ℕ) → y < 4 → x.roles / 2 ^ y ≡ 0
      → Reads (record { parts = set x.parts x.len 1; len = x.len + 1; roles = x.roles + (1 * 2 ^ y) % 256 }) (spelled x ++ (y ∷ []))
  unfolding ps
  member_new y hy q =
      let b = quotient x.roles y 0 q in
      let m : x.roles < 2 ^ y = omega arith in
      let p = pow_most y hy in
      let s = shifted_one y hy in
      let r = role_joins x.roles y hy m in
      let t = take_more_set x.parts x.len 1 (omega (arith, whole.few)) in
      let n : length (roles_in (x.roles + 2 ^ y)) ≡ x.len + 1 = ap length r ∙ length_push (roles_in x.roles) y ∙ ap (λ k. k + 1) whole.even in
      let l : length (roles_in x.roles) < 4 = omega (arith, few_roles (x.roles + 2 ^ y), whole.even) in
      record {
        filled = rw t (All-append (λ p. 0 < p) ps (1 ∷ []) whole.filled (omega arith, tt));
        even = rw s n;
        small = rw s (omega arith);
        few = omega (arith, few_roles (x.roles + 2 ^ y));
        spells = rw (t, s, r) (spell_append ps (1 ∷ []) (roles_in x.roles) (y ∷ []) even);
      }

  -- the last part grows
  pub member_grows : (y : ℕ) → y < 4 → x.roles / 2 ^ y ≡ 1
      → Reads (record { parts = set x.parts (x.len - 1) (get_or x.parts (x.len - 1) 0 + 1); len = x.len; roles = x.roles }) (spelled x ++ (y ∷ []))
  unfolding ps
  member_grows y hy q = record { filled = rw front (All-append (λ p. 0 < p) qs ((p + 1) ∷ []) fill (omega arith, tt)); even = whole.even; small = whole.small; few = whole.few; spells = word }
    where
      b : (1 * 2 ^ y ≤ x.roles) × (x.roles < 1 * 2 ^ y + 2 ^ y)
      b = quotient x.roles y 1 q

      low : 2 ^ y ≤ x.roles
      low = omega (arith, b.0)

      high : x.roles < 2 * 2 ^ y
      high = omega (arith, b.1)

      qs : List ℕ
      qs = take (x.len - 1) x.parts

      p : ℕ
      p = get_or x.parts (x.len - 1) 0

      some : 0 < x.len
      some = (last y hy low high).0

      fill : AllByRecursion (λ p. 0 < p) qs
      fill = subst (AllByRecursion (λ p. 0 < p)) (take-take (x.len - 1) x.len x.parts (omega arith)) (All-take (λ p. 0 < p) (x.len - 1) (take x.len x.parts) whole.filled)

      front : take x.len (set x.parts (x.len - 1) (get_or x.parts (x.len - 1) 0 + 1)) ≡ qs ++ ((p + 1) ∷ [])
      front =
          let s = some in
          let k : x.len ≡ x.len - 1 + 1 = omega arith in
          ap (λ j. take j (set x.parts (x.len - 1) (get_or x.parts (x.len - 1) 0 + 1))) k ∙ take_more_set x.parts (x.len - 1) (get_or x.parts (x.len - 1) 0 + 1) (omega (arith, whole.few))

      more : replicate (p + 1) y ++ [] ≡ (replicate p y ++ []) ++ (y ∷ [])
      more = append-nil (replicate (p + 1) y) ∙ sym (replicate_more p y) ∙ ap (λ l. l ++ (y ∷ [])) (sym (append-nil (replicate p y)))

      word : spell (take x.len (set x.parts (x.len - 1) (get_or x.parts (x.len - 1) 0 + 1))) (roles_in x.roles) ≡ spelled x ++ (y ∷ [])
      word =
          ap (λ l. spell l (roles_in x.roles)) front
          ∙ ap (spell (qs ++ ((p + 1) ∷ []))) (role_last x.roles y hy low high)
          ∙ spell_append qs ((p + 1) ∷ []) (roles_in (x.roles - 2 ^ y)) (y ∷ []) (last y hy low high).1
          ∙ ap (λ l. spell qs (roles_in (x.roles - 2 ^ y)) ++ l) more
          ∙ sym (append_assoc (spell qs (roles_in (x.roles - 2 ^ y))) (replicate p y ++ []) (y ∷ []))
          ∙ ap (λ l. l ++ (y ∷ [])) (sym (last_word y hy low high))

  -- the last role is above y
  pub member_falls : (y : ℕ) → y < 4 → 2 ≤ x.roles / 2 ^ y → (0 < length (spelled x)) × (y < get_or (spelled x) (length (spelled x) - 1) 0)
  unfolding ps
  member_falls y hy q = (rw word l.0, rw (word, l.1) above)
    where
      big : 2 * 2 ^ y ≤ x.roles
      big =
          let b = quotient x.roles y (x.roles / 2 ^ y) refl in
          let p = mul-le-mul_right (2 ^ y) q in
          omega arith

      h : (z : ℕ) × (z < 4) × (2 ^ z ≤ x.roles) × (x.roles < 2 * 2 ^ z)
      h = highest x.roles (let p = pow_pos y in let b = big in omega arith) whole.small

      above : y < h.0
      above = go (cases_lt y h.0)
        where
          go : (y < h.0) ⊎ (h.0 ≤ y) → y < h.0
          go (inl l) = l
          go (inr l) = let p : 2 ^ h.0 ≤ 2 ^ y = pow_mono l in absurd (omega (arith, big, h.3))

      p : ℕ
      p = get_or x.parts (x.len - 1) 0

      v : List ℕ
      v = spell (take (x.len - 1) x.parts) (roles_in (x.roles - 2 ^ h.0))

      word : spelled x ≡ v ++ (replicate p h.0 ++ [])
      word = last_word h.0 h.1 h.2 h.3

      pos : 0 < p
      pos =
          let s = last h.0 h.1 h.2 h.3 in
          let d = All-get_or (λ p. 0 < p) ps (x.len - 1) 0 (omega (arith, measured, s.0)) whole.filled in
          let g = ap (λ l. get_or l (x.len - 1) 0) s.2 ∙ get_or_push (take (x.len - 1) x.parts) (get_or x.parts (x.len - 1) 0) 0 (x.len - 1) (length-take-le (x.len - 1) x.parts (omega (arith, whole.few))) in
          omega arith

      l : (0 < length (v ++ (replicate p h.0 ++ []))) × (get_or (v ++ (replicate p h.0 ++ [])) (length (v ++ (replicate p h.0 ++ [])) - 1) 0 ≡ h.0)
      l = last_letter v p h.0 pos

-- the members of a cell, one by one

pub read_none : (r : RoundScenario) (start : ℕ) → Reads (record { parts = 0 ∷ 0 ∷ 0 ∷ 0 ∷ 0 ∷ []; len = 0; roles = 0 }) (roles_along r start (start - start))
unfolding bit roles_in
read_none r start = let e : start - start ≡ 0 = omega arith in rw e (record { filled = tt; even = refl; small = omega arith; few = omega arith; spells = refl })

pub along_more : (r : RoundScenario) (start idx : ℕ) → start ≤ idx → roles_along r start (idx - start) ++ (role r idx ∷ []) ≡ roles_along r start (idx + 1 - start)
along_more r start idx h =
    let e : idx + 1 - start ≡ idx - start + 1 = omega arith in
    sym (ap (roles_along r start) e ∙ map-range_with_len_more (role r) start (idx - start) idx (omega arith))

pub read_more : (r : RoundScenario) (start idx y : ℕ) (w : List ℕ) (x : Reading) → start ≤ idx → y ≡ role r idx → w ≡ roles_along r start (idx - start) → Reads x (w ++ (y ∷ [])) → Reads x (roles_along r start (idx + 1 - start))
read_more r start idx y w x h e q reads = subst (Reads x) (cc (along_more r start idx h, e, q)) reads

pub parts_fall : (r : RoundScenario) (start len idx y : ℕ) (w : List ℕ) → start ≤ idx → idx < start + len → y ≡ role r idx → w ≡ roles_along r start (idx - start) → (0 < length w) × (y < get_or w (length w - 1) 0)
    → (k : ℕ) × (start ≤ k) × (k + 1 < start + len) × (role r (k + 1) < role r k)
parts_fall r start len idx y w h below e q (some, fall) =
    let n : length w ≡ idx - start = ap length q ∙ length-map-range_with_len (role r) start (idx - start) in
    let k : idx - 1 + 1 ≡ idx = omega arith in
    let g : get_or w (length w - 1) 0 ≡ role r (idx - 1) = ap (λ l. get_or l (length w - 1) 0) q ∙ get_or-map-range_with_len (role r) start (idx - start) (length w - 1) (idx - 1) 0 (omega arith) (omega arith) in
    (idx - 1, omega arith, omega arith, rw k (omega arith))

-- the number of a choice

-- how many of the masks below i have as many ones as m
abbrev pub alike : ℕ → ℕ → ℕ
alike m i = length (filter (λ x. eqb (ones x) (ones m)) (range_with_len 0 i))

rank_table : EachBelow 16 (λ m. RanksChoice m (alike m m))
unfolding ones bit roles_in choices choose subset
rank_table = (
  (lit< tt, refl),
  (
    (lit< tt, refl),
    (
      (lit< tt, refl),
      (
        (lit< tt, refl),
        (
          (lit< tt, refl),
          (
            (lit< tt, refl),
            (
              (lit< tt, refl),
              (
                (lit< tt, refl),
                (
                  (lit< tt, refl),
                  (
                    (lit< tt, refl),
                    (
                      (lit< tt, refl),
                      (
                        (lit< tt, refl),
                        ((lit< tt, refl), ((lit< tt, refl), ((lit< tt, refl), ((lit< tt, refl), tt)))),
                      ),
                    ),
                  ),
                ),
              ),
            ),
          ),
        ),
      ),
    ),
  ),
)

pub ranks_choice : (m : ℕ) → m < 16 → RanksChoice m (alike m m)
ranks_choice = each_below 16 (λ m. RanksChoice m (alike m m)) rank_table
