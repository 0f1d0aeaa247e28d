-- A case is canonical exactly if its columns are sorted: participant i's column is its letters, round by round, and whether it is compromised.
use Rattle.std.proofs.Common.{◌≡◌, ℕ, zero, suc, ◌+◌, ◌<◌, ◌≤◌, Bool, true, false, cond, List, [], ◌∷◌, ◌++◌, map, get_or, sym, refl, ap, subst, inl, inr, ⊎_elim, arith}
use Rattle.std.specs.List.{range_with_len}
use Rattle.std.proofs.lemmas.Bool.{cases_lt}
use Rattle.std.proofs.lemmas.List.FromFn.{get_or-map-range_with_len, length-map-range_with_len}
use Rattle.orders.specs.Members.{member}
use Rattle.orders.specs.Orders.{Sorted, Lex}
use Rattle.scenarios.specs.declared.round.RoundScenario.{RoundScenario}
use Rattle.scenarios.specs.Letters.{letter}
use Rattle.scenarios.specs.Canonical.{Alike, Together, OneCell, InOrder, Canonical}
use Rattle.scenarios.proofs.Lettering.{order_from, order_to, alike_from, alike_to}
use Rattle.scenarios.proofs.Neighbours.{one_cell, rises_on}
use Rattle.cases.specs.Cases.{Case}

-- the set takes a first few members of each cell that the rounds leave
abbrev pub Few : ℕ → List RoundScenario → List ℕ → Type 0
Few n rs s = (i j : ℕ) → i < j → j < n → OneCell rs i j → member s j ≡ true → member s i ≡ true

pub record CanonicalCase (n : ℕ) (c : Case) : Type 0 where
  pub in_order : Canonical n c.rounds
  pub first_few : Few n c.rounds c.set

abbrev pub letters : List RoundScenario → ℕ → List ℕ
letters rs i = map (λ r. letter r i) rs

-- 0 for a member of the set, else 1, so that members stand first
abbrev pub mark : List ℕ → ℕ → ℕ
mark s i = cond (member s i) 0 1

unfoldable pub column : Case → ℕ → List ℕ
column c i = letters c.rounds i ++ (mark c.set i ∷ [])

abbrev pub columns : ℕ → Case → List (List ℕ)
columns n c = map (column c) (range_with_len 0 n)

pub column_at : (n : ℕ) (c : Case) (k : ℕ) (d : List ℕ) → k < n → get_or (columns n c) k d ≡ column c k
column_at n c k d h = get_or-map-range_with_len (column c) 0 n k k d h (omega arith)

-- neighbours

module _ (i m m' : ℕ) where
  RoundsOrdered : List RoundScenario → Type 0
  RoundsOrdered rs = (before : List RoundScenario) (r : RoundScenario) (rest : List RoundScenario) → rs ≡ before ++ (r ∷ rest) → Together before i → InOrder r i (i + 1)

  lex_from : (rs : List RoundScenario) → RoundsOrdered rs → (Together rs i → m ≤ m') → Lex (letters rs i ++ (m ∷ [])) (letters rs (i + 1) ++ (m' ∷ []))
  unfolding RoundsOrdered
  lex_from [] h k = let l = k tt in ⊎_elim (λ x. inl x) (λ x. inr (omega arith, tt)) (cases_lt m m')
  lex_from (r ∷ rs) h k =
      let le = order_from r i (h [] r rs refl tt) in
      let later = λ (e : letter r i ≡ letter r (i + 1)). lex_from rs (λ before s rest q t. h (r ∷ before) s rest (ap (λ l. r ∷ l) q) (alike_to r i e, t)) (λ t. k (alike_to r i e, t)) in
      ⊎_elim (λ x. inl x) (λ x. let e : letter r i ≡ letter r (i + 1) = omega arith in inr (e, later e)) (cases_lt (letter r i) (letter r (i + 1)))

  lex_rounds : (rs : List RoundScenario) → Lex (letters rs i ++ (m ∷ [])) (letters rs (i + 1) ++ (m' ∷ [])) → RoundsOrdered rs
  unfolding RoundsOrdered
  lex_rounds [] h [] s rest q t = absurd (let z : ◌≡◌ {A = ℕ} 0 1 = cc in omega arith)
  lex_rounds [] h (b ∷ before) s rest q t = absurd (let z : ◌≡◌ {A = ℕ} 0 1 = cc in omega arith)
  lex_rounds (r ∷ rs) h [] s rest q t =
      let e : r ≡ s = cc in
      rw (← e) (order_to r i (⊎_elim (λ l. omega arith) (λ l. omega (arith, l.0)) h))
  lex_rounds (r ∷ rs) h (b ∷ before) s rest q t =
      let e : r ≡ b = cc in
      let e' : rs ≡ before ++ (s ∷ rest) = cc in
      let same = alike_from r i (subst (λ x. Alike x i) (sym e) t.0) in
      ⊎_elim (λ l. absurd (omega (arith, l))) (λ l. lex_rounds rs l.1 before s rest e' t.1) h

  lex_last : (rs : List RoundScenario) → Lex (letters rs i ++ (m ∷ [])) (letters rs (i + 1) ++ (m' ∷ [])) → Together rs i → m ≤ m'
  lex_last [] h t = ⊎_elim (λ l. omega (arith, l)) (λ l. omega (arith, l.0)) h
  lex_last (r ∷ rs) h t = let same = alike_from r i t.0 in ⊎_elim (λ l. absurd (omega (arith, l))) (λ l. lex_last rs l.1 t.1) h

mark_rises : (a b : Bool) → (b ≡ true → a ≡ true) → cond a 0 1 ≤ cond b 0 1
mark_rises true b h = omega arith
mark_rises false true h = let e = h refl in let z : ◌≡◌ {A = ℕ} 0 1 = cc in omega arith
mark_rises false false h = omega arith

rising_mark : (a b : Bool) → cond a 0 1 ≤ cond b 0 1 → b ≡ true → a ≡ true
rising_mark true b h e = refl
rising_mark false true h e = absurd (omega arith)
rising_mark false false h e = e

-- whole cells

falls_back : (s : List ℕ) (i j : ℕ) → i < j → ((k : ℕ) → i ≤ k → k < j → member s (k + 1) ≡ true → member s k ≡ true) → member s j ≡ true → member s i ≡ true
falls_back s i zero l h e = absurd (omega arith)
falls_back s i (suc j) l h e =
    let m = h j (omega arith) (omega arith) (subst (λ k. member s k ≡ true) (let q : suc j ≡ j + 1 = omega arith in q) e) in
    ⊎_elim (λ q. falls_back s i j q (λ k a b. h k a (omega arith)) m) (λ q. subst (λ k. member s k ≡ true) (let z : j ≡ i = omega arith in z) m) (cases_lt i j)

module _ (n : ℕ) (c : Case) where
  pub columns_sorted : CanonicalCase n c → Sorted Lex (columns n c)
  unfolding column RoundsOrdered
  columns_sorted h k d l =
      let l' : k + 1 < n = omega (arith, length-map-range_with_len (column c) 0 n) in
      rw (column_at n c k d (omega arith), column_at n c (k + 1) d l')
      (lex_from k (mark c.set k) (mark c.set (k + 1)) c.rounds
      (λ before r rest q t. h.in_order before r rest q k (k + 1) (omega arith) l' (one_cell before k t))
      (λ t. mark_rises (member c.set k) (member c.set (k + 1)) (h.first_few k (k + 1) (omega arith) l' (one_cell c.rounds k t))))

  pub canonical_sorted : Sorted Lex (columns n c) → CanonicalCase n c
  unfolding column RoundsOrdered
  canonical_sorted h = record {
    in_order = λ before r rest q i j l lj t. rises_on r i j l (λ k a b. lex_rounds k (mark c.set k) (mark c.set (k + 1)) c.rounds (up k (omega arith)) before r rest q (t k a b));
    first_few = λ i j l lj t. falls_back c.set i j l (λ k a b. rising_mark (member c.set k) (member c.set (k + 1)) (lex_last k (mark c.set k) (mark c.set (k + 1)) c.rounds (up k (omega arith)) (t k a b)));
  }
    where
      up : (i : ℕ) → i + 1 < n → Lex (column c i) (column c (i + 1))
      up i l = rw (column_at n c i [] (omega arith), column_at n c (i + 1) [] l) at (h i [] (omega (arith, length-map-range_with_len (column c) 0 n)))
