-- A round and its letters determine each other, and the letters say what is in order and what is alike. Assumes nothing.
use Rattle.std.proofs.Common.{◌≡◌, ℕ, zero, suc, ◌+◌, ◌-◌, ◌^◌, ◌<◌, ◌≤◌, Bool, true, false, cond, ◌||◌, eqb, ltb, ◌≢◌, ◌⊎◌, List, [], ◌∷◌, ◌++◌, map, length, get_or, sym, refl, ap, ◌∙◌, subst, inl, inr, arith}
use Rattle.std.specs.List.{prefix_len, AllByRecursion}
use Rattle.std.proofs.lemmas.Bool.{cases_eq, cases_lt, eq-eqb, ne_eqb, lt-ltb, le-ltb, cond-true, cond-false}
use Rattle.std.proofs.lemmas.List.{same_lists, length-map, length-append, get_or-map, get_or_append_left, get_or-append_right, get_or_default}
use Rattle.std.proofs.ByRecursion.{All-get_or}
use Rattle.std.proofs.lemmas.List.FromFn.{get_or-map-range_with_len, length-map-range_with_len}
use Rattle.scenarios.specs.declared.round.RoundScenario.{RoundScenario}
use Rattle.scenarios.specs.Masks.{bit}
use Rattle.scenarios.specs.Letters.{role_of, role, letter, letters_of, in_primary, in_secondary, round_of}
use Rattle.scenarios.specs.Canonical.{LegalRound, Alike, InOrder}
use Rattle.scenarios.proofs.Masks.{same_mask, pack_below, bit_pack}

-- neighbours

pub role_small : (p s : Bool) → role_of p s < 4
role_small false false = omega arith
role_small true true = omega arith
role_small false true = omega arith
role_small true false = omega arith

pub letter_is : (r : RoundScenario) (i : ℕ) → ((r.leader ≡ i) × (letter r i ≡ role r i + 4)) ⊎ ((r.leader ≢ i) × (letter r i ≡ role r i))
letter_is r i = go (cases_eq r.leader i)
  where
    go : (r.leader ≡ i) ⊎ (r.leader ≢ i) → ((r.leader ≡ i) × (letter r i ≡ role r i + 4)) ⊎ ((r.leader ≢ i) × (letter r i ≡ role r i))
    go (inl e) = inl (e, ap (λ b. role r i + cond b 4 0) (eq-eqb r.leader i e))
    go (inr e) = inr (e, ap (λ b. role r i + cond b 4 0) (ne_eqb r.leader i e) ∙ (let z : role r i + 0 ≡ role r i = omega arith in z))

module _ (r : RoundScenario) (i : ℕ) where
  pub small : (k : ℕ) → role r k < 4
  small k = role_small (bit r.primary k) (bit r.secondary k)

  pub order_from : InOrder r i (i + 1) → letter r i ≤ letter r (i + 1)
  order_from h = go (letter_is r i) (letter_is r (i + 1))
    where
      go : ((r.leader ≡ i) × (letter r i ≡ role r i + 4)) ⊎ ((r.leader ≢ i) × (letter r i ≡ role r i)) → ((r.leader ≡ i + 1) × (letter r (i + 1) ≡ role r (i + 1) + 4)) ⊎ ((r.leader ≢ i + 1) × (letter r (i + 1) ≡ role r (i + 1))) → letter r i ≤ letter r (i + 1)
      go (inl a) b = absurd (h.leader_last a.0)
      go (inr a) (inl b) = let k = small i in omega arith
      go (inr a) (inr b) = let k = h.roles_rise b.0 in omega arith

  pub order_to : letter r i ≤ letter r (i + 1) → InOrder r i (i + 1)
  order_to h = record { leader_last = last; roles_rise = rise }
    where
      last : r.leader ≢ i
      last e = let a = letter_is r i in let b = letter_is r (i + 1) in let k = small (i + 1) in omega arith

      rise : r.leader ≢ i + 1 → role r i ≤ role r (i + 1)
      rise e = let a = letter_is r i in let b = letter_is r (i + 1) in let k = small (i + 1) in omega arith

  pub alike_from : Alike r i → letter r i ≡ letter r (i + 1)
  alike_from h = let a = letter_is r i in let b = letter_is r (i + 1) in omega arith

  pub alike_to : letter r i ≡ letter r (i + 1) → Alike r i
  alike_to h = let a = letter_is r i in let b = letter_is r (i + 1) in let k = small i in let l = small (i + 1) in omega arith

-- one letter

pub primary_of : (p s b : Bool) → in_primary (role_of p s + cond b 4 0) ≡ p
primary_of false false false = refl
primary_of false false true = refl
primary_of false true false = refl
primary_of false true true = refl
primary_of true false false = refl
primary_of true false true = refl
primary_of true true false = refl
primary_of true true true = refl

pub secondary_of : (p s b : Bool) → in_secondary (role_of p s + cond b 4 0) ≡ s
secondary_of false false false = refl
secondary_of false false true = refl
secondary_of false true false = refl
secondary_of false true true = refl
secondary_of true false false = refl
secondary_of true false true = refl
secondary_of true true false = refl
secondary_of true true true = refl

pub heard_role : (p s : Bool) → (p || s) ≡ true → 0 < role_of p s
heard_role false false h = let z : ◌≡◌ {A = ℕ} 0 1 = cc in absurd (omega arith)
heard_role false true h = omega arith
heard_role true false h = omega arith
heard_role true true h = omega arith

pub low_letter : (x : ℕ) → x < 4 → role_of (in_primary x) (in_secondary x) + 0 ≡ x
low_letter zero h = refl
low_letter (suc zero) h = refl
low_letter (suc (suc zero)) h = refl
low_letter (suc (suc (suc zero))) h = refl
low_letter (suc (suc (suc (suc x)))) h = absurd (omega arith)

pub loud_letter : (x : ℕ) → 5 ≤ x → x < 8 → (role_of (in_primary x) (in_secondary x) + 4 ≡ x) × ((in_primary x || in_secondary x) ≡ true)
loud_letter zero h k = absurd (omega arith)
loud_letter (suc zero) h k = absurd (omega arith)
loud_letter (suc (suc zero)) h k = absurd (omega arith)
loud_letter (suc (suc (suc zero))) h k = absurd (omega arith)
loud_letter (suc (suc (suc (suc zero)))) h k = absurd (omega arith)
loud_letter (suc (suc (suc (suc (suc zero))))) h k = (refl, refl)
loud_letter (suc (suc (suc (suc (suc (suc zero)))))) h k = (refl, refl)
loud_letter (suc (suc (suc (suc (suc (suc (suc zero))))))) h k = (refl, refl)
loud_letter (suc (suc (suc (suc (suc (suc (suc (suc x)))))))) h k = absurd (omega arith)

-- the participant k alone leads
pub record Proper (k : ℕ) (ls : List ℕ) : Type 0 where
  pub leads : k < length ls
  pub loud : 5 ≤ get_or ls k 0
  pub below : get_or ls k 0 < 8
  pub others : (i : ℕ) → i < length ls → i ≢ k → get_or ls i 0 < 4

pub proper_left : (k : ℕ) (xs ys : List ℕ) → Proper k xs → AllByRecursion (λ x. x < 4) ys → Proper k (xs ++ ys)
proper_left k xs ys p low = record { leads = omega (arith, len, p.leads); loud = rw here p.loud; below = rw here p.below; others = λ i l ne. go i l ne (cases_lt i (length xs)) }
  where
    len : length (xs ++ ys) ≡ length xs + length ys
    len = length-append xs ys

    here : get_or (xs ++ ys) k 0 ≡ get_or xs k 0
    here = get_or_append_left xs ys 0 k p.leads

    go : (i : ℕ) → i < length (xs ++ ys) → i ≢ k → (i < length xs) ⊎ (length xs ≤ i) → get_or (xs ++ ys) i 0 < 4
    go i l ne (inl h) = rw (get_or_append_left xs ys 0 i h) (p.others i h ne)
    go i l ne (inr h) = rw (get_or-append_right xs ys (length xs) i 0 refl h) (All-get_or (λ x. x < 4) ys (i - length xs) 0 (omega (arith, len)) low)

pub proper_right : (k : ℕ) (xs ys : List ℕ) → AllByRecursion (λ x. x < 4) xs → Proper k ys → Proper (length xs + k) (xs ++ ys)
proper_right k xs ys low p = record { leads = omega (arith, len, p.leads); loud = rw here p.loud; below = rw here p.below; others = λ i l ne. go i l ne (cases_lt i (length xs)) }
  where
    len : length (xs ++ ys) ≡ length xs + length ys
    len = length-append xs ys

    here : get_or (xs ++ ys) (length xs + k) 0 ≡ get_or ys k 0
    here = get_or-append_right xs ys (length xs) (length xs + k) 0 refl (omega arith) ∙ ap (λ j. get_or ys j 0) (let e : length xs + k - length xs ≡ k = omega arith in e)

    go : (i : ℕ) → i < length (xs ++ ys) → i ≢ length xs + k → (i < length xs) ⊎ (length xs ≤ i) → get_or (xs ++ ys) i 0 < 4
    go i l ne (inl h) = rw (get_or_append_left xs ys 0 i h) (All-get_or (λ x. x < 4) xs i 0 h low)
    go i l ne (inr h) = rw (get_or-append_right xs ys (length xs) i 0 refl h) (p.others (i - length xs) (omega (arith, len)) (λ e. ne (omega arith)))

-- from letters to a round

pub leading_is : (ls : List ℕ) (k : ℕ) → k < length ls → 4 ≤ get_or ls k 0 → ((i : ℕ) → i < k → get_or ls i 0 < 4) → prefix_len (λ x. ltb x 4) ls ≡ k
leading_is [] k h loud low = absurd (omega arith)
leading_is (x ∷ ls) zero h loud low = cond-false (ltb x 4) _ _ (le-ltb x 4 loud)
leading_is (x ∷ ls) (suc k) h loud low =
    let ih = leading_is ls k (omega arith) loud (λ i l. low (suc i) (omega arith)) in
    cond-true (ltb x 4) _ _ (lt-ltb x 4 (low 0 (omega arith))) ∙ omega arith

pub masks_below : (ls : List ℕ) → ((round_of ls).primary < 2 ^ length ls) × ((round_of ls).secondary < 2 ^ length ls)
unfolding round_of
masks_below ls = (rw (length-map ls in_primary) at (pack_below (map in_primary ls)), rw (length-map ls in_secondary) at (pack_below (map in_secondary ls)))

module _ (k : ℕ) (ls : List ℕ) (p : Proper k ls) where
  pub leader_round : (round_of ls).leader ≡ k
  unfolding round_of
  leader_round = leading_is ls k p.leads (omega arith) (λ i l. p.others i (omega arith) (λ e. omega arith))

  pub primary_round : (i : ℕ) → i < length ls → bit (round_of ls).primary i ≡ in_primary (get_or ls i 0)
  unfolding round_of
  primary_round i h = bit_pack (map in_primary ls) i ∙ get_or-map in_primary ls i 0 false h

  pub secondary_round : (i : ℕ) → i < length ls → bit (round_of ls).secondary i ≡ in_secondary (get_or ls i 0)
  unfolding round_of
  secondary_round i h = bit_pack (map in_secondary ls) i ∙ get_or-map in_secondary ls i 0 false h

  pub letter_round : (i : ℕ) → i < length ls → letter (round_of ls) i ≡ get_or ls i 0
  letter_round i h = rw (primary_round i h, secondary_round i h, leader_round) (go (cases_eq k i))
    where
      go : (k ≡ i) ⊎ (k ≢ i) → role_of (in_primary (get_or ls i 0)) (in_secondary (get_or ls i 0)) + cond (eqb k i) 4 0 ≡ get_or ls i 0
      go (inl e) = rw (eq-eqb k i e) (loud_letter (get_or ls i 0) (subst (λ j. 5 ≤ get_or ls j 0) e p.loud) (subst (λ j. get_or ls j 0 < 8) e p.below)).0
      go (inr e) = rw (ne_eqb k i e) (low_letter (get_or ls i 0) (p.others i h (λ q. e (sym q))))

  pub letters_round : letters_of (length ls) (round_of ls) ≡ ls
  letters_round =
      let len = length-map-range_with_len (letter (round_of ls)) 0 (length ls) in
      same_lists _ ls len (λ i d l.
      let h : i < length ls = omega arith in
      get_or-map-range_with_len (letter (round_of ls)) 0 (length ls) i i d h (omega arith) ∙ letter_round i h ∙ get_or_default ls i 0 d h)

  pub legal_round : LegalRound (length ls) (round_of ls)
  legal_round = record { leads = rw leader_round p.leads; heard = heard; primary_below = (masks_below ls).0; secondary_below = (masks_below ls).1 }
    where
      heard : (bit (round_of ls).primary (round_of ls).leader || bit (round_of ls).secondary (round_of ls).leader) ≡ true
      heard = rw (leader_round, primary_round k p.leads, secondary_round k p.leads) (loud_letter (get_or ls k 0) p.loud p.below).1

-- from a round to letters

module _ (n : ℕ) (r : RoundScenario) where
  pub length_letters : length (letters_of n r) ≡ n
  length_letters = length-map-range_with_len (letter r) 0 n

  pub getD_letters : (i : ℕ) → i < n → get_or (letters_of n r) i 0 ≡ letter r i
  getD_letters i h = get_or-map-range_with_len (letter r) 0 n i i 0 h (omega arith)

  pub letters_proper : LegalRound n r → Proper r.leader (letters_of n r)
  letters_proper h = record { leads = rw length_letters h.leads; loud = rw (getD_letters r.leader h.leads) loud; below = rw (getD_letters r.leader h.leads) below; others = others }
    where
      loud : 5 ≤ letter r r.leader
      loud = let a = letter_is r r.leader in let k = heard_role (bit r.primary r.leader) (bit r.secondary r.leader) h.heard in omega arith

      below : letter r r.leader < 8
      below = let a = letter_is r r.leader in let k = role_small (bit r.primary r.leader) (bit r.secondary r.leader) in omega arith

      others : (i : ℕ) → i < length (letters_of n r) → i ≢ r.leader → get_or (letters_of n r) i 0 < 4
      others i l ne =
          let l' : i < n = omega (arith, length_letters) in
          let a = letter_is r i in
          let k = role_small (bit r.primary i) (bit r.secondary i) in
          rw (getD_letters i l') (omega arith)

  pub round_letters : LegalRound n r → round_of (letters_of n r) ≡ r
  round_letters h = λ i. record { leader = leader_round r.leader ls p i; primary = first i; secondary = second i }
    where
      ls : List ℕ
      ls = letters_of n r

      p : Proper r.leader (letters_of n r)
      p = letters_proper h

      legal : LegalRound n (round_of (letters_of n r))
      legal = rw length_letters at (legal_round r.leader (letters_of n r) p)

      first : (round_of (letters_of n r)).primary ≡ r.primary
      first = same_mask n _ _ legal.primary_below h.primary_below (λ i l.
          primary_round r.leader (letters_of n r) p i (rw length_letters l) ∙ ap in_primary (getD_letters i l) ∙ primary_of (bit r.primary i) (bit r.secondary i) (eqb r.leader i))

      second : (round_of (letters_of n r)).secondary ≡ r.secondary
      second = same_mask n _ _ legal.secondary_below h.secondary_below (λ i l.
          secondary_round r.leader (letters_of n r) p i (rw length_letters l) ∙ ap in_secondary (getD_letters i l) ∙ secondary_of (bit r.primary i) (bit r.secondary i) (eqb r.leader i))
