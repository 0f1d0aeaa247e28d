-- Lists written upwards, one behind the other: their members, and which of them lie in a cell.
use Rattle.std.proofs.Common.{◌≡◌, ℕ, zero, suc, ◌+◌, ◌<◌, ◌≤◌, Bool, true, false, ◌&&◌, ◌||◌, eqb, ltb, leb, ◌⊎◌, List, [], ◌∷◌, ◌++◌, length, filter, sym, refl, ap, ◌∙◌, inl, inr, arith}
use Rattle.std.specs.List.{range_with_len}
use Rattle.std.proofs.lemmas.Bool.{cases_lt, cases_eq, lt-ltb, le-ltb, le-leb, lt-leb, eq-eqb, and_from, and_left, and_right, cond-true, cond-false, false≢true}
use Rattle.orders.specs.Members.{member}
use Rattle.sets.specs.Sets.{Upwards}
use Rattle.sets.proofs.Members.{member_here, member_there, member_below}

upwards_wider : (low high n : ℕ) (xs : List ℕ) → low ≤ high → Upwards high n xs → Upwards low n xs
upwards_wider low high n [] l u = tt
upwards_wider low high n (x ∷ xs) l u = (omega arith, u.1, u.2)

pub upwards_append : (low m n : ℕ) (xs ys : List ℕ) → low ≤ m → m ≤ n → Upwards low m xs → Upwards m n ys → Upwards low n (xs ++ ys)
upwards_append low m n [] ys a b u v = upwards_wider low m n ys a v
upwards_append low m n (x ∷ xs) ys a b u v = (u.0, omega arith, upwards_append (suc x) m n xs ys (omega arith) b u.2 v)

pub upwards_counting : (low n k : ℕ) → low + k ≤ n → Upwards low n (range_with_len low k)
upwards_counting low n zero h = tt
upwards_counting low n (suc k) h = (omega arith, omega arith, upwards_wider (suc low) (low + 1) n (range_with_len (low + 1) k) (omega arith) (upwards_counting (low + 1) n k (omega arith)))

pub length_upwards : (low n : ℕ) (xs : List ℕ) → low ≤ n → Upwards low n xs → low + length xs ≤ n
length_upwards low n [] h u = omega arith
length_upwards low n (x ∷ xs) h u = let l = length_upwards (suc x) n xs (omega arith) u.2 in omega (arith, u.0)

-- the part below m, and the part from m on
pub record Parted (low m n : ℕ) (xs : List ℕ) : Type 0 where
  pub front : List ℕ
  pub back : List ℕ
  pub whole : xs ≡ front ++ back
  pub front_upwards : Upwards low m front
  pub back_upwards : Upwards m n back

pub parted : (low m n : ℕ) (xs : List ℕ) → Upwards low n xs → Parted low m n xs
parted low m n [] u = record { front = []; back = []; whole = refl; front_upwards = tt; back_upwards = tt }
parted low m n (x ∷ xs) u = go (parted (suc x) m n xs u.2) (cases_lt x m)
  where
    go : Parted (suc x) m n xs → (x < m) ⊎ (m ≤ x) → Parted low m n (x ∷ xs)
    go p (inl l) = record {
      front = x ∷ p.front;
      back = p.back;
      whole = ap (λ l. x ∷ l) p.whole;
      front_upwards = (u.0, l, p.front_upwards);
      back_upwards = p.back_upwards;
    }
    go p (inr l) = record { front = []; back = x ∷ xs; whole = refl; front_upwards = tt; back_upwards = (l, u.1, u.2) }

-- members

member_above : (low n i : ℕ) (xs : List ℕ) → Upwards low n xs → n ≤ i → member xs i ≡ false
member_above low n i [] u h = refl
member_above low n i (x ∷ xs) u h = let l = u.1 in member_there x i xs (λ e. omega arith) ∙ member_above (suc x) n i xs u.2 h

or_assoc : (a b c : Bool) → ((a || b) || c) ≡ (a || (b || c))
or_assoc true b c = refl
or_assoc false b c = refl

or_false : (a : Bool) → (a || false) ≡ a
or_false true = refl
or_false false = refl

member_append : (xs ys : List ℕ) (i : ℕ) → member (xs ++ ys) i ≡ (member xs i || member ys i)
member_append [] ys i = refl
member_append (x ∷ xs) ys i = ap (λ b. eqb x i || b) (member_append xs ys i) ∙ sym (or_assoc (eqb x i) (member xs i) (member ys i))

module _ (low m n i : ℕ) (xs ys : List ℕ) (u : Upwards low m xs) (v : Upwards m n ys) where
  pub member_front : i < m → member (xs ++ ys) i ≡ member xs i
  member_front l = member_append xs ys i ∙ ap (λ b. member xs i || b) (member_below m n i ys v l) ∙ or_false (member xs i)

  pub member_back : m ≤ i → member (xs ++ ys) i ≡ member ys i
  member_back l = member_append xs ys i ∙ ap (λ b. b || member ys i) (member_above low m i xs u l)

pub member_counting : (a n i : ℕ) → a ≤ i → i < a + n → member (range_with_len a n) i ≡ true
member_counting a zero i h l = absurd (omega arith)
member_counting a (suc n) i h l = go (λ ne. member_counting (a + 1) n i (omega (arith, ne)) (omega arith)) (cases_eq a i)
  where
    go : ((a ≡ i → ⊥) → member (range_with_len (a + 1) n) i ≡ true) → (a ≡ i) ⊎ (a ≡ i → ⊥) → member (range_with_len a (suc n)) i ≡ true
    go ih (inl e) = ap (λ b. b || member (range_with_len (a + 1) n) i) (eq-eqb a i e)
    go ih (inr e) = member_there a i (range_with_len (a + 1) n) e ∙ ih e

pub counting_below : (a n i : ℕ) → member (range_with_len a n) i ≡ true → i < a + n
counting_below a n i e = go (cases_lt i (a + n))
  where
    go : (i < a + n) ⊎ (a + n ≤ i) → i < a + n
    go (inl l) = l
    go (inr l) = absurd (false≢true (sym (member_above a (a + n) i (range_with_len a n) (upwards_counting a (a + n) n (omega arith)) l) ∙ e))

-- a list without gaps from low on
pub counting_from_closed : (low m : ℕ) (xs : List ℕ) → Upwards low m xs → ((i j : ℕ) → low ≤ i → i < j → j < m → member xs j ≡ true → member xs i ≡ true) → range_with_len low (length xs) ≡ xs
counting_from_closed low m [] u closed = refl
counting_from_closed low m (x ∷ xs) u closed = go (counting_from_closed (low + 1) m xs) (cases_lt low x)
  where
    go : (Upwards (low + 1) m xs → ((i j : ℕ) → low + 1 ≤ i → i < j → j < m → member xs j ≡ true → member xs i ≡ true) → range_with_len (low + 1) (length xs) ≡ xs)
        → (low < x) ⊎ (x ≤ low) → low ∷ range_with_len (low + 1) (length xs) ≡ x ∷ xs
    go ih (inl l) = absurd (false≢true (sym (member_below x m low (x ∷ xs) (omega arith, u.1, u.2) l) ∙ closed low x (omega arith) l u.1 (member_here x xs)))
    go ih (inr l) =
        let e : x ≡ low = omega (arith, u.0) in
        let rest = ih (upwards_wider (low + 1) (suc x) m xs (omega arith) u.2) (λ i j a b c p. sym (member_there x i xs (λ z. omega arith)) ∙ closed i j (omega arith) b c (member_there x j xs (λ z. omega arith) ∙ p)) in
        cc (e, rest)

-- the members in the cell from start to end

abbrev pub within : ℕ → ℕ → List ℕ → List ℕ
within start end xs = filter (λ x. leb start x && ltb x end) xs

pub within_all : (start end low m : ℕ) (xs : List ℕ) → start ≤ low → m ≤ end → Upwards low m xs → within start end xs ≡ xs
within_all start end low m [] a b u = refl
within_all start end low m (x ∷ xs) a b u =
    let p = and_from (leb start x) (ltb x end) (le-leb start x (omega (arith, u.0))) (lt-ltb x end (omega (arith, u.1))) in
    cond-true (leb start x && ltb x end) (x ∷ within start end xs) (within start end xs) p ∙ ap (λ l. x ∷ l) (within_all start end (suc x) m xs (omega (arith, u.0)) b u.2)

pub within_none_above : (start end low m : ℕ) (xs : List ℕ) → end ≤ low → Upwards low m xs → within start end xs ≡ []
within_none_above start end low m [] a u = refl
within_none_above start end low m (x ∷ xs) a u =
    let p = and_right (leb start x) (ltb x end) (le-ltb x end (omega (arith, u.0))) in
    cond-false (leb start x && ltb x end) (x ∷ within start end xs) (within start end xs) p ∙ within_none_above start end (suc x) m xs (omega (arith, u.0)) u.2

pub within_none_below : (start end low m : ℕ) (xs : List ℕ) → m ≤ start → Upwards low m xs → within start end xs ≡ []
within_none_below start end low m [] a u = refl
within_none_below start end low m (x ∷ xs) a u =
    let p = and_left (leb start x) (ltb x end) (lt-leb start x (omega (arith, u.1))) in
    cond-false (leb start x && ltb x end) (x ∷ within start end xs) (within start end xs) p ∙ within_none_below start end (suc x) m xs a u.2
