-- Cells and their parts side by side: what is inner, and letters that rise within cells and stay equal within parts. Assumes nothing.
use Rattle.std.proofs.Common.{◌≡◌, ℕ, ◌+◌, ◌-◌, ◌<◌, ◌≤◌, Bool, true, false, ◌&&◌, eqb, ltb, ◌⊎◌, List, [], ◌∷◌, ◌++◌, length, get_or, sym, refl, ap, ◌∙◌, inl, inr, arith}
use Rattle.std.specs.List.{AllByRecursion}
use Rattle.std.proofs.lemmas.Bool.{cases_lt, lt-ltb, le-ltb, cond-true, cond-false, false≢true}
use Rattle.std.proofs.lemmas.List.{length-append, get_or_append_left, get_or-append_right}
use Rattle.std.proofs.ByRecursion.{All-append}
use Rattle.scenarios.specs.Cells.{total, inner}

pub total_append : (xs ys : List ℕ) → total (xs ++ ys) ≡ total xs + total ys
total_append [] ys = omega arith
total_append (x ∷ xs) ys = let h = total_append xs ys in omega arith

pub inner_below : (c : ℕ) (cs : List ℕ) (i : ℕ) → i < c → inner (c ∷ cs) i ≡ ltb (i + 1) c
inner_below c cs i h = cond-true (ltb i c) _ _ (lt-ltb i c h)

pub inner_above : (c : ℕ) (cs : List ℕ) (i : ℕ) → c ≤ i → inner (c ∷ cs) i ≡ inner cs (i - c)
inner_above c cs i h = cond-false (ltb i c) _ _ (le-ltb i c h)

pub inner_past : (cs : List ℕ) (i : ℕ) → total cs ≤ i + 1 → inner cs i ≡ false
inner_past [] i h = refl
inner_past (c ∷ cs) i h = go (λ l. inner_past cs (i - c) (omega (arith, l))) (cases_lt i c)
  where
    go : (c ≤ i → inner cs (i - c) ≡ false) → (i < c) ⊎ (c ≤ i) → inner (c ∷ cs) i ≡ false
    go ih (inl l) = inner_below c cs i l ∙ le-ltb (i + 1) c (omega arith)
    go ih (inr l) = inner_above c cs i l ∙ ih l

pub inner_left : (cs ds : List ℕ) (i : ℕ) → i < total cs → inner (cs ++ ds) i ≡ inner cs i
inner_left [] ds i h = absurd (omega arith)
inner_left (c ∷ cs) ds i h = go (λ l. inner_left cs ds (i - c) (omega (arith, l))) (cases_lt i c)
  where
    go : (c ≤ i → inner (cs ++ ds) (i - c) ≡ inner cs (i - c)) → (i < c) ⊎ (c ≤ i) → inner (c ∷ (cs ++ ds)) i ≡ inner (c ∷ cs) i
    go ih (inl l) = inner_below c (cs ++ ds) i l ∙ sym (inner_below c cs i l)
    go ih (inr l) = inner_above c (cs ++ ds) i l ∙ ih l ∙ sym (inner_above c cs i l)

pub inner_right : (cs ds : List ℕ) (i : ℕ) → total cs ≤ i → inner (cs ++ ds) i ≡ inner ds (i - total cs)
inner_right [] ds i h = ap (inner ds) (let e : i ≡ i - 0 = omega arith in e)
inner_right (c ∷ cs) ds i h =
    inner_above c (cs ++ ds) i (omega arith) ∙ inner_right cs ds (i - c) (omega arith) ∙ ap (inner ds) (let e : i - c - total cs ≡ i - (c + total cs) = omega arith in e)

pub inner_one : (c i : ℕ) → inner (c ∷ []) i ≡ ltb (i + 1) c
inner_one c i = go (cases_lt i c)
  where
    go : (i < c) ⊎ (c ≤ i) → inner (c ∷ []) i ≡ ltb (i + 1) c
    go (inl l) = inner_below c [] i l
    go (inr l) = inner_above c [] i l ∙ sym (le-ltb (i + 1) c (omega arith))

abbrev Meets : Bool → Bool → ℕ → ℕ → Type 0
Meets c q x y = (c ≡ true → x ≤ y) × (q ≡ (c && eqb x y))

-- the cells cs fall into the parts qs by the letters ls
pub record Lays (cs qs ls : List ℕ) : Type 0 where
  pub filled : AllByRecursion (λ q. 0 < q) qs
  pub whole : total qs ≡ total cs
  pub long : length ls ≡ total cs
  pub rises : (j : ℕ) → inner cs j ≡ true → get_or ls j 0 ≤ get_or ls (j + 1) 0
  pub parts : (j : ℕ) → inner qs j ≡ (inner cs j && eqb (get_or ls j 0) (get_or ls (j + 1) 0))

pub lays_none : Lays [] [] []
lays_none = record { filled = tt; whole = refl; long = refl; rises = λ j e. absurd (false≢true e); parts = λ j. refl }

pub lays_append : (cs cs' qs qs' ls ls' : List ℕ) → Lays cs qs ls → Lays cs' qs' ls' → Lays (cs ++ cs') (qs ++ qs') (ls ++ ls')
lays_append cs cs' qs qs' ls ls' a b = record {
  filled = All-append (λ q. 0 < q) qs qs' a.filled b.filled;
  whole = omega (arith, total_append cs cs', total_append qs qs', a.whole, b.whole);
  long = omega (arith, total_append cs cs', length-append ls ls', a.long, b.long);
  rises = λ j. (at j (cases_lt (j + 1) (total cs)) (cases_lt j (total cs))).0;
  parts = λ j. (at j (cases_lt (j + 1) (total cs)) (cases_lt j (total cs))).1;
}
  where
    at : (j : ℕ) → (j + 1 < total cs) ⊎ (total cs ≤ j + 1) → (j < total cs) ⊎ (total cs ≤ j) → Meets (inner (cs ++ cs') j) (inner (qs ++ qs') j) (get_or (ls ++ ls') j 0) (get_or (ls ++ ls') (j + 1) 0)
    at j (inl h) k =
        rw (inner_left cs cs' j (omega arith), inner_left qs qs' j (omega (arith, a.whole)), get_or_append_left ls ls' 0 j (omega (arith, a.long)), get_or_append_left ls ls' 0 (j + 1) (omega (arith, a.long))) (a.rises j, a.parts j)
    at j (inr h) (inl k) =
        rw (inner_left cs cs' j k, inner_past cs j h, inner_left qs qs' j (omega (arith, a.whole)), inner_past qs j (omega (arith, a.whole))) ((λ e. absurd (false≢true e)), refl)
    at j (inr h) (inr k) =
        let s : j + 1 - total cs ≡ j - total cs + 1 = omega arith in
        let q : inner (qs ++ qs') j ≡ inner qs' (j - total cs) = inner_right qs qs' j (omega (arith, a.whole)) ∙ ap (λ n. inner qs' (j - n)) a.whole in
        rw (inner_right cs cs' j k, q, get_or-append_right ls ls' (total cs) j 0 a.long k, get_or-append_right ls ls' (total cs) (j + 1) 0 a.long (omega arith), s) (b.rises (j - total cs), b.parts (j - total cs))
