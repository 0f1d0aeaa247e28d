-- Floyd's sample, one number more at a time.
use Rattle.std.proofs.Common.{◌≡◌, ℕ, ◌+◌, ◌-◌, ◌<◌, ◌≤◌, true, false, ◌≢◌, ◌⊎◌, List, [], ◌∷◌, ◌++◌, length, get_or, take, sym, refl, ap, ◌∙◌, inl, inr, arith}
use Rattle.std.proofs.lemmas.List.{length-append, get_or_append_left, get_or_at, take-append-le, take_at}
use Rattle.std.proofs.ByRecursion.{All-weaker, All-push, All-get_or}
use Rattle.std.proofs.lemmas.Bool.{cases_lt, cases_Bool, true≢false, cond-true, cond-false}
use Rattle.orders.specs.Members.{member}
use Rattle.sampling.specs.Floyd.{inserted, Sample}
use Rattle.sampling.proofs.Inserting.{member_at}

pub sample_none : (n : ℕ) → Sample n [] []
sample_none n = record { as_many = refl; below = tt; different = λ i j h l. absurd (omega arith); each = λ i h. absurd (omega arith) }

-- what is inserted: the number drawn, which is new, or the bound
inserted_is : (s : List ℕ) (t j : ℕ) → ((member s t ≡ false) × (inserted s t j ≡ t)) ⊎ ((member s t ≡ true) × (inserted s t j ≡ j))
inserted_is s t j = go (cases_Bool (member s t))
  where
    go : (member s t ≡ true) ⊎ (member s t ≡ false) → ((member s t ≡ false) × (inserted s t j ≡ t)) ⊎ ((member s t ≡ true) × (inserted s t j ≡ j))
    go (inl e) = inr (e, cond-true (member s t) j t e)
    go (inr e) = inl (e, cond-false (member s t) j t e)

module _ (j t : ℕ) (ts s : List ℕ) (few : length ts ≤ j) (low : t ≤ j) (S : Sample j ts s) where
  abbrev x : ℕ
  x = inserted s t j

  abbrev ss : List ℕ
  ss = s ++ (x ∷ [])

  abbrev us : List ℕ
  us = ts ++ (t ∷ [])

  inserted_low : x < j + 1
  inserted_low = go (inserted_is s t j)
    where
      go : ((member s t ≡ false) × (inserted s t j ≡ t)) ⊎ ((member s t ≡ true) × (inserted s t j ≡ j)) → inserted s t j < j + 1
      go (inl e) = omega (arith, e.1)
      go (inr e) = omega (arith, e.1)

  inserted_fresh : (i : ℕ) → i < length s → get_or s i 0 ≢ x
  inserted_fresh i h e = go (inserted_is s t j)
    where
      go : ((member s t ≡ false) × (inserted s t j ≡ t)) ⊎ ((member s t ≡ true) × (inserted s t j ≡ j)) → ⊥
      go (inl q) = true≢false (sym (member_at s i t h (e ∙ q.1)) ∙ q.0)
      go (inr q) = let b = All-get_or (λ y. y < j) s i 0 h S.below in omega (arith, e, q.1)

  long : length ss ≡ length s + 1
  long = length-append s (x ∷ [])

  long_us : length us ≡ length ts + 1
  long_us = length-append ts (t ∷ [])

  different_more : (i k : ℕ) → i < k → k < length ss → get_or ss i 0 ≢ get_or ss k 0
  different_more i k h l e = go (cases_lt k (length s))
    where
      lower : i < length s
      lower = omega (arith, long)

      go : (k < length s) ⊎ (length s ≤ k) → ⊥
      go (inl m) = S.different i k h m (sym (get_or_append_left s (x ∷ []) 0 i lower) ∙ e ∙ get_or_append_left s (x ∷ []) 0 k m)
      go (inr m) = inserted_fresh i lower (sym (get_or_append_left s (x ∷ []) 0 i lower) ∙ e ∙ ap (λ q. get_or ss q 0) (let q : k ≡ length s = omega (arith, long) in q) ∙ get_or_at s x [] 0 (length s) refl)

  abbrev Each : List ℕ → List ℕ → ℕ → ℕ → Type 0
  Each r rs b i =
      ((member (take i r) (get_or rs i 0) ≡ false) × (get_or r i 0 ≡ get_or rs i 0))
      ⊎ ((member (take i r) (get_or rs i 0) ≡ true) × (get_or r i 0 ≡ b + i))

  each_more : (i : ℕ) → i < length us → Each ss us (j + 1 - length us) i
  each_more i h = go (cases_lt i (length ts))
    where
      base : j + 1 - length us ≡ j - length ts
      base = omega (arith, long_us)

      at : get_or us (length ts) 0 ≡ t
      at = get_or_at ts t [] 0 (length ts) refl

      go : (i < length ts) ⊎ (length ts ≤ i) → Each ss us (j + 1 - length us) i
      go (inl l) =
          let a = get_or_append_left ts (t ∷ []) 0 i l in
          let b = get_or_append_left s (x ∷ []) 0 i (omega (arith, S.as_many)) in
          let f = take-append-le i s (x ∷ []) (omega (arith, S.as_many)) in
          rw (a, b, f, base) (S.each i l)
      go (inr l) =
          let e : i ≡ length ts = omega (arith, long_us) in
          let a : get_or us i 0 ≡ t = ap (λ q. get_or us q 0) e ∙ at in
          let b : get_or ss i 0 ≡ x = get_or_at s x [] 0 i (S.as_many ∙ sym e) in
          let f : take i ss ≡ s = take_at s (x ∷ []) i (S.as_many ∙ sym e) in
          last e a b f (inserted_is s t j)
        where
          last : i ≡ length ts → get_or us i 0 ≡ t → get_or ss i 0 ≡ x → take i ss ≡ s → ((member s t ≡ false) × (inserted s t j ≡ t)) ⊎ ((member s t ≡ true) × (inserted s t j ≡ j)) → Each ss us (j + 1 - length us) i
          last e a b f (inl q) = inl (ap (λ r. member r (get_or us i 0)) f ∙ ap (member s) a ∙ q.0, b ∙ q.1 ∙ sym a)
          last e a b f (inr q) = inr (ap (λ r. member r (get_or us i 0)) f ∙ ap (member s) a ∙ q.0, b ∙ q.1 ∙ (let z : j ≡ j + 1 - length us + i = omega (arith, long_us) in z))

  pub sample_more : Sample (j + 1) us ss
  sample_more = record {
    as_many = omega (arith, long, long_us, S.as_many);
    below = All-push (λ y. y < j + 1) s x (All-weaker (λ y. y < j) (λ y. y < j + 1) (λ y h. omega arith) s S.below) inserted_low;
    different = different_more;
    each = each_more;
  }
