-- Numbers below the count and the sets that take a first few of each cell correspond one to one.
use Rattle.std.proofs.Common.{◌≡◌, ℕ, ◌+◌, ◌<◌, ◌⊎◌, List, [], length, get_or, sym, ap, ◌∙◌, subst, inl, inr, arith}
use Rattle.std.proofs.lemmas.List.{length-map, get_or-map}
use Rattle.std.proofs.lemmas.Bool.{cases_order}
use Rattle.scenarios.specs.Cells.{total}
use Rattle.orders.specs.Members.{member}
use Rattle.sets.specs.Sets.{Upwards, SetOf, FirstFew, amounts, firsts, sets, set_at}
use Rattle.sets.specs.Claims.{shares, Earlier, SetsCorrespond}
use Rattle.sets.proofs.Firsts.{Takes, length_firsts, upwards_firsts, shares_firsts, few_firsts, takes_from}
use Rattle.sets.proofs.Numbering.{amounts_take, amounts_found, amounts_ordered, earlier_apart}

module _ (f : ℕ) (cs : List ℕ) where
  length_sets : length (sets cs f) ≡ length (amounts cs f)
  unfolding sets
  length_sets = length-map (amounts cs f) (firsts 0 cs)

  below : (k : ℕ) → k < length (sets cs f) → k < length (amounts cs f)
  below k h = omega (arith, length_sets)

  set_is : (k : ℕ) → k < length (amounts cs f) → set_at cs f k ≡ firsts 0 cs (get_or (amounts cs f) k [])
  unfolding sets
  set_is k h = get_or-map (firsts 0 cs) (amounts cs f) k [] [] h

  shares_are : (k : ℕ) → k < length (amounts cs f) → shares 0 cs (set_at cs f k) ≡ get_or (amounts cs f) k []
  shares_are k h = ap (shares 0 cs) (set_is k h) ∙ shares_firsts 0 cs f (get_or (amounts cs f) k []) (amounts_take cs f k h)

  in_order : (k j : ℕ) → k < j → j < length (sets cs f) → Earlier (shares 0 cs (set_at cs f k)) (shares 0 cs (set_at cs f j))
  in_order k j l h =
      let b = below j h in
      subst (λ ts. Earlier ts (shares 0 cs (set_at cs f j))) (sym (shares_are k (omega arith)))
      (subst (λ ts. Earlier (get_or (amounts cs f) k []) ts) (sym (shares_are j b)) (amounts_ordered cs f k j l b))

  are_apart : (k j : ℕ) → k < length (sets cs f) → j < length (sets cs f) → set_at cs f k ≡ set_at cs f j → k ≡ j
  are_apart k j a b e = go (cases_order k j)
    where
      go : (k ≡ j) ⊎ ((k < j) ⊎ (j < k)) → k ≡ j
      go (inl q) = q
      go (inr (inl l)) = absurd (earlier_apart (shares 0 cs (set_at cs f j)) (subst (λ s. Earlier (shares 0 cs s) (shares 0 cs (set_at cs f j))) e (in_order k j l b)))
      go (inr (inr l)) = absurd (earlier_apart (shares 0 cs (set_at cs f j)) (subst (λ s. Earlier (shares 0 cs (set_at cs f j)) (shares 0 cs s)) e (in_order j k l a)))

module _ (n f : ℕ) (cs : List ℕ) (whole : total cs ≡ n) where
  from_zero : 0 + total cs ≡ n
  from_zero = omega arith

  member_from_zero : (s : List ℕ) (i : ℕ) → member s (i + 0) ≡ member s i
  member_from_zero s i = ap (member s) (let z : i + 0 ≡ i = omega arith in z)

  is_set : (ts : List ℕ) → Takes cs f ts → SetOf n f (firsts 0 cs ts)
  is_set ts h = record { upwards = subst (λ m. Upwards 0 m (firsts 0 cs ts)) from_zero (upwards_firsts 0 cs f ts h); exactly = length_firsts 0 cs f ts h }

  is_few : (ts : List ℕ) → Takes cs f ts → FirstFew n cs (firsts 0 cs ts)
  is_few ts h i j l b e m =
      let s = firsts 0 cs ts in
      sym (member_from_zero s i) ∙ few_firsts 0 cs f ts h i j l (omega arith) e (member_from_zero s j ∙ m)

  is_found : (s : List ℕ) → SetOf n f s → FirstFew n cs s → (k : ℕ) × (k < length (sets cs f)) × (set_at cs f k ≡ s)
  is_found s set few =
      let t = takes_from 0 cs s (subst (λ m. Upwards 0 m s) (sym from_zero) set.upwards) (λ i j l b e m. member_from_zero s i ∙ few i j l (omega arith) e (sym (member_from_zero s j) ∙ m)) in
      let r = amounts_found cs f t.0 (subst (λ m. Takes cs m t.0) set.exactly t.1) in
      (r.0, omega (arith, length_sets f cs, r.1), set_is f cs r.0 r.1 ∙ ap (firsts 0 cs) r.2 ∙ t.2)

  pub sets_correspond : SetsCorrespond n f cs
  sets_correspond = record {
    set_of = λ k h. let l = below f cs k h in subst (SetOf n f) (sym (set_is f cs k l)) (is_set (get_or (amounts cs f) k []) (amounts_take cs f k l));
    first_few = λ k h. let l = below f cs k h in subst (FirstFew n cs) (sym (set_is f cs k l)) (is_few (get_or (amounts cs f) k []) (amounts_take cs f k l));
    found = is_found;
    apart = are_apart f cs;
    ordered = in_order f cs;
  }
