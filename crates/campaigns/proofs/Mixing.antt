-- A list that is shuffled and cut: what stands where in it.
use Rattle.std.proofs.Common.{◌≡◌, ℕ, zero, suc, ◌-◌, ◌<◌, ◌≤◌, ◌≢◌, ◌⊎◌, List, [], ◌∷◌, length, get_or, take, sym, refl, ap, ◌∙◌, subst, inl, inr, arith}
use Rattle.std.specs.List.{swap}
use Rattle.std.specs.List.Sorted.{IsPermutation}
use Rattle.std.proofs.lemmas.List.{length-take, get_or-take}
use Rattle.std.proofs.lemmas.List.Sorted.{IsPermutation-refl, IsPermutation-trans, IsPermutation-swap, length_permutation}
use Rattle.std.proofs.lemmas.Bool.{cases_order}
use Rattle.orders.specs.Orders.{Renaming, Moved}
use Rattle.orders.proofs.Sorting.{as_core, moved_from_shuffled}
use Rattle.scenarios.specs.Fits.{Among}
use Rattle.words.specs.Words.{Words}
use Rattle.words.specs.Draws.{draws}
use Rattle.sampling.specs.Shuffles.{down_from, exchanges}
use Rattle.campaigns.proofs.Different.{Once, among_getD, getD_among, getD_once}
use Rattle.words.proofs.Drawing.{draws_below, draws_few}

-- exchanges of places of the list are a rearrangement

module _ {X : Type 0} where
  exchanges_shuffled : (xs : List X) (i : ℕ) (js : List ℕ) → i ≤ length xs - 1 → ((k : ℕ) → k < length js → get_or js k 0 < length xs) → IsPermutation xs (exchanges xs i js)
  exchanges_shuffled xs i [] h low = IsPermutation-refl xs
  exchanges_shuffled xs i (j ∷ js) h low =
      let first = low 0 (omega arith) in
      let one = IsPermutation-swap xs (swap xs i j) i j (omega arith) first (sym (as_core xs i j)) in
      let same = length_permutation xs (swap xs i j) one in
      IsPermutation-trans xs (swap xs i j) (exchanges xs i (j ∷ js)) one (exchanges_shuffled (swap xs i j) (i - 1) js (omega arith) (λ k l. let q = low (suc k) (omega arith) in omega arith))

getD_down : (m k : ℕ) → k < length (down_from m) → (get_or (down_from m) k 0 ≤ m) × (0 < m)
getD_down zero k h = absurd (omega arith)
getD_down (suc m) zero h = (omega arith, omega arith)
getD_down (suc m) (suc k) h = let t = getD_down m k (omega arith) in (omega (arith, t.0), omega arith)

pub drawn_shuffled : {X : Type 0} (xs : List X) (w : Words) → IsPermutation xs (exchanges xs (length xs - 1) (draws (down_from (length xs - 1)) w).numbers)
drawn_shuffled xs w = exchanges_shuffled xs (length xs - 1) (draws (down_from (length xs - 1)) w).numbers (omega arith) (λ k h.
    let few = draws_few (down_from (length xs - 1)) w in
    let t = getD_down (length xs - 1) k (omega arith) in
    let b = draws_below (down_from (length xs - 1)) w k h in
    omega (arith, t.0, t.1))

-- the front of a rearrangement
module _ {X : Type 0} (xs ys : List X) (cap : ℕ) (s : IsPermutation xs ys) (d : X) where
  moved : Moved (length xs) xs ys
  moved = moved_from_shuffled (length xs) xs ys refl s

  within : (i : ℕ) → i < length (take cap ys) → (i < cap) × (i < length xs)
  within i h = let a = length-take cap ys in let b = length_permutation xs ys s in (omega arith, omega arith)

  origin : (i : ℕ) → i < length (take cap ys) → get_or (take cap ys) i d ≡ get_or xs (moved.0.back i) d
  origin i h =
      let b = within i h in
      let p = moved.0 in
      get_or-take cap ys i d b.0 ∙ ap (λ k. get_or ys k d) (sym (p.to_back i b.1)) ∙ moved.1.at (p.back i) d (p.back_below i b.1)

  -- what stands there, stands in the list
  pub cut_among : (i : ℕ) → i < length (take cap ys) → Among xs (get_or (take cap ys) i d)
  cut_among i h = subst (Among xs) (sym (origin i h)) (among_getD xs (moved.0.back i) d (moved.0.back_below i (within i h).1))

  -- nothing stands there twice
  pub cut_once : Once xs → (i j : ℕ) → i < j → j < length (take cap ys) → get_or (take cap ys) i d ≢ get_or (take cap ys) j d
  cut_once o i j h l e = go (cases_order (p.back i) (p.back j))
    where
      p : Renaming (length xs)
      p = moved.0

      low_i : i < length (take cap ys)
      low_i = omega arith

      same : get_or xs (p.back i) d ≡ get_or xs (p.back j) d
      same = sym (origin i low_i) ∙ e ∙ origin j l

      go : (p.back i ≡ p.back j) ⊎ ((p.back i < p.back j) ⊎ (p.back j < p.back i)) → ⊥
      go (inl q) = let r : i ≡ j = sym (p.to_back i (within i low_i).1) ∙ ap p.to q ∙ p.to_back j (within j l).1 in omega arith
      go (inr (inl q)) = getD_once xs (p.back i) (p.back j) d o q (p.back_below j (within j l).1) same
      go (inr (inr q)) = getD_once xs (p.back j) (p.back i) d o q (p.back_below i (within i low_i).1) (sym same)

  -- a cut that leaves all
  pub cut_all : length xs ≤ cap → (x : X) → Among xs x → (i : ℕ) × (i < length (take cap ys)) × (get_or (take cap ys) i d ≡ x)
  cut_all h x a =
      let t = getD_among xs x d a in
      let p = moved.0 in
      let i = p.to t.0 in
      let b = p.to_below t.0 t.1 in
      let l = length-take cap ys in
      let m = length_permutation xs ys s in
      (i, omega arith, get_or-take cap ys i d (omega arith) ∙ moved.1.at t.0 d t.1 ∙ t.2)
