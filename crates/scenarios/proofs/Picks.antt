-- Ranks by turns: which turn a rank falls to, and what is left of it there. Assumes nothing.
use Rattle.std.proofs.Common.{◌≡◌, ℕ, suc, ◌+◌, ◌-◌, ◌*◌, ◌/◌, ◌%◌, ◌<◌, ◌≤◌, ◌⊎◌, List, [], ◌∷◌, ◌++◌, sym, refl, ap, ◌∙◌, inl, inr, mul-zero, zero-add, arith}
use Rattle.std.proofs.lemmas.Bool.{cases_lt, lt-ltb, le-ltb}
use Rattle.std.proofs.lemmas.Nat.{div_below, mod_below, div-mul-add, mod-mul-add, div-add-mod', mul-add-lt}
use Rattle.scenarios.specs.Turns.{Turn, turns, weight, after, round}
use Rattle.scenarios.specs.Scenarios.{sum_of, count, Pick, pick, scenario, residual}

pub sum_of_append : {X : Type 0} (f : X → ℕ) (xs ys : List X) → sum_of f (xs ++ ys) ≡ sum_of f xs + sum_of f ys
sum_of_append f [] ys = sym (zero-add (sum_of f ys))
sum_of_append f (x ∷ xs) ys = let e = sum_of_append f xs ys in omega arith

pub pick_at : (size : Turn → ℕ) (b : List Turn) (t : Turn) (r : List Turn) (k : ℕ) → k < size t
    → pick size (b ++ (t ∷ r)) (sum_of size b + k) ≡ record { turn = t; left = k }
pick_at size [] t r k l = rw (zero-add, lt-ltb k (size t) l)
pick_at size (x ∷ b) t r k l =
    let past = le-ltb (size x + sum_of size b + k) (size x) (omega arith) in
    let e : size x + sum_of size b + k - size x ≡ sum_of size b + k = omega arith in
    rw (past, e) (pick_at size b t r k l)

pub pick_in : (size : Turn → ℕ) (ts : List Turn) (k : ℕ) → k < sum_of size ts
    → (b : List Turn) × (t : Turn) × (r : List Turn) × (j : ℕ)
    × (ts ≡ b ++ (t ∷ r)) × (k ≡ sum_of size b + j) × (j < size t) × (pick size ts k ≡ record { turn = t; left = j })
pick_in size [] k h = absurd (omega arith)
pick_in size (t ∷ ts) k h = go (λ l. pick_in size ts (k - size t) (omega arith)) (cases_lt k (size t))
  where
    go : (size t ≤ k → (b : List Turn) × (t' : Turn) × (r : List Turn) × (j : ℕ)
        × (ts ≡ b ++ (t' ∷ r)) × (k - size t ≡ sum_of size b + j) × (j < size t') × (pick size ts (k - size t) ≡ record { turn = t'; left = j }))
        → (k < size t) ⊎ (size t ≤ k)
        → (b : List Turn) × (t' : Turn) × (r : List Turn) × (j : ℕ)
        × (t ∷ ts ≡ b ++ (t' ∷ r)) × (k ≡ sum_of size b + j) × (j < size t') × (pick size (t ∷ ts) k ≡ record { turn = t'; left = j })
    go ih (inl l) = ([], t, ts, k, refl, sym (zero-add k), l, rw (lt-ltb k (size t) l))
    go ih (inr l) =
        let h = ih l in
        let e = h.5 in
        (t ∷ h.0, h.1, h.2, h.3, ap (λ xs. t ∷ xs) h.4, omega arith, h.6, rw (le-ltb k (size t) l) h.7)

-- the scenarios of one more round that begin with a turn
abbrev pub size : ℕ → Turn → ℕ
size r t = weight t * count r (after t)

-- the rank of the round d of a turn, behind the turns b, with the rank k of the rounds after it
abbrev pub rank : ℕ → List Turn → Turn → ℕ → ℕ → ℕ
rank r b t d k = sum_of (size r) b + (d * count r (after t) + k)

module _ (r : ℕ) (cs : List ℕ) where
  pub scenario_step : (b : List Turn) (t : Turn) (rest : List Turn) (d k : ℕ) → turns cs ≡ b ++ (t ∷ rest) → d < weight t → k < count r (after t)
      → (scenario (suc r) cs (rank r b t d k) ≡ round t d ∷ scenario r (after t) k)
      × (residual (suc r) cs (rank r b t d k) ≡ residual r (after t) k)
      × (rank r b t d k < count (suc r) cs)
  scenario_step b t rest d k q ld lk =
      let c = count r (after t) in
      let below : d * c + k < weight t * c = omega (arith, mul-add-lt d c k (weight t) ld lk) in
      let picked : pick (size r) (turns cs) (rank r b t d k) ≡ record { turn = t; left = d * c + k } = rw q (pick_at (size r) b t rest (d * c + k) below) in (
        ap (λ (p : Pick). round p.turn (p.left / count r (after p.turn)) ∷ scenario r (after p.turn) (p.left % count r (after p.turn))) picked
            ∙ rw (div-mul-add d c k lk, mod-mul-add d c k lk),
        ap (λ (p : Pick). residual r (after p.turn) (p.left % count r (after p.turn))) picked ∙ rw (mod-mul-add d c k lk),
        rw (q, sum_of_append (size r) b (t ∷ rest)) (omega arith),
      )

  -- how the scenario of rank k begins
  pub record Begins (k : ℕ) : Type 0 where
    pub before : List Turn
    pub turn : Turn
    pub rest : List Turn
    pub number : ℕ
    pub left : ℕ
    pub splits : turns cs ≡ before ++ (turn ∷ rest)
    pub number_below : number < weight turn
    pub left_below : left < count r (after turn)
    pub rank_is : k ≡ rank r before turn number left
    pub scenario_is : scenario (suc r) cs k ≡ round turn number ∷ scenario r (after turn) left
    pub residual_is : residual (suc r) cs k ≡ residual r (after turn) left

  pub scenario_first : (k : ℕ) → k < count (suc r) cs → Begins k
  scenario_first k h =
      let p = pick_in (size r) (turns cs) k h in
      go p.0 p.1 p.2 p.3 p.4 p.5 p.6
    where
      go : (b : List Turn) (t : Turn) (rest : List Turn) (j : ℕ) → turns cs ≡ b ++ (t ∷ rest) → k ≡ sum_of (size r) b + j → j < size r t → Begins k
      go b t rest j q e l =
          let c = count r (after t) in
          let some : 0 < c = some_left (cases_lt 0 c) in
          let d_below = div_below j c (weight t) some l in
          let k_below = mod_below j c some in
          let e' : k ≡ rank r b t (j / c) (j % c) = omega (arith, div-add-mod' j c) in
          let s = scenario_step b t rest (j / c) (j % c) q d_below k_below in
          record {
            before = b;
            turn = t;
            rest = rest;
            number = j / c;
            left = j % c;
            splits = q;
            number_below = d_below;
            left_below = k_below;
            rank_is = e';
            scenario_is = ap (scenario (suc r) cs) e' ∙ s.0;
            residual_is = ap (residual (suc r) cs) e' ∙ s.1;
          }
        where
          some_left : (0 < count r (after t)) ⊎ (count r (after t) ≤ 0) → 0 < count r (after t)
          some_left (inl s) = s
          some_left (inr s) =
              let none : count r (after t) ≡ 0 = omega arith in
              let z : size r t ≡ 0 = ap (λ x. weight t * x) none ∙ mul-zero (weight t) in
              absurd (omega arith)
