-- Counts of scenarios: at least one, and none on the way is larger than the total.
use Rattle.std.proofs.Common.{◌≡◌, ℕ, zero, suc, ◌+◌, ◌-◌, ◌*◌, ◌<◌, ◌≤◌, ◌⊎◌, List, [], ◌∷◌, ap, inl, inr, arith}
use Rattle.std.proofs.lemmas.Nat.{mul-le}
use Rattle.scenarios.specs.Cells.{CellsOf}
use Rattle.scenarios.specs.Turns.{Turn, turns, weight, after}
use Rattle.scenarios.specs.Fits.{Among}
use Rattle.scenarios.specs.Steps.{first_turn}
use Rattle.scenarios.proofs.Members.{among_none, among_cases}
use Rattle.scenarios.proofs.Fitting.{turns_some, turn_cells, turn_weight}
use Rattle.scenarios.specs.Scenarios.{sum_of, count}

-- one part of a sum
pub sum_part : {X : Type 0} (f : X → ℕ) (xs : List X) (x : X) → Among xs x → f x ≤ sum_of f xs
sum_part f [] x a = absurd (among_none x a)
sum_part f (y ∷ xs) x a = go (among_cases y xs x a) (sum_part f xs x)
  where
    go : (y ≡ x) ⊎ Among xs x → (Among xs x → f x ≤ sum_of f xs) → f x ≤ f y + sum_of f xs
    go (inl e) ih = let z = ap f e in omega arith
    go (inr b) ih = let z = ih b in omega arith

-- the count at a depth, by the turns from its cells
pub count_step : (R d : ℕ) (cs : List ℕ) → d < R → count (R - d) cs ≡ sum_of (λ t. weight t * count (R - (d + 1)) (after t)) (turns cs)
count_step R d cs h = ap (λ k. count k cs) (let e : R - d ≡ suc (R - (d + 1)) = omega arith in e)

pub count_falls : (r : ℕ) (cs : List ℕ) (t : Turn) → Among (turns cs) t → 1 ≤ weight t → count r (after t) ≤ count (suc r) cs
count_falls r cs t a w =
    let s = sum_part (λ u. weight u * count r (after u)) (turns cs) t a in
    let m = mul-le 1 (count r (after t)) (weight t) (count r (after t)) w (omega arith) in
    omega arith

pub count_positive : (r n : ℕ) (cs : List ℕ) → 0 < n → CellsOf n cs → 1 ≤ count r cs
count_positive zero n cs h c = omega arith
count_positive (suc r) n cs h c =
    let t = first_turn cs in
    let a = turns_some n cs h c in
    let p = count_positive r n (after t) h (turn_cells n cs t c a) in
    let f = count_falls r cs t a (turn_weight n cs t c a) in
    omega arith
