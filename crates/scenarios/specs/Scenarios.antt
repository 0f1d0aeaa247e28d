-- Scenarios of many rounds from given cells: how many there are, and each by its rank.
use Rattle.std.specs.Prelude.{ℕ, zero, suc, ◌+◌, ◌-◌, ◌*◌, ◌/◌, ◌%◌, cond, List, [], ◌∷◌, nat_lt}
use Rattle.scenarios.specs.declared.round.RoundScenario.{RoundScenario}
use Rattle.scenarios.specs.Turns.{Turn, turns, weight, after, round}

abbrev pub sum_of : {X : Type 0} → (X → ℕ) → List X → ℕ
sum_of f [] = 0
sum_of f (x ∷ xs) = f x + sum_of f xs

-- how many scenarios of r rounds continue from these cells
abbrev pub count : ℕ → List ℕ → ℕ
count zero cs = 1
count (suc r) cs = sum_of (λ t. weight t * count r (after t)) (turns cs)

-- the turn whose interval holds k, and what is left of k there
pub record Pick : Type 0 where
  pub turn : Turn
  pub left : ℕ

abbrev pub pick : (Turn → ℕ) → List Turn → ℕ → Pick
pick size [] k = record { turn = record { leader = 0; fill = [] }; left = k }
pick size (t ∷ ts) k = cond (nat_lt k (size t)) (record { turn = t; left = k }) (pick size ts (k - size t))

-- the scenario of rank k: each turn owns an interval of weight times continuations, in the order of turns
abbrev pub scenario : ℕ → List ℕ → ℕ → List RoundScenario
scenario zero cs k = []
scenario (suc r) cs k =
    let p = pick (λ t. weight t * count r (after t)) (turns cs) k in
    let c = count r (after p.turn) in
    round p.turn (p.left / c) ∷ scenario r (after p.turn) (p.left % c)

-- the cells that the scenario of rank k leaves
abbrev pub residual : ℕ → List ℕ → ℕ → List ℕ
residual zero cs k = cs
residual (suc r) cs k =
    let p = pick (λ t. weight t * count r (after t)) (turns cs) k in
    residual r (after p.turn) (p.left % count r (after p.turn))
