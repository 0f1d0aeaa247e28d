-- One round from given cells: how each cell is split, how many rounds split them so, and each of these rounds by its number.
use Rattle.std.specs.Prelude.{ℕ, zero, suc, ◌+◌, ◌-◌, ◌*◌, ◌/◌, ◌%◌, min, Bool, cond, List, [], ◌∷◌, ◌++◌, map, length, replicate, filter, ◌==◌, nat_eq, slice_index}
use Rattle.std.specs.List.{range_with_len, flat_map}
use Rattle.scenarios.specs.declared.round.RoundScenario.{RoundScenario}
use Rattle.scenarios.specs.Masks.{bit}
use Rattle.scenarios.specs.Letters.{round_of}

-- m in exactly k positive parts, a smaller first part first
abbrev pub parts_in : ℕ → ℕ → List (List ℕ)
parts_in zero m = cond (m == 0) ([] ∷ []) []
parts_in (suc k) m = flat_map (λ a. map (λ ps. a ∷ ps) (parts_in k (m - a))) (range_with_len 1 m)

-- m in at most four positive parts, fewer parts first; nothing is in no part
abbrev pub compositions : ℕ → List (List ℕ)
compositions zero = [] ∷ []
compositions (suc m) = flat_map (λ k. parts_in k (suc m)) (range_with_len 1 (min (suc m) 4))

-- the ways to split a cell of c; the leader, if it is in the cell, is its last member and stands alone
abbrev pub splits : Bool → ℕ → List (List ℕ)
splits led c = cond led (map (λ ps. ps ++ (1 ∷ [])) (compositions (c - 1))) (compositions c)

-- the roles of a choice, which is a mask of four bits, upwards
unfoldable pub roles_in : ℕ → List ℕ
roles_in m = filter (bit m) (range_with_len 0 4)

-- the choices of k roles, in numeric order
unfoldable pub choices : ℕ → List ℕ
choices k = filter (λ m. nat_eq (length (roles_in m)) k) (range_with_len 0 16)

-- how many choices of k roles there are, and the roles of the choice d, upwards
unfoldable pub choose : ℕ → ℕ
choose k = length (choices k)

unfoldable pub subset : ℕ → ℕ → List ℕ
subset k d = roles_in (slice_index (choices k) d)

-- the parts of a split that have a role, which is all but the leader
abbrev pub free : Bool → List ℕ → ℕ
free led ps = length ps - cond led 1 0

-- how many ways there are to give the parts of a split their letters; a leader is placed in three ways
abbrev pub ways : Bool → List ℕ → ℕ
ways led ps = choose (free led ps) * cond led 3 1

-- the letters of the parts in the way d: the leader is placed primary, secondary, both for a remainder 0, 1, 2 by three
abbrev pub tones : Bool → List ℕ → ℕ → List ℕ
tones led ps d = cond led (subset (free led ps) (d / 3) ++ ((7 - d % 3) ∷ [])) (subset (free led ps) d)

-- each letter as often as its part is long
abbrev pub spell : List ℕ → List ℕ → List ℕ
spell [] xs = []
spell (p ∷ ps) [] = []
spell (p ∷ ps) (x ∷ xs) = replicate p x ++ spell ps xs

-- a split for each cell; the leader is the last member of the cell at the place leader
pub record Turn : Type 0 where
  pub leader : ℕ
  pub fill : List (List ℕ)

-- all splits of the cells from the place i on, the first cell outermost
abbrev pub fills : ℕ → ℕ → List ℕ → List (List (List ℕ))
fills l i [] = [] ∷ []
fills l i (c ∷ cs) = flat_map (λ ps. map (λ f. ps ∷ f) (fills l (i + 1) cs)) (splits (i == l) c)

-- all turns from these cells, by the leader's cell upwards
unfoldable pub turns : List ℕ → List Turn
turns cs = flat_map (λ l. map (λ f. record { leader = l; fill = f }) (fills l 0 cs)) (range_with_len 0 (length cs))

abbrev pub weight_from : ℕ → ℕ → List (List ℕ) → ℕ
weight_from l i [] = 1
weight_from l i (ps ∷ f) = ways (i == l) ps * weight_from l (i + 1) f

-- the letters of all participants in the way d; the first cell has the lowest digit of d
abbrev pub letters_from : ℕ → ℕ → List (List ℕ) → ℕ → List ℕ
letters_from l i [] d = []
letters_from l i (ps ∷ f) d =
    spell ps (tones (i == l) ps (d % ways (i == l) ps)) ++ letters_from l (i + 1) f (d / ways (i == l) ps)

-- how many rounds a turn stands for
unfoldable pub weight : Turn → ℕ
weight t = weight_from t.leader 0 t.fill

-- the cells after a turn
unfoldable pub after : Turn → List ℕ
after t = flat_map (λ ps. ps) t.fill

-- the round of a turn and a number below its weight
unfoldable pub round : Turn → ℕ → RoundScenario
round t d = round_of (letters_from t.leader 0 t.fill d)
