-- Finding the turn whose interval holds a rank, one turn after the other.
use Rattle.std.proofs.Common.{◌≡◌, ℕ, suc, ◌-◌, ◌/◌, ◌%◌, ◌<◌, ◌≤◌, ltb, List, ◌∷◌, refl, ap, ◌∙◌, arith}
use Rattle.std.proofs.lemmas.Bool.{lt-ltb, le-ltb, cond-true, cond-false}
use Rattle.std.proofs.lemmas.Nat.{div_below, mod_below}
use Rattle.scenarios.specs.Turns.{Turn, turns, weight, after, round}
use Rattle.scenarios.specs.Scenarios.{sum_of, count, Pick, pick, scenario, residual}
use Rattle.scenarios.proofs.Picks.{size}

-- what is left of the rank, among the turns that are left, leads to the same turn
pub record Seeking (r : ℕ) (cs : List ℕ) (rank : ℕ) (ts : List Turn) (left : ℕ) : Type 0 where
  pub same : pick (size r) (turns cs) rank ≡ pick (size r) ts left
  pub below : left < sum_of (size r) ts

pub seek_start : (r : ℕ) (cs : List ℕ) (rank : ℕ) → rank < count (suc r) cs → Seeking r cs rank (turns cs) rank
seek_start r cs rank h = record { same = refl; below = h }

pub seek_on : (r : ℕ) (cs : List ℕ) (rank : ℕ) (t : Turn) (ts : List Turn) (left : ℕ) → Seeking r cs rank (t ∷ ts) left → size r t ≤ left → Seeking r cs rank ts (left - size r t)
seek_on r cs rank t ts left s h = record {
  same = s.same ∙ cond-false (ltb left (size r t)) _ _ (le-ltb left (size r t) h);
  below = let b = s.below in omega arith;
}

-- what is found: the first round, and what is left behind it
pub record Found (r : ℕ) (cs : List ℕ) (rank : ℕ) (t : Turn) (left : ℕ) : Type 0 where
  pub some : 0 < count r (after t)
  pub number_below : left / count r (after t) < weight t
  pub left_below : left % count r (after t) < count r (after t)
  pub rounds_are : scenario (suc r) cs rank ≡ round t (left / count r (after t)) ∷ scenario r (after t) (left % count r (after t))
  pub cells_are : residual (suc r) cs rank ≡ residual r (after t) (left % count r (after t))

pub seek_found : (r : ℕ) (cs : List ℕ) (rank : ℕ) (t : Turn) (ts : List Turn) (left : ℕ) → Seeking r cs rank (t ∷ ts) left → left < size r t → 0 < count r (after t) → Found r cs rank t left
seek_found r cs rank t ts left s h p =
    let k : pick (size r) (turns cs) rank ≡ record { turn = t; left = left } = s.same ∙ cond-true (ltb left (size r t)) _ _ (lt-ltb left (size r t) h) in
    record {
      some = p;
      number_below = div_below left (count r (after t)) (weight t) p h;
      left_below = mod_below left (count r (after t)) p;
      rounds_are = ap (λ (x : Pick). round x.turn (x.left / count r (after x.turn)) ∷ scenario r (after x.turn) (x.left % count r (after x.turn))) k;
      cells_are = ap (λ (x : Pick). residual r (after x.turn) (x.left % count r (after x.turn))) k;
    }
