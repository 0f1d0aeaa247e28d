-- The rank of the rounds read so far: each scenario that goes on from their state, by its rank from there.
use Rattle.std.proofs.Common.{◌≡◌, ℕ, suc, ◌+◌, ◌-◌, ◌<◌, ◌≤◌, List, [], ◌∷◌, ◌++◌, length, get_or, take, sym, ap, ◌∙◌, subst, arith}
use Rattle.std.proofs.lemmas.List.{take_more, append_assoc, append-nil, take_all}
use Rattle.scenarios.specs.declared.round.RoundScenario.{RoundScenario}
use Rattle.scenarios.specs.Cells.{cells, boundaries}
use Rattle.scenarios.specs.Turns.{Turn, turns, weight, after, round}
use Rattle.scenarios.specs.Fits.{Among, Fits}
use Rattle.scenarios.specs.Scenarios.{count, scenario}
use Rattle.scenarios.specs.Counting.{layer}
use Rattle.scenarios.specs.Ranking.{FirstRank}
use Rattle.scenarios.proofs.States.{cells_stand}
use Rattle.scenarios.proofs.Walks.{turns_fit}
use Rattle.scenarios.proofs.Members.{among_here}
use Rattle.scenarios.proofs.Picks.{rank, scenario_step}
use Rattle.scenarios.proofs.Counts.{count_positive}
use Rattle.scenarios.proofs.Layers.{root_state, next_cells}
use Rattle.scenarios.proofs.Finding.{layer_after}
use Rattle.scenarios.proofs.Canoning.{Read, read_start, read_more}

-- the scenario of rank k from the state s stands at v + k among all, behind the first i rounds
abbrev Continues : ℕ → List RoundScenario → ℕ → ℕ → ℕ → ℕ → Type 0
Continues n rs i s v k =
    (scenario (length rs) (n ∷ []) (v + k) ≡ take i rs ++ scenario (length rs - i) (cells n s) k) × (v + k < count (length rs) (n ∷ []))

-- what holds after i rounds: they are read, s is the state after them, and v the rank at which their scenarios start
pub record Ranking (n : ℕ) (rs : List RoundScenario) (i s v : ℕ) : Type 0 where
  pub read : Read n rs i s
  pub reached : Among (layer n i) s
  pub ranks : (k : ℕ) → k < count (length rs - i) (cells n s) → Continues n rs i s v k

pub rank_start : (n : ℕ) (rs : List RoundScenario) → 0 < n → Ranking n rs 0 0 0
rank_start n rs h = record {
  read = read_start n rs h (root_state n h);
  reached = among_here 0 [];
  ranks = λ k l. go k l;
}
  where
    go : (k : ℕ) → k < count (length rs - 0) (cells n 0) → Continues n rs 0 0 0 k
    go k l =
        let e : 0 + k ≡ k = omega arith in
        let z : length rs ≡ length rs - 0 = omega arith in
        let q : count (length rs - 0) (cells n 0) ≡ count (length rs) (n ∷ []) = ap (λ j. count j (cells n 0)) (sym z) ∙ ap (count (length rs)) (root_state n h) in (
          ap (scenario (length rs) (n ∷ [])) e ∙ ap (λ cs. scenario (length rs) cs k) (sym (root_state n h)) ∙ ap (λ j. scenario j (cells n 0) k) z,
          (omega arith),
        )

-- one round more, of the turn t and the number d
module _ (n : ℕ) (rs : List RoundScenario) (i s v : ℕ) (some : 0 < n) (so : Ranking n rs i s v) (z : RoundScenario) (l : i < length rs)
    (t : Turn) (d : ℕ) (fits : Fits (cells n s) t) (below : d < weight t) (is : round t d ≡ get_or rs i z)
    (y : ℕ) (first : FirstRank (length rs - (i + 1)) (cells n s) t d y) where
  among_turns : Among (turns (cells n s)) t
  among_turns = (turns_fit n (cells n s) (cells_stand n s some) t).1 fits

  after_is : cells n (boundaries (after t)) ≡ after t
  after_is = next_cells n s t some among_turns

  ranks_on : (k : ℕ) → k < count (length rs - (i + 1)) (after t)
      → (scenario (length rs) (n ∷ []) (v + y + k) ≡ take (i + 1) rs ++ scenario (length rs - (i + 1)) (after t) k) × (v + y + k < count (length rs) (n ∷ []))
  ranks_on k b =
      let r = length rs - (i + 1) in
      let p = scenario_step r (cells n s) first.before t first.rest d k first.splits below b in
      let j = rank r first.before t d k in
      let e : suc r ≡ length rs - i = omega arith in
      let f : v + y + k ≡ v + j = let g = first.is in omega arith in
      let q = so.ranks j (subst (λ m. j < count m (cells n s)) e p.2) in
      let u = q.1 in (
        ap (scenario (length rs) (n ∷ [])) f ∙ q.0
            ∙ ap (λ m. take i rs ++ scenario m (cells n s) j) (sym e)
            ∙ ap (λ x. take i rs ++ x) (p.0 ∙ ap (λ x. x ∷ scenario r (after t) k) is)
            ∙ sym (append_assoc (take i rs) (get_or rs i z ∷ []) (scenario r (after t) k))
            ∙ ap (λ x. x ++ scenario r (after t) k) (sym (take_more rs i z l)),
        (omega arith),
      )

  pub rank_fits : v + y < count (length rs) (n ∷ [])
  rank_fits =
      let c = count_positive (length rs - (i + 1)) n (cells n (boundaries (after t))) some (cells_stand n (boundaries (after t)) some) in
      let e = ap (count (length rs - (i + 1))) after_is in
      let q = (ranks_on 0 (omega arith)).1 in
      omega arith

  ranked : (m : ℕ) → boundaries (after t) ≡ m → Ranking n rs (i + 1) m (v + y)
  ranked m q =
      let e : after t ≡ cells n m = sym after_is ∙ ap (cells n) q in
      record {
        read = read_more n some rs i s so.read z l t d m fits below is q;
        reached = subst (Among (layer n (i + 1))) q (layer_after n i s t so.reached among_turns);
        ranks = subst (λ cs. (k : ℕ) → k < count (length rs - (i + 1)) cs
            → (scenario (length rs) (n ∷ []) (v + y + k) ≡ take (i + 1) rs ++ scenario (length rs - (i + 1)) cs k) × (v + y + k < count (length rs) (n ∷ []))) e ranks_on;
      }

  pub rank_more : (m u : ℕ) → boundaries (after t) ≡ m → u ≡ v + y → Ranking n rs (i + 1) m u
  rank_more m u q e = subst (Ranking n rs (i + 1) m) (sym e) (ranked m q)

-- after the last round one scenario is left, which has no more rounds
pub rank_all : (n : ℕ) (rs : List RoundScenario) (i s v : ℕ) → length rs ≤ i → Ranking n rs i s v → (v < count (length rs) (n ∷ [])) × (scenario (length rs) (n ∷ []) v ≡ rs)
rank_all n rs i s v h so =
    let e : length rs - i ≡ 0 = omega arith in
    let o : count (length rs - i) (cells n s) ≡ 1 = ap (λ j. count j (cells n s)) e in
    let q = so.ranks 0 (omega arith) in
    let u = q.1 in
    let z : v ≡ v + 0 = omega arith in (
      (omega arith),
      ap (scenario (length rs) (n ∷ [])) z ∙ q.0 ∙ ap (λ j. take i rs ++ scenario j (cells n s) 0) e ∙ append-nil (take i rs) ∙ take_all i rs h,
    )
