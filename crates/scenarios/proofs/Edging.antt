-- The edge at which a walk stands, summed up cell by cell.
use Rattle.std.proofs.Common.{◌≡◌, ℕ, ◌+◌, ◌-◌, ◌*◌, ◌%◌, ◌^◌, ◌<◌, ◌≤◌, eqb, List, [], ◌++◌, length, get_or, take, sym, ap, ◌∙◌, subst, arith}
use lib.Bits.{bit_and}
use Rattle.std.specs.List.{flat_map, AllByRecursion}
use Rattle.std.proofs.lemmas.Nat.{and_mask, one_shl}
use Rattle.std.proofs.lemmas.List.{take_more, take_all, flat_map_more}
use Rattle.std.proofs.ByRecursion.{All-append}
use Rattle.scenarios.specs.declared.edge.Edges.{Edges}
use Rattle.scenarios.specs.declared.edge.SplitCell.{SplitCell}
use Rattle.scenarios.specs.Cells.{total, ends, boundaries}
use Rattle.scenarios.specs.Turns.{ways, weight_from, weight, after}
use Rattle.scenarios.specs.Refinements.{sizes}
use Rattle.scenarios.specs.Edges.{cells_at, turn_at}
use Rattle.scenarios.proofs.Parting.{total_append}
use Rattle.scenarios.proofs.States.{ends_append, ends_below}
use Rattle.scenarios.proofs.Ending.{total_more}
use Rattle.scenarios.proofs.Weighing.{weight_more, weight_front, weight_small}
use Rattle.scenarios.proofs.Drawing.{starts_at, split_at, fill_at, length_cells, length_fill, ways_at}

-- the parts of the first i cells
abbrev pub front : Edges → ℕ → List ℕ
front e i = flat_map (λ ps. ps) (take i (turn_at e).fill)

pub record Summed (e : Edges) (i mask multiplicity : ℕ) : Type 0 where
  pub whole : total (front e i) ≡ total (take i (cells_at e))
  pub filled : AllByRecursion (λ p. 0 < p) (front e i)
  pub ended : mask ≡ ends (front e i)
  pub weighs : multiplicity ≡ weight_from e.leader 0 (take i (turn_at e).fill)

front_more : (f : List (List ℕ)) (i : ℕ) → i < length f → flat_map (λ ps. ps) (take (i + 1) f) ≡ flat_map (λ ps. ps) (take i f) ++ get_or f i []
front_more f i h =
    ap (flat_map (λ ps. ps)) (take_more f i [] h)
    ∙ sym (flat_map_more (λ ps. ps) [] (take i f) (get_or f i []))

module _ (e : Edges) (i mask multiplicity : ℕ) (s : Summed e i mask multiplicity) where
  pub summed_below : mask < 2 ^ total (take i (cells_at e))
  summed_below =
      let b = ends_below (front e i) s.filled in
      let h : mask < 2 ^ total (front e i) = subst (λ m. m < 2 ^ total (front e i)) (sym s.ended) b in
      subst (λ k. mask < 2 ^ k) s.whole h

  module _ (x : SplitCell) (here : x ≡ get_or e.cells.items i x) (h : i < length e.cells.items) where
    grows : front e (i + 1) ≡ front e i ++ sizes x.split
    grows = front_more (turn_at e).fill i (omega (arith, length_fill e)) ∙ ap (λ ps. front e i ++ ps) (fill_at e i x here h)

    pub below_here : mask < 2 ^ x.start
    below_here = subst (λ k. mask < 2 ^ k) (sym (starts_at e i x here h)) summed_below

    pub summed_more : (mask' multiplicity' : ℕ) → mask' ≡ mask + 2 ^ x.start * ends (sizes x.split) → multiplicity' ≡ multiplicity * ways_at e i x → Summed e (i + 1) mask' multiplicity'
    summed_more mask' multiplicity' m k =
        let ps : List ℕ = sizes x.split in
        let split = split_at e i x here h in
        record {
          whole =
              ap total grows ∙ total_append (front e i) ps ∙ ap (λ x. x + total ps) s.whole
              ∙ ap (λ x. total (take i (cells_at e)) + x) split.whole ∙ sym (total_more (cells_at e) i (omega (arith, length_cells e)));
          filled = subst (AllByRecursion (λ p. 0 < p)) (sym grows) (All-append (λ p. 0 < p) (front e i) ps s.filled split.filled);
          ended =
              m ∙ ap (λ x. mask + 2 ^ x * ends ps) (starts_at e i x here h)
              ∙ ap (λ x. x + 2 ^ total (take i (cells_at e)) * ends ps) s.ended
              ∙ ap (λ x. ends (front e i) + 2 ^ x * ends ps) (sym s.whole)
              ∙ sym (ap ends grows ∙ ends_append (front e i) ps);
          weighs =
              k ∙ ap (λ m. m * ways_at e i x) s.weighs
              ∙ ap (λ qs. weight_from e.leader 0 (take i (turn_at e).fill) * ways (eqb i e.leader) qs) (sym (fill_at e i x here h))
              ∙ sym (weight_more e.leader (turn_at e).fill i (omega (arith, length_fill e)));
        }

-- the product of the first cells fits
pub summed_fits : (e : Edges) (i mask multiplicity : ℕ) → Summed e i mask multiplicity → i ≤ length e.cells.items → multiplicity < 2 ^ 128
summed_fits e i mask multiplicity s h =
    let f = weight_front (cells_at e) (turn_at e) i e.stands.fits (omega (arith, length_fill e)) in
    let b = weight_small e.participants.number (cells_at e) (turn_at e) e.participants.within.1 (let t = e.stands.whole.whole in omega arith) e.stands.whole.filled e.stands.fits in
    let k = s.weighs in
    omega arith

module _ (e : Edges) (i mask multiplicity : ℕ) (s : Summed e i mask multiplicity) (h : length e.cells.items ≤ i) where
  whole_fill : take i (turn_at e).fill ≡ (turn_at e).fill
  whole_fill = take_all i (turn_at e).fill (omega (arith, length_fill e))

  pub summed_weight : multiplicity ≡ weight (turn_at e)
  unfolding weight
  summed_weight = s.weighs ∙ ap (weight_from e.leader 0) whole_fill

  pub summed_next : bit_and mask (1 * 2 ^ (e.participants.number - 1) % 2 ^ 64 - 1) ≡ boundaries (after (turn_at e))
  unfolding after boundaries
  summed_next =
      let all : front e i ≡ flat_map (λ ps. ps) (turn_at e).fill = ap (flat_map (λ ps. ps)) whole_fill in
      let n : total (front e i) ≡ e.participants.number = s.whole ∙ ap total (take_all i (cells_at e) (omega (arith, length_cells e))) ∙ e.stands.whole.whole in
      let k : e.participants.number - 1 < 64 = omega (arith, e.participants.within.1) in
      ap (λ x. bit_and mask (x - 1)) (one_shl (e.participants.number - 1) 64 k)
      ∙ and_mask mask (e.participants.number - 1)
      ∙ ap (λ x. x % 2 ^ (e.participants.number - 1)) s.ended
      ∙ ap (λ x. ends (front e i) % 2 ^ (x - 1)) (sym n)
      ∙ ap (λ ps. ends ps % 2 ^ (total ps - 1)) all
