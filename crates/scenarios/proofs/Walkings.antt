-- The walk over the edges of a state: what holds at its start and after each step.
use Rattle.std.proofs.Common.{◌≡◌, ℕ, suc, ◌+◌, ◌-◌, ◌<◌, ◌≤◌, Bool, true, false, ltb, List, [], ◌∷◌, ◌++◌, map, length, get_or, take, Some, None, Option, sym, refl, ap, ◌∙◌, subst, arith}
use Rattle.std.specs.List.{AllByRecursion, range_with_len, refill}
use Rattle.std.proofs.lemmas.List.{append-nil, drop_all, take_all, length-map, get_or-map}
use Rattle.std.proofs.lemmas.Bool.{lt-ltb, cond-true}
use Rattle.scenarios.specs.declared.participants.Participants.{Participants}
use Rattle.scenarios.specs.declared.edge.SplitCell.{SplitCell}
use Rattle.scenarios.specs.declared.edge.Edges.{Edges}
use Rattle.scenarios.specs.Masks.{bit}
use Rattle.scenarios.specs.Cells.{total, cut, cells, CellsOf, ranges_from}
use Rattle.scenarios.specs.Turns.{Turn}
use Rattle.scenarios.specs.Fits.{Fits}
use Rattle.scenarios.specs.Steps.{first_fill, next_fill, first_turn, next_turn}
use Rattle.scenarios.specs.Edges.{fill_in, sizes_of, ranges_in, sizes_in, cells_at, turn_at, Stands, Moved}
use Rattle.scenarios.proofs.Composing.{through}
use Rattle.scenarios.proofs.Walks.{turn, turn_from, next_turn_is, next_fits, first_fits, first_fits_led}
use Rattle.std.proofs.ByRecursion.{All-get_or}
use Rattle.scenarios.proofs.States.{cells_stand}
use Rattle.scenarios.proofs.Filling.{ranges_long, cells_long}

pub sizes_ranges : (start : ℕ) (cs : List ℕ) → map (λ r. r.1) (ranges_from start cs) ≡ cs
sizes_ranges start [] = refl
sizes_ranges start (c ∷ cs) = ap (λ l. c ∷ l) (sizes_ranges (start + c) cs)

pub length_ranges : (start : ℕ) (cs : List ℕ) → length (ranges_from start cs) ≡ length cs
length_ranges start [] = refl
length_ranges start (c ∷ cs) = ap suc (length_ranges (start + c) cs)

pub small_cells : (m : ℕ) (cs : List ℕ) → AllByRecursion (λ c. 0 < c) cs → total cs ≤ m → AllByRecursion (λ c. (0 < c) × (c ≤ m)) cs
small_cells m [] h b = tt
small_cells m (c ∷ cs) h b = ((h.0, omega arith), small_cells m cs h.1 (omega arith))

cut_some : (k : ℕ) (bs : List Bool) → 1 ≤ length (cut k bs)
cut_some k [] = omega arith
cut_some k (true ∷ bs) = omega arith
cut_some k (false ∷ bs) = cut_some (k + 1) bs

pub cells_some : (n s : ℕ) → 1 ≤ length (cells n s)
unfolding cells
cells_some n s = cut_some 1 (map (bit s) (range_with_len 0 (n - 1)))

-- the start

pub walk_small_cells : (n s : ℕ) → 0 < n → n ≤ 64 → AllByRecursion (λ c. (0 < c) × (c ≤ 64)) (cells n s)
walk_small_cells n s h b = let w = cells_stand n s h in small_cells 64 (cells n s) w.filled (omega (arith, w.whole))

module _ (p : Participants) (s : ℕ) (ranges : List (ℕ × ℕ)) (cs : List SplitCell) (listed : ranges ≡ ranges_from 0 (cells p.number s))
    (put : (fill_in cs ≡ first_fill 0 0 (sizes_of ranges)) × (ranges_in cs ≡ ranges)) where
  pub begins_at : sizes_in cs ≡ cells p.number s
  begins_at = ap sizes_of (put.1 ∙ listed) ∙ sizes_ranges 0 (cells p.number s)

  begins_first : ◌≡◌ {A = Turn} (turn 0 (fill_in cs)) (first_turn (sizes_in cs))
  begins_first = ap (turn 0) (put.0 ∙ ap (λ rs. first_fill 0 0 (sizes_of rs)) (sym put.1))

  pub begins_turn : ◌≡◌ {A = Turn} (turn 0 (fill_in cs)) (first_turn (cells p.number s))
  begins_turn = begins_first ∙ ap first_turn begins_at

  pub begins_stands : Stands p.number cs 0
  begins_stands =
      let w : CellsOf p.number (sizes_in cs) = subst (CellsOf p.number) (sym begins_at) (cells_stand p.number s p.within.0) in
      let some : 1 ≤ length (sizes_in cs) = omega (arith, ap length begins_at, cells_some p.number s) in
      record {
        some = omega (arith, cells_long cs);
        ranged = put.1 ∙ listed ∙ ap (ranges_from 0) (sym begins_at);
        whole = w;
        fits = subst (Fits (sizes_in cs)) (sym begins_first) (first_fits p.number (sizes_in cs) w some);
      }

pub range_small : (n s : ℕ) (rs : List (ℕ × ℕ)) (i : ℕ) → 0 < n → n ≤ 64 → rs ≡ ranges_from 0 (cells n s) → i < length rs → 0 < (get_or rs i (0, 0)).1
range_small n s rs i h b e k =
    let at : sizes_of rs ≡ cells n s = ap sizes_of e ∙ sizes_ranges 0 (cells n s) in
    let all = subst (AllByRecursion (λ c. (0 < c) × (c ≤ 64))) (sym at) (walk_small_cells n s h b) in
    subst (λ c. 0 < c) (get_or-map (λ r. r.1) rs i (0, 0) 0 k) (All-get_or (λ c. (0 < c) × (c ≤ 64)) (sizes_of rs) i 0 (omega (arith, length-map rs (λ r. r.1))) all).0

-- what a slice that was lent whole leaves
pub refilled : {X : Type 0} (xs ws : List X) → length ws ≡ length xs → refill (length xs) xs ws ≡ ws
refilled xs ws e =
    ap (λ rest. take (length xs) (ws ++ rest)) (drop_all (length ws) xs (omega arith)) ∙ ap (take (length xs)) (append-nil ws) ∙ take_all (length xs) ws (omega arith)

-- a step

stepped : (cs : List ℕ) (l : ℕ) (f : List (List ℕ)) (o : Option (List (List ℕ))) → next_fill l 0 cs f ≡ o → next_turn cs (turn l f) ≡ through (turn l) (turn_from cs (l + 1)) o
stepped cs l f o e = next_turn_is cs l f ∙ ap (through (turn l) (turn_from cs (l + 1))) e

module _ (e : Edges) where
  pub walk_small : AllByRecursion (λ c. (0 < c) × (c ≤ 64)) (cells_at e)
  walk_small = small_cells 64 (cells_at e) e.stands.whole.filled (let t = e.stands.whole.whole in let b = e.participants.within.1 in omega arith)

  long_cells : length (cells_at e) ≡ length e.cells.items
  long_cells = cells_long e.cells.items

  module _ (cs : List SplitCell) (placed : ranges_in cs ≡ ranges_in e.cells.items) where
    pub same_cells : sizes_in cs ≡ cells_at e
    same_cells = ap sizes_of placed

    -- where only the splits change, what holds of the cells still holds
    pub walk_stands : (l : ℕ) → Fits (cells_at e) (turn l (fill_in cs)) → Stands e.participants.number cs l
    walk_stands l f = record {
      some = omega (arith, ap length placed, ranges_long cs, ranges_long e.cells.items, e.stands.some);
      ranged = placed ∙ e.stands.ranged ∙ ap (ranges_from 0) (sym same_cells);
      whole = subst (CellsOf e.participants.number) (sym same_cells) e.stands.whole;
      fits = subst (λ xs. Fits xs (turn l (fill_in cs))) (sym same_cells) f;
    }

    stands_next : (l : ℕ) → next_turn (cells_at e) (turn_at e) ≡ Some (turn l (fill_in cs)) → Stands e.participants.number cs l
    stands_next l n = walk_stands l (next_fits e.participants.number (cells_at e) (turn_at e) (turn l (fill_in cs)) e.stands.whole e.stands.fits n)

    -- all cells are back at their first splits, with the same leader
    stands_again : fill_in cs ≡ first_fill e.leader 0 (cells_at e) → Stands e.participants.number cs e.leader
    stands_again b = walk_stands e.leader (subst (λ f. Fits (cells_at e) (turn e.leader f)) (sym b) (first_fits_led e.participants.number (cells_at e) e.leader e.stands.whole e.stands.fits.leads))

-- what a step leaves of the cells, which are xs as the code holds them
pub record StepLeaves (e : Edges) (xs : List SplitCell) (l : ℕ) : Type 0 where
  pub placed : ranges_in xs ≡ ranges_in e.cells.items
  pub next : next_turn (cells_at e) (turn_at e) ≡ Some (turn l (fill_in xs))

pub left_stands : (e : Edges) (xs : List SplitCell) (l : ℕ) → StepLeaves e xs l → Stands e.participants.number xs l
left_stands e xs l s = stands_next e xs s.placed l s.next

pub left_moves : (e f : Edges) → f.participants.number ≡ e.participants.number → StepLeaves e f.cells.items f.leader → Moved e f
left_moves e f p s = record { of = p; at = same_cells e f.cells.items s.placed; next = s.next }

-- the cells are lent, and now stand as the step to the next splits leaves them
module _ (e : Edges) (lent now : List SplitCell) (value : lent ≡ e.cells.items) (even : length now ≡ length lent) (placed : ranges_in now ≡ ranges_in lent) where
  held : List SplitCell
  held = refill (length e.cells.items) e.cells.items now

  held_is : held ≡ now
  unfolding held
  held_is = refilled e.cells.items now (even ∙ ap length value)

  places : ranges_in now ≡ ranges_in e.cells.items
  places = placed ∙ ap ranges_in value

  pub left_on : next_fill e.leader 0 (sizes_in lent) (fill_in lent) ≡ Some (fill_in now) → StepLeaves e (refill (length e.cells.items) e.cells.items now) e.leader
  unfolding held
  left_on n = subst (λ xs. StepLeaves e xs e.leader) (sym held_is) (record {
    placed = places;
    next = stepped (cells_at e) e.leader (fill_in e.cells.items) _ (ap (λ xs. next_fill e.leader 0 (sizes_in xs) (fill_in xs)) (sym value) ∙ n);
  })

  pub left_again : fill_in now ≡ first_fill e.leader 0 (sizes_in lent) → Stands e.participants.number (refill (length e.cells.items) e.cells.items now) e.leader
  unfolding held
  left_again b = subst (λ xs. Stands e.participants.number xs e.leader) (sym held_is) (stands_again e now places (b ∙ ap (λ xs. first_fill e.leader 0 (sizes_in xs)) value))

  -- they are lent again
  module _ (again : List SplitCell) (value' : again ≡ refill (length e.cells.items) e.cells.items now) where
    again_placed : ranges_in again ≡ ranges_in e.cells.items
    unfolding held
    again_placed = ap ranges_in (value' ∙ held_is) ∙ places

    pub again_small : AllByRecursion (λ c. (0 < c) × (c ≤ 64)) (sizes_in again)
    again_small = subst (λ rs. AllByRecursion (λ c. (0 < c) × (c ≤ 64)) (sizes_of rs)) (sym again_placed) (walk_small e)

    pub left_over : (xs last : List SplitCell) → xs ≡ refill (length e.cells.items) e.cells.items now → length last ≡ length again → ranges_in last ≡ ranges_in again
        → next_fill e.leader 0 (sizes_in lent) (fill_in lent) ≡ None → e.leader + 1 < length xs → fill_in last ≡ first_fill (e.leader + 1) 0 (sizes_in again)
        → StepLeaves e (refill (length xs) xs last) (e.leader + 1)
    unfolding held
    left_over xs last is even' placed' n h b =
        let l : e.leader + 1 < length (cells_at e) = omega (arith, ap length is, ap length held_is, even, ap length value, long_cells e) in
        subst (λ ys. StepLeaves e ys (e.leader + 1)) (sym (refilled xs last (even' ∙ ap length value' ∙ ap length (sym is)))) (record {
          placed = placed' ∙ again_placed;
          next =
              stepped (cells_at e) e.leader (fill_in e.cells.items) None (ap (λ ys. next_fill e.leader 0 (sizes_in ys) (fill_in ys)) (sym value) ∙ n)
              ∙ cond-true (ltb (e.leader + 1) (length (cells_at e))) _ _ (lt-ltb (e.leader + 1) (length (cells_at e)) l)
              ∙ ap (λ f. Some (turn (e.leader + 1) f)) (sym (b ∙ ap (λ rs. first_fill (e.leader + 1) 0 (sizes_of rs)) again_placed));
        })
