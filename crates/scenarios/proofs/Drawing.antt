-- Drawing a round: by the parts of a cell, and by the cells of a turn.
use Rattle.std.proofs.Common.{◌≡◌, ℕ, zero, suc, ◌+◌, ◌-◌, ◌*◌, ◌/◌, ◌%◌, ◌^◌, ◌<◌, ◌≤◌, Bool, true, false, cond, eqb, List, [], ◌∷◌, ◌++◌, map, length, get_or, take, drop, replicate, sym, refl, ap, ◌∙◌, subst, arith}
use Rattle.std.specs.List.{AllByRecursion}
use Rattle.std.proofs.lemmas.List.{drop_more, length-take, length-take-le, length-replicate, drop_all}
use Rattle.std.proofs.lemmas.Bool.{eq-eqb, ne_eqb}
use Rattle.std.proofs.ByRecursion.{All-get_or}
use Rattle.scenarios.specs.declared.round.RoundScenario.{RoundScenario}
use Rattle.scenarios.specs.declared.role.Role.{Role}
use Rattle.scenarios.specs.declared.refinement.LocalRefinement.{LocalRefinement}
use Rattle.scenarios.specs.declared.edge.Edges.{Edges}
use Rattle.scenarios.specs.declared.edge.SplitCell.{SplitCell}
use Rattle.scenarios.specs.Cells.{total, ranges_from}
use Rattle.scenarios.specs.Masks.{pack}
use Rattle.scenarios.specs.Letters.{in_primary, in_secondary, grown, Below, round_of}
use Rattle.scenarios.specs.Turns.{choose, subset, ways, tones, spell, weight_from, letters_from, weight, round}
use Rattle.scenarios.specs.Fits.{Split, Fills}
use Rattle.scenarios.specs.Roles.{number, letters}
use Rattle.scenarios.specs.Refinements.{sizes}
use Rattle.scenarios.specs.Edges.{cells_at, turn_at}
use Rattle.scenarios.proofs.Growing.{grown_none, grown_more, grown_below}
use Rattle.scenarios.proofs.Lettering.{Proper, proper_left, proper_right, leader_round}
use Rattle.scenarios.proofs.Choosing.{length_subset}
use Rattle.scenarios.proofs.Parting.{total_append}
use Rattle.scenarios.proofs.Moving.{total_take}
use Rattle.scenarios.proofs.Spelling.{length_spell, spell_append}
use Rattle.scenarios.proofs.Celling.{some_part, last_part, cell_lays, low_cell, proper_cell}
use Rattle.scenarios.proofs.Subsets.{choose_most}
use Rattle.scenarios.proofs.Rounding.{digit_below, fill_low}
use Rattle.scenarios.proofs.Ending.{total_more}
use Rattle.scenarios.proofs.Filling.{fills_at, cells_long, fill_long, range_of, parts_of}

-- the parts of a cell

-- parts and roles that are left complete the round drawn so far
pub record Left (whole : RoundScenario) (parts : List ℕ) (roles : List Role) (at : ℕ) (drawn : RoundScenario) : Type 0 where
  pub below : Below at drawn
  pub within : at + total parts ≤ 64
  pub enough : length parts ≤ length roles
  pub comes : grown drawn at (spell parts (letters (take (length parts) roles))) ≡ whole

pub left_more : (whole : RoundScenario) (all ps : List ℕ) (p : ℕ) (roles xs : List Role) (x : Role) (at : ℕ) (old new : RoundScenario) → all ≡ p ∷ ps → roles ≡ x ∷ xs → Left whole all roles at old
    → new ≡ grown old at (replicate p (number x)) → Left whole ps xs (at + p) new
left_more whole all ps p roles xs x at old new a r before e = record {
  below = subst (λ q. Below (at + p) q) (sym e) (grown_below old at (at + p) (replicate p (number x)) long l.below);
  within = omega (arith, l.within);
  enough = omega (arith, l.enough);
  comes = ap (λ q. grown q (at + p) rest) e ∙ grown_more old at (at + p) (replicate p (number x)) rest long ∙ l.comes;
}
  where
    rest : List ℕ
    rest = spell ps (letters (take (length ps) xs))

    long : at + length (replicate p (number x)) ≡ at + p
    long = omega (arith, length-replicate p (number x))

    l : Left whole (p ∷ ps) (x ∷ xs) at old
    l = subst (λ ys. Left whole (p ∷ ps) ys at old) r (subst (λ ys. Left whole ys roles at old) a before)

-- the next part ends within what the first k parts hold
pub part_within : (ps : List ℕ) (j k : ℕ) → j < k → k ≤ length ps → total (take j ps) + get_or ps j 0 ≤ total (take k ps)
part_within (p ∷ ps) zero (suc k) h l = omega arith
part_within (p ∷ ps) (suc j) (suc k) h l = let ih = part_within ps j k (omega arith) (omega arith) in omega arith
part_within [] j zero h l = absurd (omega arith)
part_within [] j (suc k) h l = absurd (omega arith)
part_within (p ∷ ps) zero zero h l = absurd (omega arith)
part_within (p ∷ ps) (suc j) zero h l = absurd (omega arith)

-- the leader of a cell

-- a leader's letter has the bits of its role
leader_bits : (d : ℕ) → d < 3 → (in_primary (3 - d) ≡ in_primary (7 - d)) × (in_secondary (3 - d) ≡ in_secondary (7 - d))
leader_bits zero h = (refl, refl)
leader_bits (suc zero) h = (refl, refl)
leader_bits (suc (suc zero)) h = (refl, refl)
leader_bits (suc (suc (suc d))) h = absurd (omega arith)

grown_leader : (r : RoundScenario) (at d : ℕ) → d < 3 → grown r at ((3 - d) ∷ []) ≡ grown r at ((7 - d) ∷ [])
grown_leader r at d h = λ i. record {
  leader = r.leader;
  primary = r.primary + 2 ^ at * (cond ((leader_bits d h).0 i) 1 0 + 2 * 0);
  secondary = r.secondary + 2 ^ at * (cond ((leader_bits d h).1 i) 1 0 + 2 * 0);
}

module _ (led : Bool) (c : ℕ) (ps : List ℕ) (d : ℕ) (t : led ≡ true) (split : Split led c ps) (below : d < ways led ps) where
  split' : Split true c ps
  split' = subst (λ b. Split b c ps) t split

  below' : d < ways true ps
  below' = subst (λ b. d < ways b ps) t below

  -- the parts in front of the leader
  others : List ℕ
  others = take (length ps - 1) ps

  fewer : length others ≡ length ps - 1
  unfolding others
  fewer = length-take-le (length ps - 1) ps (omega arith)

  pub led_some : 0 < length ps
  led_some = some_part c ps split'

  pub led_choice : d / 3 < choose (length (take (length ps - 1) ps))
  unfolding others
  led_choice = rw fewer (omega (arith, below'))

  led_even : length others ≡ length (subset (length others) (d / 3))
  unfolding others
  led_even = sym (length_subset (length others) (d / 3) led_choice)

  led_parts : ps ≡ others ++ (1 ∷ [])
  unfolding others
  led_parts = last_part ps led_some (split'.alone refl)

  -- the leader stands behind the other parts
  pub led_total : total (take (length ps - 1) ps) + 1 ≡ c
  unfolding others
  led_total = omega (arith, ap total led_parts, total_append others (1 ∷ []), split'.whole)

  led_long : length (spell others (subset (length others) (d / 3))) ≡ c - 1
  unfolding others
  led_long = omega (arith, length_spell others (subset (length others) (d / 3)) led_even, led_total)

  led_word : spell ps (tones true ps d) ≡ spell others (subset (length others) (d / 3)) ++ ((7 - d % 3) ∷ [])
  led_word =
      ap (λ k. spell ps (subset k (d / 3) ++ ((7 - d % 3) ∷ []))) (sym fewer)
      ∙ ap (λ q. spell q (subset (length others) (d / 3) ++ ((7 - d % 3) ∷ []))) led_parts
      ∙ spell_append others (1 ∷ []) (subset (length others) (d / 3)) ((7 - d % 3) ∷ []) led_even

  module _ (r old : RoundScenario) (start : ℕ) (roles : List ℕ) (chosen : roles ≡ subset (length (take (length ps - 1) ps)) (d / 3)) (is : old ≡ grown r start (spell (take (length ps - 1) ps) roles)) where
    old_is : old ≡ grown r start (spell others (subset (length others) (d / 3)))
    unfolding others
    old_is = is ∙ ap (λ xs. grown r start (spell others xs)) chosen

    pub led_below : Below start r → Below (start + c - 1) old
    led_below b = subst (λ q. Below (start + c - 1) q) (sym old_is) (grown_below r start (start + c - 1) _ (omega (arith, led_long, led_total)) b)

    pub led_drawn : (new : RoundScenario) (x : ℕ) → x ≡ 3 - d % 3 → new ≡ grown old (start + c - 1) (replicate 1 x) → new ≡ grown r start (spell ps (tones led ps d))
    led_drawn new x xd e =
        e
        ∙ ap (λ q. grown q (start + c - 1) (x ∷ [])) old_is
        ∙ ap (λ y. grown (grown r start word) (start + c - 1) (y ∷ [])) xd
        ∙ grown_leader (grown r start word) (start + c - 1) (d % 3) (omega arith)
        ∙ grown_more r start (start + c - 1) word ((7 - d % 3) ∷ []) (omega (arith, led_long, led_total))
        ∙ ap (grown r start) (sym led_word)
        ∙ ap (λ b. grown r start (spell ps (tones b ps d))) (sym t)
      where
        word : List ℕ
        word = spell others (subset (length others) (d / 3))

-- the cells of a turn

-- the participant at which the leader's cell ends
abbrev pub leads_at : Edges → ℕ
leads_at e = total (take e.leader (cells_at e)) + get_or (cells_at e) e.leader 0 - 1

abbrev pub blank : ℕ → RoundScenario
blank k = record { leader = k; primary = 0; secondary = 0 }

-- the round drawn so far has the first i cells, and what comes completes it
pub record Coming (e : Edges) (rank i left : ℕ) (drawn : RoundScenario) : Type 0 where
  pub below : Below (total (take i (cells_at e))) drawn
  pub fewer : left < weight_from e.leader i (drop i (turn_at e).fill)
  pub comes : grown drawn (total (take i (cells_at e))) (letters_from e.leader i (drop i (turn_at e).fill) left)
      ≡ grown (blank (leads_at e)) 0 (letters_from e.leader 0 (turn_at e).fill rank)

pub ranges_at : (start : ℕ) (cs : List ℕ) (i : ℕ) → i < length cs → get_or (ranges_from start cs) i (0, 0) ≡ (start + total (take i cs), get_or cs i 0)
ranges_at start [] i h = absurd (omega arith)
ranges_at start (c ∷ cs) zero h = ap (λ s. (s, c)) (let e : start ≡ start + 0 = omega arith in e)
ranges_at start (c ∷ cs) (suc i) h = ranges_at (start + c) cs i (omega arith) ∙ ap (λ s. (s, get_or cs i 0)) (let e : start + c + total (take i cs) ≡ start + (c + total (take i cs)) = omega arith in e)

-- the leader is the last member of its cell
pub fill_leader : (l i : ℕ) (cs : List ℕ) (f : List (List ℕ)) (d j : ℕ) → Fills l i cs f → AllByRecursion (λ c. 0 < c) cs → l ≡ i + j → j < length cs → d < weight_from l i f
    → Proper (total (take j cs) + get_or cs j 0 - 1) (letters_from l i f d)
fill_leader l i [] f d j s a e b h = absurd (omega arith)
fill_leader l i (c ∷ cs) [] d j s a e b h = absurd s
fill_leader l i (c ∷ cs) (ps ∷ f) d zero s a e b h =
    let q : i ≡ l = omega arith in
    let w = ways (eqb i l) ps in
    let k = digit_below d w (weight_from l (i + 1) f) h in
    let place : c - 1 ≡ 0 + c - 1 = omega arith in
    subst (λ m. Proper m (letters_from l i (ps ∷ f) d)) place
    (proper_left (c - 1) _ _ (proper_cell (eqb i l) c ps (d % w) (eq-eqb i l q) s.0 k.0) (fill_low l (i + 1) f (d / w) (omega arith)))
fill_leader l i (c ∷ cs) (ps ∷ f) d (suc j) s a e b h =
    let w = ways (eqb i l) ps in
    let k = digit_below d w (weight_from l (i + 1) f) h in
    let ih = fill_leader l (i + 1) cs f (d / w) j s.1 a.1 (omega arith) (omega arith) k.1 in
    let long = (cell_lays (eqb i l) c ps (d % w) s.0 k.0).long in
    let some = All-get_or (λ x. 0 < x) cs j 0 (omega arith) a.1 in
    let place : length (spell ps (tones (eqb i l) ps (d % w))) + (total (take j cs) + get_or cs j 0 - 1) ≡ c + total (take j cs) + get_or cs j 0 - 1 = omega arith in
    subst (λ m. Proper m (letters_from l i (ps ∷ f) d)) place (proper_right _ _ _ (low_cell (eqb i l) ps (d % w) (ne_eqb i l (λ q. omega arith))) ih)

pub grown_whole : (k : ℕ) (ls : List ℕ) → Proper k ls → grown (blank k) 0 ls ≡ round_of ls
unfolding round_of
grown_whole k ls p = λ i. record { leader = sym (leader_round k ls p) i; primary = plain (pack (map in_primary ls)) i; secondary = plain (pack (map in_secondary ls)) i }
  where
    plain : (m : ℕ) → 0 + 1 * m ≡ m
    plain m = omega arith

pub some_refined : (led : Bool) (c : ℕ) (r : LocalRefinement) → Split led c (sizes r) → led ≡ true → 0 < r.len
some_refined led c r s t =
    let k = some_part c (sizes r) (subst (λ b. Split b c (sizes r)) t s) in
    let l = length-take r.len r.parts in
    omega arith

-- how many ways there are for a cell at the place i
abbrev pub ways_at : Edges → ℕ → SplitCell → ℕ
ways_at e i x = ways (eqb i e.leader) (sizes x.split)

module _ (e : Edges) where
  pub length_cells : length (cells_at e) ≡ length e.cells.items
  length_cells = cells_long e.cells.items

  pub length_fill : length (turn_at e).fill ≡ length e.cells.items
  length_fill = fill_long e.cells.items

  pub leader_within : e.leader < length e.cells.items
  leader_within = omega (arith, e.stands.fits.leads, length_cells)

  module _ (i : ℕ) (x : SplitCell) (here : x ≡ get_or e.cells.items i x) (h : i < length e.cells.items) where
    pub range_at : ◌≡◌ {A = ℕ × ℕ} (x.start, x.size) (total (take i (cells_at e)), get_or (cells_at e) i 0)
    range_at =
        ap {B = ℕ × ℕ} (λ c. (c.start, c.size)) here
        ∙ sym (range_of e.cells.items i x h (0, 0))
        ∙ ap (λ rs. get_or rs i (0, 0)) e.stands.ranged
        ∙ ranges_at 0 (cells_at e) i (omega (arith, length_cells))
        ∙ ap (λ s. (s, get_or (cells_at e) i 0)) (let z : 0 + total (take i (cells_at e)) ≡ total (take i (cells_at e)) = omega arith in z)

    pub starts_at : x.start ≡ total (take i (cells_at e))
    starts_at = ap (λ (r : ℕ × ℕ). r.0) range_at

    pub sized_at : x.size ≡ get_or (cells_at e) i 0
    sized_at = ap (λ (r : ℕ × ℕ). r.1) range_at

    pub range_within : (1 ≤ x.start + x.size) × (x.start + x.size ≤ 64)
    range_within =
        let some = All-get_or (λ x. 0 < x) (cells_at e) i 0 (omega (arith, length_cells)) e.stands.whole.filled in
        let most = part_within (cells_at e) i (length e.cells.items) h (omega (arith, length_cells)) in
        let all = total_take (length e.cells.items) (cells_at e) in
        rw (starts_at, sized_at) (omega arith, omega (arith, e.stands.whole.whole, e.participants.within.1))

    pub fill_at : get_or (turn_at e).fill i [] ≡ sizes x.split
    fill_at = parts_of e.cells.items i x h ∙ ap (λ c. sizes c.split) (sym here)

    pub split_at : Split (eqb i e.leader) (get_or (cells_at e) i 0) (sizes x.split)
    split_at = subst (Split (eqb i e.leader) (get_or (cells_at e) i 0)) fill_at (subst (λ j. Split (eqb j e.leader) (get_or (cells_at e) i 0) (get_or (turn_at e).fill i [])) (let z : 0 + i ≡ i = omega arith in z) (fills_at e.leader 0 i (cells_at e) (turn_at e).fill e.stands.fits.split (omega (arith, length_cells))))

    pub split_here : Split (eqb i e.leader) x.size (sizes x.split)
    split_here = subst (λ c. Split (eqb i e.leader) c (sizes x.split)) (sym sized_at) split_at

    drop_fill : drop i (turn_at e).fill ≡ sizes x.split ∷ drop (i + 1) (turn_at e).fill
    drop_fill = drop_more (turn_at e).fill i [] (omega (arith, length_fill)) ∙ ap (λ ps. ps ∷ drop (i + 1) (turn_at e).fill) fill_at

    module _ (rank left : ℕ) (drawn : RoundScenario) (k : Coming e rank i left drawn) where
      digit : (left % ways_at e i x < ways_at e i x) × (left / ways_at e i x < weight_from e.leader (i + 1) (drop (i + 1) (turn_at e).fill))
      digit = digit_below left (ways_at e i x) _ (subst (λ f. left < weight_from e.leader i f) drop_fill k.fewer)

      pub digit_of : (space : ℕ) → space ≡ ways_at e i x → left % space < ways_at e i x
      digit_of space q = subst (λ s. left % s < ways_at e i x) (sym q) digit.0

      pub below_here : Below x.start drawn
      below_here = subst (λ s. Below s drawn) (sym starts_at) k.below

      pub coming_more : (new : RoundScenario) (space : ℕ) → space ≡ ways_at e i x
          → new ≡ grown drawn x.start (spell (sizes x.split) (tones (eqb i e.leader) (sizes x.split) (left % space)))
          → Coming e rank (i + 1) (left / space) new
      coming_more new space q n = subst (λ s. Coming e rank (i + 1) (left / s) new) (sym q) (record {
        below = subst (λ r. Below next r) (sym is) (grown_below drawn at next word long k.below);
        fewer = digit.1;
        comes =
            ap (λ r. grown r next rest) is
            ∙ grown_more drawn at next word rest long
            ∙ ap (λ f. grown drawn at (letters_from e.leader i f left)) (sym drop_fill)
            ∙ k.comes;
      })
        where
          ps : List ℕ
          ps = sizes x.split

          at : ℕ
          at = total (take i (cells_at e))

          next : ℕ
          next = total (take (i + 1) (cells_at e))

          word : List ℕ
          word = spell ps (tones (eqb i e.leader) ps (left % ways_at e i x))

          rest : List ℕ
          rest = letters_from e.leader (i + 1) (drop (i + 1) (turn_at e).fill) (left / ways_at e i x)

          long : at + length word ≡ next
          long = omega (arith, total_more (cells_at e) i (omega (arith, length_cells)), (cell_lays (eqb i e.leader) (get_or (cells_at e) i 0) ps (left % ways_at e i x) split_at digit.0).long)

          is : new ≡ grown drawn at word
          is =
              n
              ∙ ap (λ x. grown drawn x (spell ps (tones (eqb i e.leader) ps (left % space)))) starts_at
              ∙ ap (λ s. grown drawn at (spell ps (tones (eqb i e.leader) ps (left % s)))) q

  module _ (rank : ℕ) (h : rank < weight (turn_at e)) where
    pub coming_first : (x : SplitCell) → x ≡ get_or e.cells.items e.leader x → Coming e rank 0 rank (blank (x.start + x.size - 1))
    unfolding weight
    coming_first x here = rw (starts_at e.leader x here leader_within, sized_at e.leader x here leader_within)
        (record { below = record { primary_below = omega arith; secondary_below = omega arith }; fewer = h; comes = refl })

    pub coming_all : (i left : ℕ) (drawn : RoundScenario) → length e.cells.items ≤ i → Coming e rank i left drawn → drawn ≡ round (turn_at e) rank
    unfolding weight round
    coming_all i left drawn l k =
        sym (grown_none drawn (total (take i (cells_at e))))
        ∙ ap (λ f. grown drawn (total (take i (cells_at e))) (letters_from e.leader i f left)) (sym (drop_all i (turn_at e).fill (omega (arith, length_fill))))
        ∙ k.comes
        ∙ grown_whole (leads_at e) _ (fill_leader e.leader 0 (cells_at e) (turn_at e).fill rank e.leader e.stands.fits.split e.stands.whole.filled (omega arith) e.stands.fits.leads h)

-- and these are few
pub ways_small : (e : Edges) (i : ℕ) (x : SplitCell) → ways_at e i x ≤ 18
ways_small e i x = go (eqb i e.leader)
  where
    go : (b : Bool) → ways b (sizes x.split) ≤ 18
    go true = let h = choose_most (length (sizes x.split) - 1) in omega arith
    go false = let h = choose_most (length (sizes x.split) - 0) in omega arith
