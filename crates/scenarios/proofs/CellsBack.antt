-- A cell read back: its split and the number of its letters, from the parts and the choice of roles. Assumes nothing.
use Rattle.std.proofs.Common.{◌≡◌, ℕ, zero, suc, ◌+◌, ◌-◌, ◌*◌, ◌/◌, ◌%◌, ◌<◌, ◌≤◌, Bool, true, false, ◌⊎◌, List, [], ◌∷◌, ◌++◌, length, take, set, sym, refl, ap, ◌∙◌, subst, inl, inr, arith}
use Rattle.std.proofs.lemmas.Bool.{true≢false, false≢true}
use Rattle.std.proofs.lemmas.List.{length_push, length-take-le, take_more_set, get_or_push}
use Rattle.std.proofs.ByRecursion.{All-append}
use Rattle.std.proofs.lemmas.List.FromFn.{length-map-range_with_len, map-range_with_len_more}
use Rattle.scenarios.specs.declared.round.RoundScenario.{RoundScenario}
use Rattle.scenarios.specs.declared.read.Reading.{Reading}
use Rattle.scenarios.specs.Letters.{role, letter}
use Rattle.scenarios.specs.Turns.{roles_in, subset, spell, free, tones}
use Rattle.scenarios.specs.Cells.{total}
use Rattle.scenarios.specs.Readings.{roles_along, letters_along, Reads, RanksChoice, Placed, SpellsCell}
use Rattle.scenarios.proofs.Lettering.{letter_is, small}
use Rattle.scenarios.proofs.Subsets.{choose_most}
use Rattle.scenarios.proofs.Parting.{total_append}
use Rattle.scenarios.proofs.Spelling.{length_spell, spell_append}

further : (l start len : ℕ) → (l < start) ⊎ (start + suc len ≤ l) → (l < start + 1) ⊎ (start + 1 + len ≤ l)
further l start len (inl h) = inl (omega arith)
further l start len (inr h) = inr (omega arith)

-- letters are roles where nobody leads
pub letters_follow : (r : RoundScenario) (start len : ℕ) → (r.leader < start) ⊎ (start + len ≤ r.leader) → letters_along r start len ≡ roles_along r start len
letters_follow r start zero h = refl
letters_follow r start (suc len) h =
    let here : letter r start ≡ role r start = let a = letter_is r start in omega arith in
    let rest = letters_follow r (start + 1) len (further r.leader start len h) in
    cc

module _ (r : RoundScenario) (start size : ℕ) (x : Reading) (d : ℕ) (long : length x.parts ≡ 5) (rank : RanksChoice x.roles d) where
  measured : x.len ≤ 4 → length (take x.len x.parts) ≡ x.len
  measured h = length-take-le x.len x.parts (omega arith)

  pub cell_follows : (few : x.len ≤ 5) → Reads x (roles_along r start size) → Placed false start size r.leader → SpellsCell false size (letters_along r start size) (record { parts = x.parts; len = x.len; few = few }) d
  cell_follows few reads apart = record {
    split = record { filled = reads.filled; whole = whole; few = omega (arith, n, reads.few); alone = λ e. absurd (false≢true e) };
    below = rw (n, ← reads.even) (omega (arith, rank.0));
    word = ap (λ k. spell (take x.len x.parts) (subset k d)) (n ∙ sym reads.even) ∙ ap (spell (take x.len x.parts)) rank.1 ∙ reads.spells ∙ sym (letters_follow r start size apart);
  }
    where
      n : free false (take x.len x.parts) ≡ x.len
      n = omega (arith, measured reads.few)

      whole : total (take x.len x.parts) ≡ size
      whole = sym (length_spell (take x.len x.parts) (roles_in x.roles) (measured reads.few ∙ sym reads.even)) ∙ ap length reads.spells ∙ length-map-range_with_len (role r) start size

  pub cell_leads : (few : x.len + 1 ≤ 5) (h : ℕ) → 0 < size → Reads x (roles_along r start (size - 1)) → Placed true start size r.leader → h ≡ role r r.leader → (h ≡ 0 → ⊥)
      → SpellsCell true size (letters_along r start size) (record { parts = set x.parts x.len 1; len = x.len + 1; few = few }) (d * 3 + (3 - h))
  cell_leads few h some reads placed heard loud = record {
    split = record { filled = rw front (All-append (λ p. 0 < p) ps (1 ∷ []) reads.filled (omega arith, tt)); whole = rw front whole; few = rw front (omega (arith, n, reads.few)); alone = λ e. rw front (get_or_push ps 1 0 (length (ps ++ (1 ∷ [])) - 1) (omega (arith, length_push ps 1))) };
    below = rw (front, n, ← reads.even) (omega (arith, rank.0, loud));
    word = rw front word;
  }
    where
      ps : List ℕ
      ps = take x.len x.parts

      even : length ps ≡ length (roles_in x.roles)
      even = measured reads.few ∙ sym reads.even

      front : take (x.len + 1) (set x.parts x.len 1) ≡ ps ++ (1 ∷ [])
      front = take_more_set x.parts x.len 1 (omega (arith, reads.few))

      n : free true (ps ++ (1 ∷ [])) ≡ x.len
      n = omega (arith, length_push ps 1, measured reads.few)

      whole : total (ps ++ (1 ∷ [])) ≡ size
      whole = omega (arith, total_append ps (1 ∷ []), length_spell ps (roles_in x.roles) even, ap length reads.spells, length-map-range_with_len (role r) start (size - 1))

      last : letter r r.leader ≡ h + 4
      last = let a = letter_is r r.leader in omega arith

      end : start + (size - 1) ≡ r.leader
      end = omega arith

      letters : letters_along r start size ≡ roles_along r start (size - 1) ++ ((h + 4) ∷ [])
      letters =
          let k : size ≡ size - 1 + 1 = omega arith in
          let f = letters_follow r start (size - 1) (inr (omega arith)) in
          ap (letters_along r start) k ∙ map-range_with_len_more (letter r) start (size - 1) r.leader end ∙ cc (f, last)

      below4 : h < 4
      below4 = omega (arith, small r 0 r.leader, heard)

      tones_are : tones true (ps ++ (1 ∷ [])) (d * 3 + (3 - h)) ≡ roles_in x.roles ++ ((h + 4) ∷ [])
      tones_are =
          let b = below4 in
          let high : (d * 3 + (3 - h)) / 3 ≡ d = omega (arith, loud) in
          let low : 7 - (d * 3 + (3 - h)) % 3 ≡ h + 4 = omega (arith, loud) in
          let m : free true (ps ++ (1 ∷ [])) ≡ length (roles_in x.roles) = n ∙ sym reads.even in
          rw (m, high, low, rank.1)

      word : spell (ps ++ (1 ∷ [])) (tones true (ps ++ (1 ∷ [])) (d * 3 + (3 - h))) ≡ letters_along r start size
      word =
          ap (spell (ps ++ (1 ∷ []))) tones_are
          ∙ spell_append ps (1 ∷ []) (roles_in x.roles) ((h + 4) ∷ []) even
          ∙ ap (λ w. w ++ ((h + 4) ∷ [])) reads.spells
          ∙ sym letters

-- how large the number of a cell's letters is

pub rank_small : (m d : ℕ) → RanksChoice m d → d < 6
rank_small m d h = omega (arith, h.0, choose_most (length (roles_in m)))

-- the same for a cell whose leader is said by a test

pub cell_follows_at : (led : Bool) (r : RoundScenario) (start size : ℕ) (x : Reading) (d : ℕ) → led ≡ false → Placed led start size r.leader → length x.parts ≡ 5 → (few : x.len ≤ 5) → Reads x (roles_along r start size) → RanksChoice x.roles d
    → SpellsCell led size (letters_along r start size) (record { parts = x.parts; len = x.len; few = few }) d
cell_follows_at true r start size x d e placed long few reads rank = absurd (true≢false e)
cell_follows_at false r start size x d e placed long few reads rank = cell_follows r start size x d long rank few reads placed

pub cell_leads_at : (led : Bool) (r : RoundScenario) (start size : ℕ) (x : Reading) (d h k : ℕ) → led ≡ true → Placed led start size r.leader → 0 < size → length x.parts ≡ 5 → (few : x.len + 1 ≤ 5) → Reads x (roles_along r start (size - 1)) → RanksChoice x.roles d
    → h ≡ role r r.leader → (h ≡ 0 → ⊥) → k ≡ 3 - h
    → SpellsCell led size (letters_along r start size) (record { parts = set x.parts x.len 1; len = x.len + 1; few = few }) (d * 3 + k)
cell_leads_at false r start size x d h k e placed some long few reads rank heard loud q = absurd (false≢true e)
cell_leads_at true r start size x d h k e placed some long few reads rank heard loud q =
    subst (λ j. SpellsCell true size (letters_along r start size) (record { parts = set x.parts x.len 1; len = x.len + 1; few = few }) (d * 3 + j)) (sym q) (cell_leads r start size x d long rank few h some reads placed heard loud)
