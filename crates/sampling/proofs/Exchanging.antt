-- The turns of the shuffle.
use Rattle.std.proofs.Common.{◌≡◌, ℕ, suc, ◌+◌, ◌-◌, ◌<◌, ◌≤◌, List, [], ◌∷◌, ◌++◌, length, Some, None, Err, sym, refl, ap, ◌∙◌, subst, arith}
use Rattle.std.specs.List.{swap}
use Rattle.std.specs.List.Sorted.{IsPermutation}
use Rattle.std.proofs.lemmas.List.{length-append}
use Rattle.std.proofs.lemmas.List.Sorted.{IsPermutation-refl, IsPermutation-trans}
use Rattle.words.specs.Words.{Words}
use Rattle.refusals.specs.declared.Refusal.{Refusal}
use Rattle.words.specs.Draws.{draw, draws, Drawn}
use Rattle.words.proofs.Drawing.{After, after_more, after_all, after_spent}
use Rattle.sampling.specs.Shuffles.{down_from, exchanges, Exchanged, ShuffleTold}

exchanges_push : {X : Type 0} (xs : List X) (i j : ℕ) (js : List ℕ) → exchanges xs i (js ++ (j ∷ [])) ≡ swap (exchanges xs i js) (i - length js) j
exchanges_push xs i j [] = ap (λ k. swap xs k j) (let e : i ≡ i - 0 = omega arith in e)
exchanges_push xs i j (k ∷ js) = exchanges_push (swap xs i k) (i - 1) j js ∙ ap (λ q. swap (exchanges xs i (k ∷ js)) q j) (let e : i - 1 - length js ≡ i - suc (length js) = omega arith in e)

-- the positions from end on are exchanged, those below it are to come
pub record PartShuffled {X : Type 0} (xs : List X) (w : Words) (end : ℕ) (w' : Words) (ys : List X) : Type 0 where
  pub numbers : List ℕ
  pub drawn : After (down_from (length xs - 1)) w numbers (down_from (end - 1)) w'
  pub place : end - 1 + length numbers ≡ length xs - 1
  pub order : ys ≡ exchanges xs (length xs - 1) numbers
  pub long : length ys ≡ length xs
  pub rearranged : IsPermutation xs ys

module _ {X : Type 0} (xs : List X) (w : Words) where
  pub part_none : PartShuffled xs w (length xs) w xs
  part_none = record { numbers = []; drawn = refl; place = let e : length xs - 1 + 0 ≡ length xs - 1 = omega arith in e; order = refl; long = refl; rearranged = IsPermutation-refl xs }

  module _ (end : ℕ) (w' : Words) (ys : List X) (p : PartShuffled xs w end w' ys) where
    ahead : 1 < end → After (down_from (length xs - 1)) w p.numbers ((end - 1) ∷ down_from (end - 1 - 1)) w'
    ahead h = subst (λ k. After (down_from (length xs - 1)) w p.numbers k w') (at (end - 1) (omega arith)) p.drawn
      where
        at : (k : ℕ) → 0 < k → down_from k ≡ k ∷ down_from (k - 1)
        at k h = let e : k ≡ suc (k - 1) = omega arith in ap down_from e ∙ ap (λ q. q ∷ down_from (k - 1)) (sym e)

    pub part_more : (j : ℕ) (w'' : Words) (ys' : List X) → 1 < end → draw (end - 1) w' ≡ record { number = Some j; rest = w'' }
        → ys' ≡ swap ys (end - 1) j → IsPermutation ys ys' → length ys' ≡ length ys → PartShuffled xs w (end - 1) w'' ys'
    part_more j w'' ys' h e x s l = record {
      numbers = p.numbers ++ (j ∷ []);
      drawn = after_more (down_from (length xs - 1)) p.numbers (down_from (end - 1 - 1)) (end - 1) j w w' w'' (ahead h) e;
      place = let a = length-append p.numbers (j ∷ []) in let q = p.place in omega arith;
      order = x ∙ ap (λ u. swap u (end - 1) j) p.order ∙ ap (λ k. swap (exchanges xs (length xs - 1) p.numbers) k j) (let q = p.place in let r : end - 1 ≡ length xs - 1 - length p.numbers = omega arith in r) ∙ sym (exchanges_push xs (length xs - 1) j p.numbers);
      long = l ∙ p.long;
      rearranged = IsPermutation-trans xs ys ys' p.rearranged s;
    }

    pub part_spent : (w'' : Words) → 1 < end → draw (end - 1) w' ≡ record { number = None; rest = w'' } → (length (draws (down_from (length xs - 1)) w).numbers < length xs - 1) × Exchanged xs w w'' ys
    part_spent w'' h e =
        let a = after_spent (down_from (length xs - 1)) p.numbers (down_from (end - 1 - 1)) (end - 1) w w' w'' (ahead h) e in
        let n : (draws (down_from (length xs - 1)) w).numbers ≡ p.numbers = ap (λ d. d.numbers) a in
        let q = p.place in
        (rw n (omega arith), record { words_left = sym (ap (λ d. d.rest) a); order = p.order ∙ ap (exchanges xs (length xs - 1)) (sym n); rearranged = p.rearranged })

    pub part_all : end ≤ 1 → (length (draws (down_from (length xs - 1)) w).numbers ≡ length xs - 1) × Exchanged xs w w' ys
    part_all h =
        let a = after_all (down_from (length xs - 1)) p.numbers w w' (subst (λ k. After (down_from (length xs - 1)) w p.numbers (down_from k) w') (let e : end - 1 ≡ 0 = omega arith in e) p.drawn) in
        let n : (draws (down_from (length xs - 1)) w).numbers ≡ p.numbers = ap (λ d. d.numbers) a in
        let q = p.place in
        (rw n (omega arith), record { words_left = sym (ap (λ d. d.rest) a); order = p.order ∙ ap (exchanges xs (length xs - 1)) (sym n); rearranged = p.rearranged })

    pub shuffle_spent : (e : Refusal) (w'' : Words) → 1 < end → Drawn (end - 1) w' (Err e) w'' → ShuffleTold xs w (Err e) w'' ys
    shuffle_spent e w'' h d = let s = part_spent w'' h d.1 in (d.0, s.0, s.1)
