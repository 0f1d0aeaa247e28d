-- The turns of the sampling loop.
use Rattle.std.proofs.Common.{◌≡◌, ℕ, suc, ◌+◌, ◌-◌, ◌<◌, ◌≤◌, List, [], ◌∷◌, ◌++◌, map, length, take, drop, set, Some, None, sym, refl, ap, ◌∙◌, subst, arith}
use Rattle.std.specs.List.{range_with_len}
use Rattle.std.proofs.lemmas.List.{length-append, length-map, map-append, take_at}
use Rattle.table.proofs.Writes.{write_more}
use Rattle.words.specs.Words.{Words}
use Rattle.words.specs.Draws.{draw, draws}
use Rattle.words.proofs.Drawing.{After, after_more, after_all, after_spent, draw_below}
use Rattle.sampling.specs.Floyd.{bounds, inserted, inserting, sample, Sample}
use Rattle.sampling.specs.Samples.{Slot, slot, Sampled}
use Rattle.sampling.proofs.Sampling.{sample_none, sample_more}

inserting_push : (s : List ℕ) (j t : ℕ) (ts : List ℕ) → inserting s j (ts ++ (t ∷ [])) ≡ inserting s j ts ++ (inserted (inserting s j ts) t (j + length ts) ∷ [])
inserting_push s j t [] = ap (λ k. s ++ (inserted s t k ∷ [])) (let e : j ≡ j + 0 = omega arith in e)
inserting_push s j t (u ∷ ts) =
    inserting_push (s ++ (inserted s u j ∷ [])) (j + 1) t ts
    ∙ ap (λ k. inserting s j (u ∷ ts) ++ (inserted (inserting s j (u ∷ ts)) t k ∷ [])) (let e : j + 1 + length ts ≡ j + suc (length ts) = omega arith in e)

-- so many numbers are drawn, those up to the bounds from this one on are to come, and the ranks so far are a sample
pub record PartSampled (total m : ℕ) (w : Words) (xs : List Slot) (bound : ℕ) (w' : Words) (ys : List Slot) : Type 0 where
  pub numbers : List ℕ
  pub drawn : After (bounds total m) w numbers (range_with_len bound (total - bound)) w'
  pub place : bound ≡ total - m + length numbers
  pub slots : ys ≡ map slot (inserting [] (total - m) numbers) ++ drop (length numbers) xs
  pub so_far : Sample bound numbers (inserting [] (total - m) numbers)

module _ (total m : ℕ) (w : Words) (xs : List Slot) (fits : m ≤ total) (room : m ≤ length xs) where
  pub part_none : PartSampled total m w xs (total - m) w xs
  part_none = record {
    numbers = [];
    drawn = ap (λ k. draws (range_with_len (total - m) k) w) (let e : m ≡ total - (total - m) = omega arith in e);
    place = let e : total - m ≡ total - m + 0 = omega arith in e;
    slots = refl;
    so_far = sample_none (total - m);
  }

  module _ (bound : ℕ) (w' : Words) (ys : List Slot) (p : PartSampled total m w xs bound w' ys) where
    ahead : bound < total → After (bounds total m) w p.numbers (bound ∷ range_with_len (bound + 1) (total - (bound + 1))) w'
    ahead h = subst (λ k. After (bounds total m) w p.numbers (range_with_len bound k) w') (let e : total - bound ≡ suc (total - (bound + 1)) = omega arith in e) p.drawn

    pub part_more : (t : ℕ) (w'' : Words) (len next r : ℕ) → bound < total → next ≡ bound + 1 → draw bound w' ≡ record { number = Some t; rest = w'' } → bound ≡ total - m + len
        → ((s : List ℕ) → take len ys ≡ map slot s → r ≡ inserted s t bound) → PartSampled total m w xs next w'' (set ys len (slot r))
    part_more t w'' len next r h one e at picked = subst (λ b. PartSampled total m w xs b w'' (set ys len (slot r))) (sym one) (record {
      numbers = p.numbers ++ (t ∷ []);
      drawn = after_more (bounds total m) p.numbers (range_with_len (bound + 1) (total - (bound + 1))) bound t w w' w'' (ahead h) e;
      place = let l = length-append p.numbers (t ∷ []) in let q = p.place in omega arith;
      slots = written;
      so_far = subst (λ u. Sample (bound + 1) (p.numbers ++ (t ∷ [])) u) (sym pushed) (sample_more bound t p.numbers s (let q = p.place in omega arith) (draw_below bound t w' w'' e) p.so_far);
    })
      where
        s : List ℕ
        s = inserting [] (total - m) p.numbers

        pushed : inserting [] (total - m) (p.numbers ++ (t ∷ [])) ≡ s ++ (inserted s t bound ∷ [])
        pushed = inserting_push [] (total - m) t p.numbers ∙ ap (λ k. s ++ (inserted s t k ∷ [])) (sym p.place)

        so_many : len ≡ length p.numbers
        so_many = let q = p.place in omega arith

        front : length (map slot s) ≡ length p.numbers
        front = length-map s slot ∙ p.so_far.as_many

        new : r ≡ inserted s t bound
        new = picked s (ap (λ k. take k ys) so_many ∙ ap (take (length p.numbers)) p.slots ∙ take_at (map slot s) (drop (length p.numbers) xs) (length p.numbers) front)

        written : set ys len (slot r) ≡ map slot (inserting [] (total - m) (p.numbers ++ (t ∷ []))) ++ drop (length (p.numbers ++ (t ∷ []))) xs
        written =
            ap (λ k. set ys k (slot r)) so_many
            ∙ ap (λ l. set l (length p.numbers) (slot r)) p.slots
            ∙ write_more (map slot s) xs (length p.numbers) (slot r) front (omega (arith, p.place))
            ∙ ap (λ k. (map slot s ++ slot k ∷ []) ++ drop (length p.numbers + 1) xs) new
            ∙ ap (λ l. l ++ drop (length p.numbers + 1) xs) (sym (ap (map slot) pushed ∙ map-append slot s (inserted s t bound ∷ [])))
            ∙ ap (λ k. map slot (inserting [] (total - m) (p.numbers ++ (t ∷ []))) ++ drop k xs) (sym (length-append p.numbers (t ∷ [])))

    pub part_spent : (w'' : Words) → bound < total → draw bound w' ≡ record { number = None; rest = w'' } → (length (draws (bounds total m) w).numbers < m) × (w'' ≡ (draws (bounds total m) w).rest)
    part_spent w'' h e =
        let a = after_spent (bounds total m) p.numbers (range_with_len (bound + 1) (total - (bound + 1))) bound w w' w'' (ahead h) e in
        let n : (draws (bounds total m) w).numbers ≡ p.numbers = ap (λ d. d.numbers) a in
        let q = p.place in
        (rw n (omega arith), sym (ap (λ d. d.rest) a))

  pub part_all : (bound : ℕ) (w' : Words) (ys : List Slot) → bound ≡ total → PartSampled total m w xs bound w' ys → Sampled total m w xs w' ys
  unfolding sample
  part_all bound w' ys last p =
      let a = after_all (bounds total m) p.numbers w w' (subst (λ k. After (bounds total m) w p.numbers (range_with_len bound k) w') (let e : total - bound ≡ 0 = omega arith in e) p.drawn) in
      let n : (draws (bounds total m) w).numbers ≡ p.numbers = ap (λ d. d.numbers) a in
      let q = p.place in
      let l : length p.numbers ≡ m = omega arith in
      let first : total - length p.numbers ≡ total - m = omega arith in
      record {
        room = room;
        enough = ap length n ∙ l;
        words_left = sym (ap (λ d. d.rest) a);
        ranks = p.slots
            ∙ ap (λ j. map slot (inserting [] j p.numbers) ++ drop (length p.numbers) xs) (sym first)
            ∙ ap (λ k. map slot (sample total p.numbers) ++ drop k xs) l
            ∙ ap (λ ts. map slot (sample total ts) ++ drop m xs) (sym n);
        fair = rw (n, first) (subst (λ b. Sample b p.numbers (inserting [] (total - m) p.numbers)) last p.so_far);
      }
