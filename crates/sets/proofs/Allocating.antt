-- The set of a number, cell by cell: what one cell takes, and what is written.
use Rattle.std.proofs.Common.{◌≡◌, ℕ, ◌+◌, ◌-◌, ◌<◌, ◌≤◌, min, ◌⊎◌, List, [], ◌∷◌, ◌++◌, length, get_or, take, drop, sym, ap, ◌∙◌, inl, inr, arith}
use borrow.Rule.Slice.PartMut.{put_mid}
use Rattle.std.specs.List.{range_with_len}
use Rattle.std.proofs.lemmas.List.{append_assoc, append-nil, length-drop, take_at, take_rest, drop_at, drop-drop, drop_all}
use Rattle.std.proofs.lemmas.Bool.{cases_lt}
use Rattle.std.proofs.lemmas.List.FromFn.{length-range_with_len}
use Rattle.sets.specs.Sets.{amounts}
use Rattle.sets.proofs.Amounts.{fewer, getD_amounts}
use Rattle.sets.proofs.Bounds.{none_of_some}
use Rattle.sets.proofs.Ways.{fewer_ways}
use Rattle.sets.proofs.Cellwise.{row_small}
use Rattle.sets.specs.Ways.{sizes, InRow, Ways, ways_below, members_of, allocated}

module _ (r : ℕ × ℕ) (rs : List (ℕ × ℕ)) (f k taken left : ℕ) (ways : List ℕ) (few : f < 64)
    (w : Ways ways (sizes rs))
    (within : taken ≤ min r.1 f)
    (below : left < get_or ways (f - taken) 0)
    (split : k ≡ ways_below ways f taken + left) where
  -- the cell's part, and the part of those behind it
  allocated_more : allocated (r ∷ rs) f k ≡ range_with_len r.0 taken ++ allocated rs (f - taken) left
  allocated_more =
      let long = w (f - taken) (omega arith) in
      let number : k ≡ fewer (sizes rs) f taken + left = split ∙ ap (λ x. x + left) (fewer_ways ways (sizes rs) f taken few w) in
      ap (λ x. members_of (r ∷ rs) (get_or (amounts (r.1 ∷ sizes rs) f) x [])) number
      ∙ ap (members_of (r ∷ rs)) (getD_amounts r.1 (sizes rs) f taken left (omega arith) (omega arith) (omega arith))

  pub allocated_written : (xs ys zs : List ℕ) → f ≤ length xs → ys ≡ range_with_len r.0 taken ++ drop taken xs
      → zs ≡ allocated rs (f - taken) left ++ drop (f - taken) (take (length ys - taken) (drop taken ys))
      → put_mid taken (length ys - taken) ys zs ≡ allocated (r ∷ rs) f k ++ drop f xs
  allocated_written xs ys zs room wrote rest =
      let head = range_with_len r.0 taken in
      let behind = allocated rs (f - taken) left in
      let long : length head ≡ taken = length-range_with_len r.0 taken in
      let front : take taken ys ≡ head = ap (take taken) wrote ∙ take_at head (drop taken xs) taken long in
      let back : drop taken ys ≡ drop taken xs = ap (drop taken) wrote ∙ drop_at head (drop taken xs) taken long in
      let end : drop (f - taken) (take (length ys - taken) (drop taken ys)) ≡ drop f xs =
      ap (drop (f - taken)) (take_rest ys taken ∙ back) ∙ drop-drop (f - taken) taken xs ∙ ap (λ n. drop n xs) (let z : taken + (f - taken) ≡ f = omega arith in z) in
      let none : drop (length ys - taken) (drop taken ys) ≡ [] = drop_all (length ys - taken) (drop taken ys) (omega (arith, length-drop taken ys)) in
      ap (λ l. take taken ys ++ (zs ++ l)) none
      ∙ ap (λ l. take taken ys ++ l) (append-nil zs ∙ rest ∙ ap (λ l. behind ++ l) end)
      ∙ ap (λ l. l ++ (behind ++ drop f xs)) front
      ∙ sym (append_assoc head behind (drop f xs))
      ∙ ap (λ l. l ++ drop f xs) (sym allocated_more)

  pub cell_fits : InRow (r ∷ rs) → r.0 + taken ≤ 64
  cell_fits row = let small = row_small (row.0 + r.1) rs row.1.2 in let start = row.1.0 in omega arith

-- no cells have a set of no faults alone
pub allocated_none : (f k : ℕ) (xs : List ℕ) → k < length (amounts [] f) → xs ≡ drop f xs
allocated_none f k xs l = go (cases_lt 0 f)
  where
    go : (0 < f) ⊎ (f ≤ 0) → xs ≡ drop f xs
    go (inl some) = let none = none_of_some f some in absurd (omega arith)
    go (inr no_faults) = ap (λ m. drop m xs) (let e : 0 ≡ f = omega arith in e)
