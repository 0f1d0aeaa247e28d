-- Cells as ranges, in a row: their sizes, how far they go, and the first few members of each.
use Rattle.std.proofs.Common.{◌≡◌, ℕ, ◌+◌, ◌-◌, ◌<◌, ◌≤◌, List, [], ◌∷◌, ◌++◌, length, get_or, take, drop, sym, refl, ap, ◌∙◌, arith}
use Rattle.std.specs.List.{range_with_len, AllByRecursion}
use Rattle.std.proofs.lemmas.List.{drop_more, take_rest}
use Rattle.scenarios.specs.Cells.{total, ranges_from}
use Rattle.sets.specs.Sets.{firsts}
use Rattle.sets.specs.Ways.{sizes, RowFrom, members_of}

pub sizes_ranges : (start : ℕ) (cs : List ℕ) → sizes (ranges_from start cs) ≡ cs
sizes_ranges start [] = refl
sizes_ranges start (c ∷ cs) = ap (λ l. c ∷ l) (sizes_ranges (start + c) cs)

pub row_filled : (start : ℕ) (rs : List (ℕ × ℕ)) → RowFrom start rs → AllByRecursion (λ c. 0 < c) (sizes rs)
row_filled start [] row = tt
row_filled start (r ∷ rs) row = (row.1, row_filled (start + r.1) rs row.2)

pub row_small : (start : ℕ) (rs : List (ℕ × ℕ)) → RowFrom start rs → start + total (sizes rs) ≤ 64
row_small start [] row = omega arith
row_small start (r ∷ rs) row = let h = row_small (start + r.1) rs row.2 in omega arith

pub row_of_ranges : (start : ℕ) (cs : List ℕ) → AllByRecursion (λ c. 0 < c) cs → start + total cs ≤ 64 → RowFrom start (ranges_from start cs)
row_of_ranges start [] filled small = omega arith
row_of_ranges start (c ∷ cs) filled small = (refl, filled.0, row_of_ranges (start + c) cs filled.1 (omega arith))

pub members_of_ranges : (start : ℕ) (cs ts : List ℕ) → members_of (ranges_from start cs) ts ≡ firsts start cs ts
members_of_ranges start [] [] = refl
members_of_ranges start [] (t ∷ ts) = refl
members_of_ranges start (c ∷ cs) [] = refl
members_of_ranges start (c ∷ cs) (t ∷ ts) = ap (λ l. range_with_len start t ++ l) (members_of_ranges (start + c) cs ts)

pub cells_none : (rs : List (ℕ × ℕ)) → length rs < 1 → rs ≡ []
cells_none [] h = refl
cells_none (r ∷ rs) h = absurd (omega arith)

pub cells_more : (rs : List (ℕ × ℕ)) → 1 ≤ length rs → rs ≡ get_or rs 0 (0, 0) ∷ take (length rs - 1) (drop 1 rs)
cells_more rs h = drop_more rs 0 (0, 0) (omega arith) ∙ ap (λ l. get_or rs 0 (0, 0) ∷ l) (sym (take_rest rs 1))
