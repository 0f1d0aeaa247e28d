-- Cells listed as ranges, one boundary flag after the other.
use Rattle.std.proofs.Common.{◌≡◌, ℕ, ◌+◌, ◌-◌, ◌<◌, ◌≤◌, Bool, true, false, List, [], ◌∷◌, ◌++◌, length, get_or, drop, sym, ap, ◌∙◌, arith}
use Rattle.std.proofs.lemmas.List.{append_assoc, drop_more, drop_all}
use Rattle.scenarios.specs.Cells.{cut, ranges_from}

abbrev pub Listed : List (ℕ × ℕ) → ℕ → ℕ → List Bool → List (ℕ × ℕ)
Listed ranges start idx flags = ranges ++ ranges_from start (cut (idx + 1 - start) (drop idx flags))

module _ (ranges : List (ℕ × ℕ)) (start idx : ℕ) (flags : List Bool) (k : idx < length flags) where
  pub ranged_parted : get_or flags idx false ≡ true → start ≤ idx → Listed (ranges ++ ((start, idx + 1 - start) ∷ [])) (idx + 1) (idx + 1) flags ≡ Listed ranges start idx flags
  ranged_parted e s =
      let x : ℕ × ℕ = (start, idx + 1 - start) in
      let one : idx + 1 + 1 - (idx + 1) ≡ 1 = omega arith in
      let up : idx + 1 ≡ start + (idx + 1 - start) = omega arith in
      let rest : List (ℕ × ℕ) = ranges_from (idx + 1) (cut 1 (drop (idx + 1) flags)) in
      let d : drop idx flags ≡ true ∷ drop (idx + 1) flags = drop_more flags idx false k ∙ ap (λ y. y ∷ drop (idx + 1) flags) e in
      ap (λ w. (ranges ++ (x ∷ [])) ++ ranges_from (idx + 1) (cut w (drop (idx + 1) flags))) one
      ∙ append_assoc ranges (x ∷ []) rest
      ∙ ap (λ w. ranges ++ (x ∷ ranges_from w (cut 1 (drop (idx + 1) flags)))) up
      ∙ ap (λ w. ranges ++ ranges_from start (cut (idx + 1 - start) w)) (sym d)

  pub ranged_joined : get_or flags idx false ≡ false → start ≤ idx → Listed ranges start (idx + 1) flags ≡ Listed ranges start idx flags
  ranged_joined e s =
      let one : idx + 1 + 1 - start ≡ idx + 1 - start + 1 = omega arith in
      let d : drop idx flags ≡ false ∷ drop (idx + 1) flags = drop_more flags idx false k ∙ ap (λ y. y ∷ drop (idx + 1) flags) e in
      ap (λ w. ranges ++ ranges_from start (cut w (drop (idx + 1) flags))) one
      ∙ ap (λ w. ranges ++ ranges_from start (cut (idx + 1 - start) w)) (sym d)

pub ranged_all : (ranges : List (ℕ × ℕ)) (start idx n : ℕ) (flags : List Bool) → length flags ≤ idx → idx + 1 ≡ n → ranges ++ ((start, n - start) ∷ []) ≡ Listed ranges start idx flags
ranged_all ranges start idx n flags k e =
    ap (λ w. ranges ++ ((start, w - start) ∷ [])) (sym e) ∙ ap (λ w. ranges ++ ranges_from start (cut (idx + 1 - start) w)) (sym (drop_all idx flags k))
