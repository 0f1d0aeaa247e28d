-- Writing into the front of a memory, place by place. Assumes nothing.
use Rattle.std.proofs.Common.{◌≡◌, ℕ, ◌+◌, ◌<◌, List, [], ◌∷◌, ◌++◌, length, get_or, drop, set, sym, refl, ap, ◌∙◌, arith}
use Rattle.std.proofs.lemmas.List.{drop_more, set_at, append_assoc, length_push}

-- the names ps stand in front of the memory xs, and next is the place behind them
pub record Put {X : Type 0} (ps xs : List X) (next : ℕ) (ys : List X) : Type 0 where
  pub place : next ≡ length ps
  pub written : ys ≡ ps ++ drop (length ps) xs

module _ {X : Type 0} where
  write_more : (ps xs : List X) (y : X) → length ps < length xs
      → set (ps ++ drop (length ps) xs) (length ps) y ≡ (ps ++ (y ∷ [])) ++ drop (length (ps ++ (y ∷ []))) xs
  write_more ps xs y h =
      ap (λ t. set (ps ++ t) (length ps) y) (drop_more xs (length ps) y h)
      ∙ set_at ps (get_or xs (length ps) y) (drop (length ps + 1) xs) y (length ps) refl
      ∙ sym (append_assoc ps (y ∷ []) (drop (length ps + 1) xs))
      ∙ ap (λ k. (ps ++ (y ∷ [])) ++ drop k xs) (sym (length_push ps y))

  -- one name more
  pub put_more : (ps xs ys : List X) (next : ℕ) (y : X) → length ps < length xs → Put ps xs next ys → Put (ps ++ (y ∷ [])) xs (next + 1) (set ys next y)
  put_more ps xs ys next y h p = record {
    place = let e = length_push ps y in let f = p.place in omega arith;
    written = ap (λ n. set ys n y) p.place ∙ ap (λ l. set l (length ps) y) p.written ∙ write_more ps xs y h;
  }
