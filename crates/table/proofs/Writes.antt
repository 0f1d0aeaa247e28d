-- A loop that writes one place after the other.
use Rattle.std.proofs.Common.{◌≡◌, ℕ, ◌+◌, ◌<◌, List, [], ◌∷◌, ◌++◌, length, get_or, drop, set, replicate, sym, ap, ◌∙◌}
use Rattle.std.proofs.lemmas.List.{drop_more, set_at, append_assoc, replicate_more, length-replicate}

-- the next place of a memory whose front p is written
pub write_more : {X : Type 0} (p d : List X) (n : ℕ) (y : X) → length p ≡ n → n < length d → set (p ++ drop n d) n y ≡ (p ++ y ∷ []) ++ drop (n + 1) d
write_more p d n y e h = ap (λ t. set (p ++ t) n y) (drop_more d n y h) ∙ set_at p (get_or d n y) (drop (n + 1) d) y n e ∙ sym (append_assoc p (y ∷ []) (drop (n + 1) d))

pub fill_more : {X : Type 0} (n : ℕ) (y : X) (d : List X) → n < length d → set (replicate n y ++ drop n d) n y ≡ replicate (n + 1) y ++ drop (n + 1) d
fill_more n y d h = write_more (replicate n y) d n y (length-replicate n y) h ∙ ap (λ t. t ++ drop (n + 1) d) (replicate_more n y)
