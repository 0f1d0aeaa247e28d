-- A loop that notes a question in one tally after the other.
use Rattle.std.proofs.Common.{◌≡◌, ℕ, ◌+◌, ◌<◌, Bool, cond, List, ◌++◌, length, map, get_or, set, take, drop, sym, ap, ◌∙◌}
use Rattle.std.proofs.lemmas.List.Edits.{map_over_more}
use Rattle.asking.specs.declared.tally.Tally.{Tally}
use Rattle.asking.specs.Tallies.{told_of, one_more}

-- the tally t is put at the place i, where the list holds x
pub noted_more : {Q : Type 0} (same : Q → Q → Bool) (k : Q) (agrees : Bool) (xs ys : List (Q × Tally)) (i : ℕ) (x : Q × Tally) (t : Tally) → i < length xs → ys ≡ map (told_of same k agrees) (take i xs) ++ drop i xs → x ≡ get_or ys i x → t ≡ cond (same (get_or ys i x).0 k) (one_more agrees (get_or ys i x).1) (get_or ys i x).1 → set ys i ((get_or ys i x).0, t) ≡ map (told_of same k agrees) (take (i + 1) xs) ++ drop (i + 1) xs
noted_more same k agrees xs ys i x t within so_far read told =
    ap (λ u. set ys i ((get_or ys i x).0, u)) told ∙ ap (λ y. set ys i (told_of same k agrees y)) (sym read)
    ∙ map_over_more (told_of same k agrees) xs ys i x within so_far read
