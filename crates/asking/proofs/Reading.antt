-- The lines of a reader are those of the bytes that it has left.
use Rattle.std.proofs.Common.{◌≡◌, ℕ, List, [], ◌∷◌, map, Option, None, Some, IfSome, Result, Ok, sym, ap, subst, ◌∙◌}
use Rattle.std.specs.Iterator.{Yields}
use Rattle.std.specs.Io.BufRead.{first_line, drop_through}
use Rattle.std.specs.Io.Iter.{lines_known_bytes, YieldsWithout, YieldsKnownPiece}
use Rattle.std.specs.Io.KnownBytes.{IsAtEnd}
use Rattle.std.specs.declared.io.traits.Lines.{Lines}
use Rattle.asking.specs.Lines.{GivesAll, AreLines, LinesOf}

module _ {R H A : Type 0} (E : Type 0) (bytes : A → List ℕ) (left : R → Option (List ℕ)) where
  -- what the library promises of the next line
  abbrev GivesLine : Lines R H → Option (Result A E) → Lines R H → Type 0
  GivesLine s r t = YieldsWithout bytes r 10 × YieldsKnownPiece bytes first_line 10 (lines_known_bytes left s) r (lines_known_bytes left t)

  -- one line after the other is the first of the bytes that are left
  are_lines : (given : List A) (s t u : Lines R H) (xs : List ℕ) → lines_known_bytes left s ≡ Some xs → Yields GivesLine s (map Ok given) t → GivesLine t None u → AreLines xs (map bytes given)
  are_lines [] s t u xs known came last = subst IsAtEnd (ap (lines_known_bytes left) (sym came) ∙ known) last.1
  are_lines (x ∷ given) s t u xs known (j, step, came) last =
      let piece = rw known at step.1 in
      (piece.0.0, piece.0.1, are_lines given j t u (drop_through 10 xs) piece.1 came last)

  if_known : (given : List A) (s t u : Lines R H) (o : Option (List ℕ)) → lines_known_bytes left s ≡ o → Yields GivesLine s (map Ok given) t → GivesLine t None u → IfSome o (λ xs. AreLines xs (map bytes given))
  if_known given s t u None known came last = tt
  if_known given s t u (Some xs) known came last = are_lines given s t u xs known came last

  pub lines_of : (input : R) (s : Lines R H) (lines : List (List ℕ)) → lines_known_bytes left s ≡ left input → GivesAll GivesLine bytes s lines → LinesOf GivesLine bytes left input lines
  lines_of input s lines known (given, (u, (t, came, last)), are) =
      (s, known, (given, (u, (t, came, last)), are), rw are (if_known given s t u (left input) known came last))
