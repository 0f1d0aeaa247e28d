use Rattle.std.proofs.Common.{◌≡◌, ℕ, ◌+◌, eqb, List, drop, [], ◌∷◌, Option, Some, Bool, true, false, cond, sym, refl, ◌∙◌, ap, arith}
use Rattle.std.specs.List.{position, position_from}
use Rattle.std.specs.Option.{option_map}
use Rattle.std.proofs.lemmas.Iterator.Adapters.{position_from-zero}
use Rattle.text.specs.Lines.{first, end_of}

moved : (t : Bool) (at k i : ℕ) (a b : Option ℕ) → i ≡ at + k → a ≡ option_map (λ n. at + n) b → cond t (Some i) a ≡ option_map (λ n. at + n) (cond t (Some k) b)
moved true at k i a b s e = ap Some s
moved false at k i a b s e = e

first_at : (end at k i : ℕ) (bs : List ℕ) → i ≡ at + k → first end i bs ≡ option_map (λ n. at + n) (position_from (λ b. eqb b end) k bs)
first_at end at k i [] s = refl
first_at end at k i (b ∷ bs) s = moved (eqb b end) at k i _ _ s (first_at end at (k + 1) (i + 1) bs (omega arith))

-- the end of a field, by its length
pub end_is : (text : List ℕ) (at end : ℕ) (length : Option ℕ) → length ≡ position (λ b. eqb b end) (drop at text) → end_of text at end ≡ option_map (λ n. at + n) length
end_is text at end length e = first_at end at 0 at (drop at text) (omega arith) ∙ ap (option_map (λ n. at + n)) (sym (e ∙ position_from-zero (λ b. eqb b end) (drop at text)))
