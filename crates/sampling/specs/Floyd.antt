-- A random sample without repetition, by Bentley and Floyd ("A sample of brilliance", 1987):
--
--     initialize set S to empty
--     for J := N − M + 1 to N do
--         T := RandInt(1, J)
--         if T is not in S then insert T in S
--         else insert J in S
--
-- They take M of the numbers 1 to N; here the numbers are 0 to N − 1, so T and J are one less.
use Rattle.std.specs.Prelude.{◌≡◌, ℕ, ◌+◌, ◌-◌, ◌<◌, true, false, cond, ◌≢◌, ◌⊎◌, List, [], ◌∷◌, ◌++◌, length, take, slice_index}
use Rattle.std.specs.List.{range_with_len, AllByRecursion}
use Rattle.orders.specs.Members.{member}

-- the bounds of the draws for a sample of m of the numbers below n
abbrev pub bounds : ℕ → ℕ → List ℕ
bounds n m = range_with_len (n - m) m

-- what goes into the set: the number drawn, or the bound if that is in it already
abbrev pub inserted : List ℕ → ℕ → ℕ → ℕ
inserted s t j = cond (member s t) j t

-- the set, in the order of insertion, after the numbers ts are drawn, the first up to j and each next one up to one more
abbrev pub inserting : List ℕ → ℕ → List ℕ → List ℕ
inserting s j [] = s
inserting s j (t ∷ ts) = inserting (s ++ (inserted s t j ∷ [])) (j + 1) ts

-- the sample of the numbers below n that comes of the numbers drawn
unfoldable pub sample : ℕ → List ℕ → List ℕ
sample n ts = inserting [] (n - length ts) ts

-- S is the sample of the numbers below n for the numbers drawn: as many, all different, all below n, and each is
-- the number drawn, unless that is among those before it; then it is the bound
pub record Sample (n : ℕ) (ts s : List ℕ) : Type 0 where
  pub as_many : length s ≡ length ts
  pub below : AllByRecursion (λ x. x < n) s
  pub different : (i j : ℕ) → i < j → j < length s → slice_index s i ≢ slice_index s j
  pub each : (i : ℕ) → i < length ts
      → ((member (take i s) (slice_index ts i) ≡ false) × (slice_index s i ≡ slice_index ts i))
      ⊎ ((member (take i s) (slice_index ts i) ≡ true) × (slice_index s i ≡ n - length ts + i))
