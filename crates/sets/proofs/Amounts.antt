-- How many to take from each cell: by the number taken from the first, and the number among those that take as many.
use Rattle.std.proofs.Common.{◌≡◌, ℕ, ◌+◌, ◌-◌, ◌<◌, ◌≤◌, min, List, [], ◌∷◌, map, length, get_or, sym, ap, ◌∙◌, arith}
use Rattle.std.specs.List.{range_with_len}
use Rattle.std.proofs.lemmas.List.{length-map, get_or-map}
use Rattle.scenarios.specs.Cells.{total}
use Rattle.sets.specs.Sets.{amounts}
use Rattle.sets.proofs.Totals.{same_totals, total_counting_part}
use Rattle.sets.proofs.Joins.{length_joined, getD_joined, joined_place}

-- the ways to take t from a first cell
abbrev taking : List ℕ → ℕ → ℕ → List (List ℕ)
taking cs f t = map (λ ts. t ∷ ts) (amounts cs (f - t))

-- how many ways take fewer than t from a first cell
abbrev pub fewer : List ℕ → ℕ → ℕ → ℕ
fewer cs f t = total (map (λ u. length (amounts cs (f - u))) (range_with_len 0 t))

fewer_is : (cs : List ℕ) (f t : ℕ) → total (map (λ u. length (taking cs f u)) (range_with_len 0 t)) ≡ fewer cs f t
fewer_is cs f t = same_totals (λ u. length (taking cs f u)) (λ u. length (amounts cs (f - u))) 0 t (λ u l m. length-map (amounts cs (f - u)) (λ ts. u ∷ ts))

pub length_amounts : (c : ℕ) (cs : List ℕ) (f : ℕ) → length (amounts (c ∷ cs) f) ≡ fewer cs f (min c f + 1)
length_amounts c cs f = length_joined (taking cs f) (range_with_len 0 (min c f + 1)) ∙ fewer_is cs f (min c f + 1)

pub getD_amounts : (c : ℕ) (cs : List ℕ) (f t j : ℕ) → t ≤ c → t ≤ f → j < length (amounts cs (f - t))
    → get_or (amounts (c ∷ cs) f) (fewer cs f t + j) [] ≡ t ∷ get_or (amounts cs (f - t)) j []
getD_amounts c cs f t j a b l =
    let long = length-map (amounts cs (f - t)) (λ ts. t ∷ ts) in
    ap (λ k. get_or (amounts (c ∷ cs) f) (k + j) []) (sym (fewer_is cs f t))
    ∙ getD_joined (taking cs f) 0 (min c f + 1) t t j [] (omega arith) (let z : 0 + t ≡ t = omega arith in z) (omega arith)
    ∙ get_or-map (λ ts. t ∷ ts) (amounts cs (f - t)) j [] [] l

pub amounts_below : (c : ℕ) (cs : List ℕ) (f t j : ℕ) → t ≤ c → t ≤ f → j < length (amounts cs (f - t)) → fewer cs f t + j < length (amounts (c ∷ cs) f)
amounts_below c cs f t j a b l =
    let part = total_counting_part (λ u. length (amounts cs (f - u))) t (min c f + 1) (omega arith) in
    let long = length_amounts c cs f in
    omega arith

-- how the amounts of number k begin
pub record Begins (c : ℕ) (cs : List ℕ) (f k : ℕ) : Type 0 where
  pub taken : ℕ
  pub left : ℕ
  pub in_cell : taken ≤ c
  pub in_all : taken ≤ f
  pub left_below : left < length (amounts cs (f - taken))
  pub number_is : k ≡ fewer cs f taken + left
  pub begins : get_or (amounts (c ∷ cs) f) k [] ≡ taken ∷ get_or (amounts cs (f - taken)) left []

pub amounts_begin : (c : ℕ) (cs : List ℕ) (f k : ℕ) → k < length (amounts (c ∷ cs) f) → Begins c cs f k
amounts_begin c cs f k h =
    let p = joined_place (taking cs f) 0 (min c f + 1) k h in
    go p.0 p.1 p.2 p.3 p.4
  where
    go : (t j : ℕ) → t < min c f + 1 → j < length (taking cs f (0 + t)) → k ≡ total (map (λ u. length (taking cs f u)) (range_with_len 0 t)) + j → Begins c cs f k
    go t j a b e =
        let long : length (taking cs f (0 + t)) ≡ length (amounts cs (f - t)) = ap (λ u. length (taking cs f u)) (let z : 0 + t ≡ t = omega arith in z) ∙ length-map (amounts cs (f - t)) (λ ts. t ∷ ts) in
        let is = fewer_is cs f t in
        let below : j < length (amounts cs (f - t)) = omega arith in
        let number : k ≡ fewer cs f t + j = omega arith in
        record {
          taken = t;
          left = j;
          in_cell = omega arith;
          in_all = omega arith;
          left_below = below;
          number_is = number;
          begins = ap (λ m. get_or (amounts (c ∷ cs) f) m []) number ∙ getD_amounts c cs f t j (omega arith) (omega arith) below;
        }
