-- Members of a list, by place, and of a table of ranks.
use Rattle.std.proofs.Common.{◌≡◌, ℕ, ◌<◌, true, false, ◌||◌, ◌==◌, ◌≢◌, List, [], ◌∷◌, map, length, get_or, Some, None, sym, refl, ap, ◌∙◌, arith}
use Rattle.std.specs.List.{list_any}
use Rattle.std.proofs.lemmas.List.{length-map, get_or-map}
use Rattle.std.proofs.lemmas.Bool.{eq-eqb, ne_eqb, cond-true, cond-false}
use Rattle.std.proofs.lemmas.List.Elements.{All-from_get_or}
use Rattle.std.proofs.lemmas.List.Folds.{list_any_at, list_any_none}
use Rattle.table.specs.Places.{Place}
use Rattle.orders.specs.Members.{member}
use Rattle.sampling.specs.Floyd.{inserted}
use Rattle.sampling.specs.Samples.{Slot, slot}

member_is : (s : List ℕ) (x : ℕ) → member s x ≡ list_any (λ y. y == x) s
member_is [] x = refl
member_is (y ∷ s) x = ap (λ b. y == x || b) (member_is s x)

pub member_at : (s : List ℕ) (i x : ℕ) → i < length s → get_or s i 0 ≡ x → member s x ≡ true
member_at s i x h e = member_is s x ∙ list_any_at (λ y. y == x) s i 0 h (eq-eqb (get_or s i 0) x e)

pub member_none : (s : List ℕ) (x : ℕ) → ((i : ℕ) → i < length s → get_or s i 0 ≢ x) → member s x ≡ false
member_none s x h = member_is s x ∙ list_any_none (λ y. y == x) s (All-from_get_or (λ y. (y == x) ≡ false) s 0 (λ i l. ne_eqb (get_or s i 0) x (h i l)))

-- a search of the ranks s for x; where it finds x, the bound j is inserted, else x
module _ (xs : List Slot) (s : List ℕ) (holds : xs ≡ map slot s) (x j : ℕ) where
  abbrev Is : Slot → Type 0
  Is e = (e.key ∷ []) ≡ x ∷ []

  pub as_many : length xs ≡ length s
  as_many = ap length holds ∙ length-map s slot

  slot_at : (i : ℕ) → i < length xs → get_or xs i (slot 0) ≡ slot (get_or s i 0)
  slot_at i h = ap (λ l. get_or l i (slot 0)) holds ∙ get_or-map slot s i 0 (slot 0) (omega (arith, as_many))

  pub inserted_bound : (i : ℕ) → Place Is xs (length xs) (Some i) → j ≡ inserted s x j
  inserted_bound i p =
      let q = slot_at i p.0 in
      let e : ((get_or xs i (slot 0)).key ∷ []) ≡ x ∷ [] = p.1 (slot 0) in
      sym (cond-true (member s x) j x (member_at s i x (omega (arith, as_many, p.0)) (let k : get_or s i 0 ≡ x = cc in k)))

  pub inserted_new : Place Is xs (length xs) None → x ≡ inserted s x j
  inserted_new none = sym (cond-false (member s x) j x (member_none s x (λ i h e.
      let l : i < length xs = omega (arith, as_many) in
      none i (slot 0) (omega arith) l (ap (λ t. t.key ∷ []) (slot_at i l) ∙ ap (λ k. k ∷ []) e))))
