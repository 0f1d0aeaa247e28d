-- Renamings of legal cases are rearrangements of their columns, and columns tell a legal case.
use Rattle.std.proofs.Common.{◌≡◌, ℕ, ◌<◌, eqb, ◌↔◌, List, [], ◌∷◌, length, get_or, sym, refl, ap, ◌∙◌, ⊎_elim, arith}
use Rattle.std.specs.List.{AllZip, AllByRecursion}
use Rattle.std.specs.List.Sorted.{IsPermutation}
use Rattle.std.proofs.lemmas.List.{same_from_push}
use Rattle.std.proofs.lemmas.List.Sorted.{IsPermutation-refl, IsPermutation-sym, IsPermutation-trans}
use Rattle.std.proofs.lemmas.Bool.{cases_eq, eq-eqb, ne_eqb}
use Rattle.std.proofs.lemmas.List.FromFn.{length-map-range_with_len}
use Rattle.orders.specs.Members.{member}
use Rattle.orders.specs.Orders.{Lex, Renaming, MovedBy}
use Rattle.orders.proofs.Sorting.{stays, shuffled_from_moved, moved_from_shuffled}
use Rattle.orders.proofs.Lexical.{lex_order}
use Rattle.scenarios.specs.declared.mode.Mode.{Mode}
use Rattle.scenarios.specs.declared.mode.Mode.TheVariants.{Sampled, Sustained}
use Rattle.scenarios.specs.declared.round.RoundScenario.{RoundScenario}
use Rattle.scenarios.specs.Masks.{bit}
use Rattle.scenarios.specs.Letters.{letter, in_primary, in_secondary}
use Rattle.scenarios.specs.Canonical.{LegalRound, Legal}
use Rattle.scenarios.specs.Plans.{LegalIn}
use Rattle.scenarios.proofs.Masks.{same_mask}
use Rattle.scenarios.proofs.Lettering.{letter_is, role_small, primary_of, secondary_of}
use Rattle.sets.proofs.Members.{same_set}
use Rattle.cases.specs.Cases.{Case, LegalCase, RoundRenamed, RenamedBy, Renamed}
use Rattle.cases.specs.Claims.{RenamingRelates}
use Rattle.cases.proofs.Columns.{letters, mark, column, columns, column_at}
use Rattle.sets.proofs.Marks.{mark_tells}

pub legal_rounds : (mode : Mode) (n R : ℕ) (rs : List RoundScenario) → LegalIn mode n R rs → Legal n R rs
legal_rounds Sampled n R rs l = l
legal_rounds Sustained n R rs l = l.0

module _ {n : ℕ} (p : Renaming n) where
  to_apart : (i j : ℕ) → i < n → j < n → p.to i ≡ p.to j → i ≡ j
  to_apart i j hi hj e = sym (p.back_to i hi) ∙ ap p.back e ∙ p.back_to j hj

  -- one round

  letter_moves : (r s : RoundScenario) → r.leader < n → RoundRenamed p r s → (i : ℕ) → i < n → letter s (p.to i) ≡ letter r i
  letter_moves r s l h i hi =
      let leads : eqb s.leader (p.to i) ≡ eqb r.leader i =
      ⊎_elim
      (λ e. eq-eqb _ _ (h.leader_to ∙ ap p.to e) ∙ sym (eq-eqb _ _ e))
      (λ e. ne_eqb _ _ (λ q. e (to_apart r.leader i l hi (sym h.leader_to ∙ q))) ∙ sym (ne_eqb _ _ e))
      (cases_eq r.leader i) in
      cc (leads, h.primary_to i hi, h.secondary_to i hi)

  round_moved : (r s : RoundScenario) → r.leader < n → ((i : ℕ) → i < n → letter s (p.to i) ≡ letter r i) → RoundRenamed p r s
  round_moved r s l h = record {
    leader_to = leader;
    primary_to = λ i hi. sym (primary_of (bit s.primary (p.to i)) (bit s.secondary (p.to i)) (eqb s.leader (p.to i))) ∙ ap in_primary (h i hi) ∙ primary_of (bit r.primary i) (bit r.secondary i) (eqb r.leader i);
    secondary_to = λ i hi. sym (secondary_of (bit s.primary (p.to i)) (bit s.secondary (p.to i)) (eqb s.leader (p.to i))) ∙ ap in_secondary (h i hi) ∙ secondary_of (bit r.primary i) (bit r.secondary i) (eqb r.leader i);
  }
    where
      leader : s.leader ≡ p.to r.leader
      leader =
          let k = p.to r.leader in
          let e = h r.leader l in
          let a = letter_is r r.leader in
          let b = letter_is s k in
          let c = role_small (bit s.primary k) (bit s.secondary k) in
          omega arith

  -- all rounds

  letters_move : (rs ss : List RoundScenario) → AllByRecursion (LegalRound n) rs → AllZip (RoundRenamed p) rs ss → (i : ℕ) → i < n → letters ss (p.to i) ≡ letters rs i
  letters_move [] [] l h i hi = refl
  letters_move [] (s ∷ ss) l h i hi = absurd h
  letters_move (r ∷ rs) [] l h i hi = absurd h
  letters_move (r ∷ rs) (s ∷ ss) l h i hi = cc (letter_moves r s l.0.leads h.0 i hi, letters_move rs ss l.1 h.1 i hi)

  rounds_moved : (rs ss : List RoundScenario) → length rs ≡ length ss → AllByRecursion (LegalRound n) rs → ((i : ℕ) → i < n → letters ss (p.to i) ≡ letters rs i) → AllZip (RoundRenamed p) rs ss
  rounds_moved [] [] e l h = tt
  rounds_moved [] (s ∷ ss) e l h = omega arith
  rounds_moved (r ∷ rs) [] e l h = omega arith
  rounds_moved (r ∷ rs) (s ∷ ss) e l h = (
    round_moved r s l.0.leads (λ i hi. let q = h i hi in cc),
    rounds_moved rs ss (omega arith) l.1 (λ i hi. let q = h i hi in cc),
  )

  -- whole cases

  module _ (R : ℕ) (a b : Case) (la : Legal n R a.rounds) where
    pub columns_move : RenamedBy p a b → MovedBy p (columns n a) (columns n b)
    unfolding column
    columns_move h = record {
      long = length-map-range_with_len (column a) 0 n;
      long' = length-map-range_with_len (column b) 0 n;
      at = λ i d hi. column_at n b (p.to i) d (p.to_below i hi) ∙ (let e = letters_move a.rounds b.rounds la.each h.rounds_to i hi in let m = h.set_to i hi in cc) ∙ sym (column_at n a i d hi);
    }

    case_moved : Legal n R b.rounds → MovedBy p (columns n a) (columns n b) → RenamedBy p a b
    unfolding column
    case_moved lb h = record {
      rounds_to = rounds_moved a.rounds b.rounds (la.enough ∙ sym lb.enough) la.each (λ i hi. (split i hi).0);
      set_to = λ i hi. mark_tells (member b.set (p.to i)) (member a.set i) (split i hi).1;
    }
      where
        split : (i : ℕ) → i < n → (letters b.rounds (p.to i) ≡ letters a.rounds i) × (mark b.set (p.to i) ≡ mark a.set i)
        split i hi = same_from_push _ _ _ _ (sym (column_at n b (p.to i) [] (p.to_below i hi)) ∙ h.at i [] hi ∙ column_at n a i [] hi)

pub renames_columns : (n R : ℕ) (a b : Case) → Legal n R a.rounds → Legal n R b.rounds → Renamed n a b ↔ IsPermutation (columns n a) (columns n b)
renames_columns n R a b la lb = (
  λ h. shuffled_from_moved Lex lex_order n (columns n a) (columns n b) (h.0, columns_move h.0 R a b la h.1),
  λ h. let m = moved_from_shuffled n (columns n a) (columns n b) (length-map-range_with_len (column a) 0 n) h in (m.0, case_moved m.0 R a b la lb m.1),
)

pub renaming_relates : (mode : Mode) (n f R : ℕ) → RenamingRelates mode n f R
renaming_relates mode n f R = record {
  itself = λ a la. (to a a la la).1 (IsPermutation-refl (columns n a));
  back = λ a b la lb h. (to b a lb la).1 (IsPermutation-sym (columns n a) (columns n b) ((to a b la lb).0 h));
  on = λ a b c la lb lc h k. (to a c la lc).1 (IsPermutation-trans (columns n a) (columns n b) (columns n c) ((to a b la lb).0 h) ((to b c lb lc).0 k));
}
  where
    to : (a b : Case) → LegalCase mode n f R a → LegalCase mode n f R b → Renamed n a b ↔ IsPermutation (columns n a) (columns n b)
    to a b la lb = renames_columns n R a b (legal_rounds mode n R a.rounds la.scenario) (legal_rounds mode n R b.rounds lb.scenario)

-- columns tell a legal case

same_rounds : (n : ℕ) (rs ss : List RoundScenario) → AllByRecursion (LegalRound n) rs → AllByRecursion (LegalRound n) ss → AllZip (RoundRenamed (stays n)) rs ss → rs ≡ ss
unfolding stays
same_rounds n [] [] lr ls h = refl
same_rounds n [] (s ∷ ss) lr ls h = absurd h
same_rounds n (r ∷ rs) [] lr ls h = absurd h
same_rounds n (r ∷ rs) (s ∷ ss) lr ls h =
    let e = same_rounds n rs ss lr.1 ls.1 h.1 in
    let l = h.0.leader_to in
    let p = same_mask n r.primary s.primary lr.0.primary_below ls.0.primary_below (λ i hi. sym (h.0.primary_to i hi)) in
    let q = same_mask n r.secondary s.secondary lr.0.secondary_below ls.0.secondary_below (λ i hi. sym (h.0.secondary_to i hi)) in
    λ i. record { leader = sym l i; primary = p i; secondary = q i } ∷ e i

pub columns_tell : (mode : Mode) (n f R : ℕ) (a b : Case) → LegalCase mode n f R a → LegalCase mode n f R b → columns n a ≡ columns n b → a ≡ b
unfolding stays
columns_tell mode n f R a b la lb e =
    let ra = legal_rounds mode n R a.rounds la.scenario in
    let rb = legal_rounds mode n R b.rounds lb.scenario in
    let h = case_moved (stays n) R a b ra rb (record { long = length-map-range_with_len (column a) 0 n; long' = length-map-range_with_len (column b) 0 n; at = λ i d hi. ap (λ l. get_or l i d) (sym e) }) in
    let rs = same_rounds n a.rounds b.rounds ra.each rb.each h.rounds_to in
    let s = same_set 0 n a.set b.set la.compromised.upwards lb.compromised.upwards (λ i _ hi. sym (h.set_to i hi)) in
    λ i. record { rounds = rs i; set = s i }
