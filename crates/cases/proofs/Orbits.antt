-- Each legal case is a renaming of exactly one canonical legal case.
use Rattle.std.proofs.Common.{◌≡◌, ℕ, ◌^◌, ◌<◌, List, [], ◌∷◌, map, length, get_or, sym, refl, ap, ◌∙◌, subst, arith}
use Rattle.std.specs.List.{range_with_len, AllZip}
use Rattle.std.proofs.lemmas.List.{same_lists, length-map, get_or-map}
use Rattle.std.proofs.ByRecursion.{All-map, All-weaker}
use Rattle.std.proofs.lemmas.List.FromFn.{get_or-map-range_with_len, length-map-range_with_len}
use Rattle.orders.specs.Members.{member}
use Rattle.orders.specs.Orders.{Sorted, Lex, ExactlyOne, Renaming, MovedBy}
use Rattle.orders.proofs.Sorting.{sorts, moved_from_shuffled}
use Rattle.orders.proofs.Lexical.{lex_order}
use Rattle.scenarios.specs.declared.mode.Mode.{Mode}
use Rattle.scenarios.specs.declared.mode.Mode.TheVariants.{Sampled, Sustained}
use Rattle.scenarios.specs.declared.round.RoundScenario.{RoundScenario}
use Rattle.scenarios.specs.Masks.{bit, pack}
use Rattle.scenarios.specs.Canonical.{LegalRound, Legal}
use Rattle.scenarios.specs.Plans.{AllAlike, LegalIn}
use Rattle.scenarios.proofs.Masks.{pack_below, bit_pack}
use Rattle.sets.proofs.SetsRenamed.{renamed, member_renamed, set_renamed}
use Rattle.cases.specs.Cases.{Case, LegalCase, RoundRenamed, RenamedBy, Renamed}
use Rattle.cases.proofs.Columns.{CanonicalCase, column, columns, columns_sorted, canonical_sorted}
use Rattle.cases.proofs.Renames.{legal_rounds, columns_move, renames_columns, columns_tell}

-- a case, renamed by a permutation

module _ {n : ℕ} (p : Renaming n) where
  -- the mask with its bits moved
  moved_mask : ℕ → ℕ
  moved_mask m = pack (map (λ i. bit m (p.back i)) (range_with_len 0 n))

  moved_below : (m : ℕ) → moved_mask m < 2 ^ n
  unfolding moved_mask
  moved_below m =
      let bs = map (λ i. bit m (p.back i)) (range_with_len 0 n) in
      subst (λ k. pack bs < 2 ^ k) (length-map-range_with_len (λ i. bit m (p.back i)) 0 n) (pack_below bs)

  bit_moved : (m i : ℕ) → i < n → bit (moved_mask m) (p.to i) ≡ bit m i
  unfolding moved_mask
  bit_moved m i h =
      bit_pack (map (λ k. bit m (p.back k)) (range_with_len 0 n)) (p.to i)
      ∙ get_or-map-range_with_len (λ k. bit m (p.back k)) 0 n (p.to i) (p.to i) _ (p.to_below i h) (omega arith)
      ∙ ap (bit m) (p.back_to i h)

  rename_round : RoundScenario → RoundScenario
  rename_round r = record { leader = p.to r.leader; primary = moved_mask r.primary; secondary = moved_mask r.secondary }

  rename : Case → Case
  rename c = record { rounds = map rename_round c.rounds; set = renamed p c.set }

  round_renamed : (r : RoundScenario) → RoundRenamed p r (rename_round r)
  unfolding rename_round
  round_renamed r = record { leader_to = refl; primary_to = bit_moved r.primary; secondary_to = bit_moved r.secondary }

  rounds_renamed : (rs : List RoundScenario) → AllZip (RoundRenamed p) rs (map rename_round rs)
  rounds_renamed [] = tt
  rounds_renamed (r ∷ rs) = (round_renamed r, rounds_renamed rs)

  case_renamed : (c : Case) → RenamedBy p c (rename c)
  unfolding rename
  case_renamed c = record {
    rounds_to = rounds_renamed c.rounds;
    set_to = λ i h. member_renamed p c.set (p.to i) (p.to_below i h) ∙ ap (member c.set) (p.back_to i h);
  }

  -- and it is legal

  legal_round : (r : RoundScenario) → LegalRound n r → LegalRound n (rename_round r)
  unfolding rename_round
  legal_round r l = record {
    leads = p.to_below r.leader l.leads;
    heard = rw (bit_moved r.primary r.leader l.leads, bit_moved r.secondary r.leader l.leads) l.heard;
    primary_below = moved_below r.primary;
    secondary_below = moved_below r.secondary;
  }

  legal_renamed : (R : ℕ) (rs : List RoundScenario) → Legal n R rs → Legal n R (map rename_round rs)
  legal_renamed R rs l = record {
    enough = length-map rs rename_round ∙ l.enough;
    each = All-map (LegalRound n) rename_round rs (All-weaker (LegalRound n) (λ r. LegalRound n (rename_round r)) legal_round rs l.each);
  }

  alike_renamed : (rs : List RoundScenario) → AllAlike rs → AllAlike (map rename_round rs)
  alike_renamed rs h i j d a b =
      let e = length-map rs rename_round in
      let a' : i < length rs = omega arith in
      let b' : j < length rs = omega arith in
      get_or-map rename_round rs i d d a' ∙ ap rename_round (h i j d a' b') ∙ sym (get_or-map rename_round rs j d d b')

  scenario_renamed : (mode : Mode) (R : ℕ) (rs : List RoundScenario) → LegalIn mode n R rs → LegalIn mode n R (map rename_round rs)
  scenario_renamed Sampled R rs l = legal_renamed R rs l
  scenario_renamed Sustained R rs l = (legal_renamed R rs l.0, alike_renamed rs l.1)

  rename_legal : (mode : Mode) (f R : ℕ) (c : Case) → LegalCase mode n f R c → LegalCase mode n f R (rename c)
  unfolding rename
  rename_legal mode f R c l = record { scenario = scenario_renamed mode R c.rounds l.scenario; compromised = set_renamed p c.set f l.compromised }

  -- a permutation moves a list to one list alone
  same_target : {X : Type 0} (xs ys zs : List X) → MovedBy p xs ys → MovedBy p xs zs → ys ≡ zs
  same_target xs ys zs m k =
      let ly = m.long' in
      let lz = k.long' in
      same_lists ys zs (omega arith) (λ i d h. let hi : i < n = omega arith in
      sym (ap (λ j. get_or ys j d) (p.to_back i hi)) ∙ m.at (p.back i) d (p.back_below i hi) ∙ sym (k.at (p.back i) d (p.back_below i hi)) ∙ ap (λ j. get_or zs j d) (p.to_back i hi))

pub one_canonical : (mode : Mode) (n f R : ℕ) (a : Case) → LegalCase mode n f R a → ExactlyOne (λ b. LegalCase mode n f R b × CanonicalCase n b × Renamed n a b)
one_canonical mode n f R a la =
    let legal = λ (c : Case) (l : LegalCase mode n f R c). legal_rounds mode n R c.rounds l.scenario in
    let s = sorts Lex lex_order (columns n a) in
    let m = moved_from_shuffled n (columns n a) s.the (length-map-range_with_len (column a) 0 n) s.holds.0 in
    let p = m.0 in
    let b = rename p a in
    let lb = rename_legal p mode f R a la in
    let r = case_renamed p a in
    let e : columns n b ≡ s.the = same_target p (columns n a) (columns n b) s.the (columns_move p R a b (legal a la) r) m.1 in
    record {
      the = b;
      holds = (lb, canonical_sorted n b (subst (Sorted Lex) (sym e) s.holds.1), (p, r));
      only = λ c h. columns_tell mode n f R c b h.0 lb (s.only (columns n c) ((renames_columns n R a c (legal a la) (legal c h.0)).0 h.2, columns_sorted n c h.1) ∙ sym e);
    }
