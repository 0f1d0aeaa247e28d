-- A round read back as a turn and a number, from its cells. Assumes nothing.
use Rattle.std.proofs.Common.{◌≡◌, ℕ, ◌+◌, ◌-◌, ◌*◌, ◌%◌, ◌^◌, ◌<◌, ◌≤◌, true, ◌⊎◌, List, [], ◌∷◌, map, length, get_or, take, Some, sym, refl, ap, ◌∙◌, subst, inl, inr, arith}
use Rattle.std.specs.List.{range_with_len, flat_map, AllByRecursion}
use Rattle.std.proofs.lemmas.Bool.{both_ways, cases_lt}
use Rattle.std.proofs.lemmas.Nat.{one_shl}
use Rattle.scenarios.specs.declared.round.RoundScenario.{RoundScenario}
use Rattle.scenarios.specs.declared.read.Tally.{Tally}
use Rattle.scenarios.specs.Masks.{bit}
use Rattle.scenarios.specs.Letters.{letter, round_of}
use Rattle.scenarios.specs.Turns.{weight, after, round}
use Rattle.scenarios.specs.Cells.{total, CellsOf, cells, ends, boundaries, inner, ranges_from}
use Rattle.scenarios.specs.Canonical.{LegalRound}
use Rattle.scenarios.specs.Claims.{Ordered}
use Rattle.scenarios.specs.Edges.{sizes_of}
use Rattle.scenarios.specs.Readings.{Told, LedRanges, CellsRefused, ends_at, RoundRead}
use Rattle.scenarios.proofs.Lettering.{heard_role, round_letters}
use Rattle.scenarios.proofs.Parting.{inner_past}
use Rattle.scenarios.proofs.States.{cells_stand}
use Rattle.scenarios.proofs.Walkings.{sizes_ranges, length_ranges}
use Rattle.scenarios.proofs.RoundsBack.{range_at, total_mono, total_more, inner_else, fill_filled}

module _ (n s : ℕ) (r : RoundScenario) (rs : List (ℕ × ℕ)) (some : 0 < n) (most : n ≤ 64) (listed : rs ≡ ranges_from 0 (cells n s)) (legal : LegalRound n r) where
  whole : CellsOf n (cells n s)
  whole = cells_stand n s some

  sizes_are : sizes_of rs ≡ cells n s
  sizes_are = ap (map (λ (x : ℕ × ℕ). x.1)) listed ∙ sizes_ranges 0 (cells n s)

  counted : length (cells n s) ≡ length rs
  counted = sym (length_ranges 0 (cells n s)) ∙ ap length (sym listed)

  pub end_at : (k : ℕ) → k < length rs → ends_at rs k ≡ total (take k (cells n s)) + get_or (cells n s) k 0
  end_at k h =
      let m = counted in
      let e : get_or rs k (0, 0) ≡ get_or (ranges_from 0 (cells n s)) k (0, 0) = ap (λ l. get_or l k (0, 0)) listed in
      let a = ap (λ (x : ℕ × ℕ). x.0) e in
      let b = ap (λ (x : ℕ × ℕ). x.1) e in
      let d = range_at 0 (cells n s) k (omega arith) in
      omega arith

  pub end_within : (k : ℕ) → k < length rs → ends_at rs k ≤ 64
  end_within k h =
      let m = counted in
      let a = end_at k h in
      let b = total_more k (cells n s) (omega arith) in
      let d = total_mono (k + 1) (length (cells n s)) (cells n s) (omega arith) in
      let e = ap total (take_whole (cells n s)) in
      omega (arith, whole.whole)
    where
      take_whole : (xs : List ℕ) → take (length xs) xs ≡ xs
      take_whole [] = refl
      take_whole (x ∷ xs) = ap (λ l. x ∷ l) (take_whole xs)

  -- a leader that ends no cell has a neighbour behind it in its cell
  pub no_leader : ((k : ℕ) → k < length rs → r.leader + 1 ≡ ends_at rs k → ⊥) → Ordered n (cells n s) r → ⊥
  no_leader never ordered = out (cases_lt (r.leader + 1) n)
    where
      inside : inner (cells n s) r.leader ≡ true
      inside = inner_else (cells n s) r.leader (omega (arith, legal.leads, whole.whole)) (λ k h e. let h' : k < length rs = omega (arith, counted) in never k h' (e ∙ sym (end_at k h')))

      out : (r.leader + 1 < n) ⊎ (n ≤ r.leader + 1) → ⊥
      out (inl h) = (ordered r.leader h inside).leader_last refl
      out (inr h) = both_ways (inner (cells n s) r.leader) (inner_past (cells n s) r.leader (omega (arith, whole.whole))) inside

  pub led_ranges : (l : ℕ) → l < length rs → r.leader + 1 ≡ ends_at rs l → LedRanges l r.leader rs
  led_ranges l h e =
      let q = sym sizes_are in
      record {
        ranged = listed ∙ ap (ranges_from 0) q;
        filled = subst (AllByRecursion (λ c. 0 < c)) q whole.filled;
        within = subst (λ cs. total cs ≤ 64) q (omega (arith, whole.whole));
        leads = h;
        last = subst (λ cs. r.leader + 1 ≡ total (take l cs) + get_or cs l 0) q (e ∙ end_at l h);
      }

  pub no_cells : CellsRefused r (sizes_of rs) → Ordered n (cells n s) r → ⊥
  no_cells refused ordered = go (subst (CellsRefused r) sizes_are refused)
    where
      go : CellsRefused r (cells n s) → ⊥
      go (inl (k, h, inside, bad)) = bad (ordered k (omega (arith, whole.whole)) inside)
      go (inr none) = omega (arith, heard_role (bit r.primary r.leader) (bit r.secondary r.leader) legal.heard)

  pub round_read : (l : ℕ) (t : Tally) → l < length rs → Told r l 0 0 (sizes_of rs) t
      → RoundRead n s r (Some (record { leader_cell = l; next = record { boundaries = t.marks % ((1 * 2 ^ (n - 1)) % 2 ^ 64) }; rank = t.rank }))
  unfolding weight after round boundaries
  round_read l t h told' = (
    record { leader = l; fill = told.fill },
    record { leads = omega (arith, counted); split = told.fills },
    refl,
    marks,
    told.below,
    ap round_of (told.letters ∙ ap (λ m. map (letter r) (range_with_len 0 m)) whole.whole) ∙ round_letters n r legal,
  )
    where
      told : Told r l 0 0 (cells n s) t
      told = subst (λ cs. Told r l 0 0 cs t) sizes_are told'

      qs : List ℕ
      qs = flat_map (λ ps. ps) told.fill

      sum : total qs ≡ n
      sum = (fill_filled l 0 (cells n s) told.fill told.fills).1 ∙ whole.whole

      marked : t.marks ≡ ends qs
      marked = omega (arith, told.marked)

      marks : ends qs % 2 ^ (total qs - 1) ≡ t.marks % ((1 * 2 ^ (n - 1)) % 2 ^ 64)
      marks =
          let one = one_shl (n - 1) 64 (omega arith) in
          ap (λ k. ends qs % 2 ^ (k - 1)) sum ∙ ap (λ y. y % 2 ^ (n - 1)) (sym marked) ∙ ap (λ y. t.marks % y) (sym one)
