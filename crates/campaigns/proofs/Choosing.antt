-- The ranks chosen are all different, and below the total.
use Rattle.std.proofs.Common.{◌≡◌, ℕ, suc, ◌+◌, ◌-◌, ◌<◌, ◌≤◌, Bool, true, false, cond, List, [], ◌∷◌, ◌++◌, length, get_or, sym, refl, subst, arith}
use Rattle.std.specs.List.{range_with_len}
use Rattle.std.proofs.lemmas.List.{length-append, append_assoc, append-nil}
use Rattle.std.proofs.ByRecursion.{All-get_or}
use Rattle.std.proofs.lemmas.List.FromFn.{get_or-range_with_len}
use Rattle.std.proofs.lemmas.Bool.{ltb-true, le-ltb, cond-false}
use Rattle.scenarios.specs.declared.plan.Plan.{Plan}
use Rattle.scenarios.specs.Fits.{Among}
use Rattle.scenarios.proofs.Chains.{in_from_among, in_counting}
use Rattle.words.specs.Words.{Words}
use Rattle.words.specs.Draws.{draws}
use Rattle.words.proofs.Drawing.{draws_below}
use Rattle.sampling.specs.Floyd.{bounds, inserted, inserting, sample, Sample}
use Rattle.sampling.proofs.Sampling.{sample_none, sample_more}
use Rattle.campaigns.specs.Tickets.{total_for, samples, sampling, chosen}
use Rattle.campaigns.specs.Openings.{SampleDrawn}
use Rattle.campaigns.proofs.Different.{Once, getD_among, once_from_getD, once_counting}

-- a sample goes on with more numbers, each at most its bound
sample_on : (j : ℕ) (us s ts : List ℕ) → length us ≤ j → Sample j us s → ((i : ℕ) → i < length ts → get_or ts i 0 ≤ j + i) → Sample (j + length ts) (us ++ ts) (inserting s j ts)
sample_on j us s [] l p h = rw (let e : j + 0 ≡ j = omega arith in e, append-nil us) p
sample_on j us s (t ∷ ts) l p h =
    let n = length-append us (t ∷ []) in
    let first = h 0 (omega arith) in
    let more = sample_more j t us s l (omega arith) p in
    let all = sample_on (j + 1) (us ++ (t ∷ [])) (s ++ (inserted s t j ∷ [])) ts (omega arith) more (λ i b. let q = h (suc i) (omega arith) in omega arith) in
    let same : j + 1 + length ts ≡ j + suc (length ts) = omega arith in
    subst (λ k. Sample k (us ++ (t ∷ ts)) (inserting s j (t ∷ ts))) same (subst (λ k. Sample (j + 1 + length ts) k (inserting s j (t ∷ ts))) (append_assoc us (t ∷ []) ts) all)

sample_drawn : (n m : ℕ) (w : Words) → m ≤ n → length (draws (bounds n m) w).numbers ≡ m → Sample n (draws (bounds n m) w).numbers (sample n (draws (bounds n m) w).numbers)
unfolding sample
sample_drawn n m w l e =
    let ts = (draws (bounds n m) w).numbers in
    let first : n - length ts ≡ n - m = omega arith in
    let end : n - m + length ts ≡ n = omega arith in
    let low : (i : ℕ) → i < length ts → get_or ts i 0 ≤ n - m + i = λ i h. let b = draws_below (bounds n m) w i h in let c = get_or-range_with_len (n - m) m i 0 (omega arith) in omega arith in
    subst (λ k. Sample n ts (inserting [] k ts)) (sym first) (subst (λ k. Sample k ts (inserting [] (n - m) ts)) end (sample_on (n - m) [] [] ts (omega arith) (sample_none (n - m)) low))

-- different ranks below the total
pub record RanksStand (total : ℕ) (ranks : List ℕ) : Type 0 where
  pub once : Once ranks
  pub below : (rank : ℕ) → Among ranks rank → rank < total

counting_stand : (total : ℕ) → RanksStand total (range_with_len 0 total)
counting_stand total = record { once = once_counting 0 total; below = λ rank a. let t = in_counting 0 total rank (in_from_among (range_with_len 0 total) rank a) in omega (arith, t.1) }

sample_stand : (total : ℕ) (ts s : List ℕ) → Sample total ts s → RanksStand total s
sample_stand total ts s p = record {
  once = once_from_getD s 0 p.different;
  below = λ rank a. let t = getD_among s rank 0 a in subst (λ k. k < total) t.2 (All-get_or (λ k. k < total) s t.0 0 t.1 p.below);
}

pub chosen_stand : (p : Plan) (w : Words) → SampleDrawn p w → RanksStand (total_for p) (chosen p w)
chosen_stand p w drawn = go (samples p) refl
  where
    go : (b : Bool) → samples p ≡ b → RanksStand (total_for p) (cond b (sample (total_for p) (sampling p w).numbers) (range_with_len 0 (total_for p)))
    go true e = let l = ltb-true p.cap (total_for p) e in sample_stand (total_for p) (sampling p w).numbers (sample (total_for p) (sampling p w).numbers) (sample_drawn (total_for p) p.cap w (omega arith) (drawn e))
    go false e = counting_stand (total_for p)

-- where there are no more ranks than the cap, all are chosen
pub chosen_all : (p : Plan) (w : Words) → total_for p ≤ p.cap → chosen p w ≡ range_with_len 0 (total_for p)
chosen_all p w h = cond-false (samples p) _ _ (le-ltb p.cap (total_for p) h)
