-- The numbers of a campaign that break no rule, its cells, and the answers that follow.
use Rattle.std.proofs.Common.{◌≡◌, ℕ, ◌<◌, ◌≤◌, Bool, true, false, cond, eqb, ltb, leb, List, [], length, get_or, Some, None, Option, sym, refl, ap, ◌∙◌, subst, arith}
use Rattle.std.proofs.lemmas.List.{length-map, get_or-map}
use Rattle.std.proofs.lemmas.Bool.{ltb-false, leb-false, le-ltb, le-leb, lt-leb}
use Rattle.scenarios.specs.Cells.{total, cells, ranges_from}
use Rattle.scenarios.proofs.States.{cells_stand}
use Rattle.sets.specs.Sets.{amounts, firsts, sets, set_at}
use Rattle.sets.specs.Answers.{faults_fault, set_fault}
use Rattle.sets.proofs.Cellwise.{sizes_ranges, row_of_ranges, members_of_ranges}
use Rattle.sets.specs.Ways.{sizes, InRow, Ways, members_of, allocated}

passes : (b : Bool) (k : ℕ) (o : Option ℕ) → cond b (Some k) o ≡ None → (b ≡ false) × (o ≡ None)
passes true k o e = absurd (let z : ◌≡◌ {A = ℕ} 0 1 = cc in omega arith)
passes false k o e = (refl, e)

-- the four rules on participants and faults, and a test behind them
record Allowed (n f : ℕ) : Type 0 where
  some : 2 ≤ n
  few : n ≤ 64
  sound : f < n
  past : (o : Option ℕ) → cond (ltb n 2) (Some 1) (cond (ltb 64 n) (Some 2) (cond (eqb f 0) (Some 3) (cond (leb n f) (Some 4) o))) ≡ o

allowed : (n f : ℕ) → faults_fault n f ≡ None → Allowed n f
allowed n f e =
    let a = passes (ltb n 2) 1 (cond (ltb 64 n) (Some 2) (cond (eqb f 0) (Some 3) (cond (leb n f) (Some 4) None))) e in
    let b = passes (ltb 64 n) 2 (cond (eqb f 0) (Some 3) (cond (leb n f) (Some 4) None)) a.1 in
    let c = passes (eqb f 0) 3 (cond (leb n f) (Some 4) None) b.1 in
    let d = passes (leb n f) 4 None c.1 in
    record {
      some = ltb-false n 2 a.0;
      few = ltb-false 64 n b.0;
      sound = leb-false n f d.0;
      past = λ o. rw (a.0, b.0, c.0, d.0);
    }

pub faults_few : (n f : ℕ) → faults_fault n f ≡ None → f < 64
faults_few n f e = let a = allowed n f e in omega arith

pub cells_whole : (n f s : ℕ) → faults_fault n f ≡ None → total (cells n s) ≡ n
cells_whole n f s e = let a = allowed n f e in (cells_stand n s (omega arith)).whole

-- the cells of a campaign, as ranges

pub cells_in_row : (n f s : ℕ) (rs : List (ℕ × ℕ)) → faults_fault n f ≡ None → rs ≡ ranges_from 0 (cells n s) → InRow rs
cells_in_row n f s rs e told =
    let a = allowed n f e in
    let stand = cells_stand n s (omega arith) in
    let whole = stand.whole in
    subst InRow (sym told) (0, row_of_ranges 0 (cells n s) stand.filled (omega arith))

pub sets_counted : (n f s : ℕ) (rs : List (ℕ × ℕ)) (ways : List ℕ) → faults_fault n f ≡ None → rs ≡ ranges_from 0 (cells n s) → Ways ways (sizes rs) → get_or ways f 0 ≡ length (sets (cells n s) f)
unfolding sets
sets_counted n f s rs ways e told w =
    w f (faults_few n f e) ∙ ap (λ cs. length (amounts cs f)) (ap sizes told ∙ sizes_ranges 0 (cells n s)) ∙ sym (length-map (amounts (cells n s) f) (firsts 0 (cells n s)))

pub set_allocated : (n f s k : ℕ) (rs : List (ℕ × ℕ)) → rs ≡ ranges_from 0 (cells n s) → k < length (sets (cells n s) f) → allocated rs f k ≡ set_at (cells n s) f k
unfolding sets
set_allocated n f s k rs told l =
    let cs = cells n s in
    let long = length-map (amounts cs f) (firsts 0 cs) in
    ap (λ l. allocated l f k) told
    ∙ ap (λ l. members_of (ranges_from 0 cs) (get_or (amounts l f) k [])) (sizes_ranges 0 cs)
    ∙ members_of_ranges 0 cs (get_or (amounts cs f) k [])
    ∙ sym (get_or-map (firsts 0 cs) (amounts cs f) k [] [] (omega arith))

-- what refuses a set once the campaign is allowed

pub no_such_number : (n f s k long : ℕ) → faults_fault n f ≡ None → f ≤ long → length (sets (cells n s) f) ≤ k → set_fault n f s k long ≡ Some 16
no_such_number n f s k long e room high =
    (allowed n f e).past (cond (ltb long f) (Some 15) (cond (leb (length (sets (cells n s) f)) k) (Some 16) None)) ∙ rw (le-ltb long f room, le-leb (length (sets (cells n s) f)) k high)

pub no_fault : (n f s k long : ℕ) → faults_fault n f ≡ None → f ≤ long → k < length (sets (cells n s) f) → set_fault n f s k long ≡ None
no_fault n f s k long e room low =
    (allowed n f e).past (cond (ltb long f) (Some 15) (cond (leb (length (sets (cells n s) f)) k) (Some 16) None)) ∙ rw (le-ltb long f room, lt-leb (length (sets (cells n s) f)) k low)
