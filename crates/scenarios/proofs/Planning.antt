-- A plan that breaks no rule.
use Rattle.std.proofs.Common.{◌≡◌, ℕ, ◌<◌, ◌≤◌, Bool, true, false, cond, eqb, ltb, leb, Some, None, Option, refl, arith}
use Rattle.std.proofs.lemmas.Bool.{ltb-false, leb-false, eqb-false}
use Rattle.scenarios.specs.Plans.{plan_fault}

-- a test that is not met leaves the next
passes : (b : Bool) (k : ℕ) (o : Option ℕ) → cond b (Some k) o ≡ None → (b ≡ false) × (o ≡ None)
passes true k o e = absurd (let z : ◌≡◌ {A = ℕ} 0 1 = cc in omega arith)
passes false k o e = (refl, e)

pub plan_sound : (n f R cap : ℕ) → plan_fault n f R cap ≡ None → (2 ≤ n) × (n ≤ 64) × (0 < f) × (f < n) × (0 < R) × (R ≤ 64) × (0 < cap)
plan_sound n f R cap e =
    let a = passes (ltb n 2) 1 _ e in
    let b = passes (ltb 64 n) 2 _ a.1 in
    let c = passes (eqb f 0) 3 _ b.1 in
    let d = passes (leb n f) 4 _ c.1 in
    let g = passes (eqb R 0) 5 _ d.1 in
    let h = passes (eqb cap 0) 6 _ g.1 in
    let i = passes (ltb 64 R) 7 _ h.1 in
    let f0 = eqb-false f 0 c.0 in
    let r0 = eqb-false R 0 g.0 in
    let c0 = eqb-false cap 0 h.0 in
    (ltb-false n 2 a.0, ltb-false 64 n b.0, omega arith, leb-false n f d.0, omega arith, ltb-false 64 R i.0, omega arith)
