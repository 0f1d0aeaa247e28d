-- Members before the others: a number that tells whether one is a member.
use Rattle.std.proofs.Common.{◌≡◌, ℕ, Bool, true, false, cond, ◌⊎◌, refl, inl, inr, arith}

abbrev pub mark : Bool → ℕ
mark b = cond b 0 1

abbrev pub Marked : Bool → Type 0
Marked b = ((b ≡ true) × (mark b ≡ 0)) ⊎ ((b ≡ false) × (mark b ≡ 1))

pub mark_is : (b : Bool) → Marked b
mark_is true = inl (refl, refl)
mark_is false = inr (refl, refl)

pub mark_tells : (a b : Bool) → mark a ≡ mark b → a ≡ b
mark_tells true true h = refl
mark_tells true false h = absurd (omega arith)
mark_tells false true h = absurd (omega arith)
mark_tells false false h = refl
