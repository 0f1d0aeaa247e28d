-- What `array::from_fn` makes by a closure that its calls leave as it is.
use Rattle.std.proofs.Common.{◌≡◌, ℕ, zero, suc, ◌+◌, ◌<◌, ◌≤◌, ◌⊎◌, List, get_or, sym, subst, inl, inr, arith}
use Rattle.std.specs.Array.{IsFromFnResult, IsFromFnResultFrom}
use Rattle.std.specs.Fn.{Called}
use Rattle.std.proofs.lemmas.Bool.{cases_eq}
use denote.Param.Members.{Mut}

module _ {F B : Type 0} (g : Mut F (ℕ × Unit {0}) B) (f : F) (P : ℕ → B → Type 0) (each : (k : ℕ) (y : B) (q : F) → Called g f (k, tt) y q → (q ≡ f) × P k y) where
  made_from : (ys : List B) (i n : ℕ) → IsFromFnResultFrom g f ys i n → (k : ℕ) (d : B) → i ≤ k → k < i + n → P k (get_or ys k d)
  made_from ys i zero r k d a b = absurd (omega arith)
  made_from ys i (suc n) r k d a b = go (λ h. made_from ys (i + 1) n (subst (λ q. IsFromFnResultFrom g q ys (i + 1) n) one.0 r.4) k d h (omega arith)) (cases_eq i k)
    where
      one : (r.0 ≡ f) × P i r.1
      one = each i r.1 r.0 r.3

      go : (i + 1 ≤ k → P k (get_or ys k d)) → (i ≡ k) ⊎ (i ≡ k → ⊥) → P k (get_or ys k d)
      go ih (inl e) = subst (λ j. P j (get_or ys j d)) e (subst (P i) (sym (r.2.1 d)) one.1)
      go ih (inr ne) = ih (omega arith)

  pub made : (ys : List B) (n : ℕ) → IsFromFnResult g f ys n → (k : ℕ) (d : B) → k < n → P k (get_or ys k d)
  made ys n r k d h = made_from ys 0 n r.each k d (omega arith) (omega arith)
