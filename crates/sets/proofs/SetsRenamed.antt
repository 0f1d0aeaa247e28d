-- A set after a permutation of the participants.
use Rattle.std.proofs.Common.{◌≡◌, ℕ, ◌<◌, List, length, filter, sym, ap, ◌∙◌, arith}
use Rattle.std.specs.List.{range_with_len}
use Rattle.orders.specs.Members.{member}
use Rattle.orders.specs.Orders.{Renaming}
use Rattle.sets.specs.Sets.{SetOf}
use Rattle.sets.proofs.Members.{same_set, picked_upwards, member_picked}
use Rattle.sets.proofs.Rearranged.{same_count}

module _ {n : ℕ} (p : Renaming n) (s : List ℕ) where
  unfoldable pub renamed : List ℕ
  renamed = filter (λ i. member s (p.back i)) (range_with_len 0 n)

  pub member_renamed : (i : ℕ) → i < n → member renamed i ≡ member s (p.back i)
  unfolding renamed
  member_renamed i h = member_picked 0 n (λ k. member s (p.back k)) i (omega arith) (omega arith)

  pub set_renamed : (f : ℕ) → SetOf n f s → SetOf n f renamed
  unfolding renamed
  set_renamed f o = record { upwards = picked_upwards 0 n n _ (omega arith); exactly = same_count p (member s) ∙ ap length (sym whole) ∙ o.exactly }
    where
      whole : s ≡ filter (member s) (range_with_len 0 n)
      whole = same_set 0 n _ _ o.upwards (picked_upwards 0 n n _ (omega arith)) (λ i h k. sym (member_picked 0 n (member s) i h (omega arith)))
