-- Theorems on orders.
use Rattle.std.specs.Prelude.{List}
use Rattle.std.specs.List.Sorted.{IsPermutation}
use Rattle.orders.specs.Orders.{Order, Sorted, Lex, ExactlyOne}

abbrev pub LexOrders : Type 0
LexOrders = Order Lex

-- every list has exactly one sorted rearrangement
abbrev pub Sorts : {X : Type 0} → (X → X → Type 0) → Type 0
Sorts {X} R = (xs : List X) → ExactlyOne (λ ys. IsPermutation xs ys × Sorted R ys)
