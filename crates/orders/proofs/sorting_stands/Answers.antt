use Rattle.std.proofs.Common.{refl}
use Rattle.orders.specs.Orders.{Lex}
use Rattle.orders.proofs.Sorting.{sorts}
use Rattle.orders.proofs.Lexical.{lex_order}
use Rattle.orders.proofs.sorting_stands.Goals as goal

pub returns : goal.returns
returns c = record { lex_orders = lex_order; sorts = sorts Lex lex_order; answer = refl }
