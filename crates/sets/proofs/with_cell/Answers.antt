use Rattle.std.proofs.Common.{◌≡◌, rules}
use Rattle.sets.proofs.Made.{made}
use Rattle.sets.specs.Ways.{with_one_more}
use Rattle.sets.proofs.with_cell.Goals as goal

pub returns : goal.returns
returns c k h = made _ _ (λ k y. y ≡ with_one_more c.args.rest.now c.args.len k) (λ k y q t. search rules) c.from_fn.result 64 c.from_fn.ensures.items k 0 h
