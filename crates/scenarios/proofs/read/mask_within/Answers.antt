use Rattle.scenarios.proofs.RoundsBack.{within_far, within_near}
use Rattle.std.proofs.Common.{arith}
use Rattle.scenarios.proofs.read.mask_within.Goals as goal

pub returns-then-n-ge64 : goal.returns-then-n-ge64
returns-then-n-ge64 c = within_far c.args.mask c.args.n (omega arith) c.if-n-ge64.true

pub returns-else-n-ge64 : goal.returns-else-n-ge64
returns-else-n-ge64 c = within_near c.args.mask c.args.n
