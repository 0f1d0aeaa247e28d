use Rattle.std.proofs.Common.{arith}
use Rattle.scenarios.proofs.Subsets.{collect_all}
use Rattle.scenarios.proofs.role.roles_of.Goals as goal

pub returns : goal.returns
returns c = collect_all c.args.mask c.loop-role.next c.loop-role.role-index c.loop-role.roles (omega arith) (omega arith) c.loop-role.invariant.2
