use Rattle.std.proofs.Common.{◌-◌, arith}
use Rattle.scenarios.proofs.Subsets.{choose_most}
use Rattle.scenarios.proofs.refinement.LocalRefinement.multiplicity.Goals as goal

pub overflow_mul-result : goal.overflow_mul-result
overflow_mul-result c = let h = choose_most (c.args.self.len - 1) in omega arith
