use Rattle.std.proofs.Common.{◌^◌, ◌<◌, ◌∙◌, ap, sum, arith, rules}
use Rattle.sets.proofs.Ways.{ways_summed}
use Rattle.sets.proofs.ways_of.Goals as goal

pub sum-requires-clause-fits : goal.sum-requires-clause-fits
sum-requires-clause-fits c =
    let e = ap sum c.iter.ensures.rest ∙ ways_summed c.args.rest.now c.args.len c.args.faults c.min.result c.min.ensures (omega arith) in
    let fits : sum c.iter.result.rest.now < 2 ^ 64 = omega arith in
    search rules

pub returns : goal.returns
returns c =
    let e = ap sum c.iter.ensures.rest ∙ ways_summed c.args.rest.now c.args.len c.args.faults c.min.result c.min.ensures (omega arith) in
    search rules
