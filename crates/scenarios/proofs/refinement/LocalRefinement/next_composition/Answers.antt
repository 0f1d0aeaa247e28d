use Rattle.std.proofs.Common.{◌≡◌, length, arith, rules}
use Rattle.scenarios.proofs.Moving.{moved, opened}
use Rattle.scenarios.proofs.refinement.LocalRefinement.next_composition.Goals as goal

pub returns-then-j-gt0 : goal.returns-then-j-gt0
returns-then-j-gt0 c =
    let long : length c.args.self.parts ≡ 5 = search rules in
    (moved c.args.self.parts long c.args.self.len c.requires.few c.in_ok-j.j c.requires.filled c.in_ok-j.ensures c.if-j-gt0.true, c.requires.few)

pub returns-then-len-lt4 : goal.returns-then-len-lt4
returns-then-len-lt4 c =
    let long : length c.args.self.parts ≡ 5 = search rules in
    (opened c.args.self.parts long c.args.self.len c.requires.few c.in_ok-j.j (omega arith) c.requires.filled c.in_ok-j.ensures (omega arith), omega arith)
