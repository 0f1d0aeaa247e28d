use Rattle.std.proofs.Common.{◌^◌, ◌<◌, ◌≤◌, sym, ◌∙◌, arith, pow_mono}
use Rattle.std.proofs.lemmas.Bool.{le-ltb}
use Rattle.scenarios.proofs.Bits.{bit_shifted, bit_past}
use Rattle.scenarios.proofs.mask.mask_contains.Goals as goal

pub returns-then-idx-lt64 : goal.returns-then-idx-lt64
returns-then-idx-lt64 c = bit_shifted c.args.mask c.args.idx

pub returns-else-idx-lt64 : goal.returns-else-idx-lt64
returns-else-idx-lt64 c =
    let p : 2 ^ 64 ≤ 2 ^ c.args.idx = pow_mono c.if-idx-lt64.false in
    let h : c.args.mask < 2 ^ c.args.idx = omega arith in
    le-ltb c.args.idx 64 c.if-idx-lt64.false ∙ sym (bit_past c.args.mask c.args.idx h)
