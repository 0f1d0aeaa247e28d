use Rattle.std.proofs.Common.{◌+◌, ◌^◌, ◌<◌, get_or, sym, ◌∙◌, subst, arith}
use Rattle.scenarios.proofs.Ending.{end_step}
use Rattle.scenarios.proofs.edge.add_local_boundaries.Goals as goal

pub overflow_add-end : goal.overflow_add-end
overflow_add-end c =
    let s = end_step c.args.mask c.args.start c.args.parts.now c.loop-part.part-index c.loop-part.end c.loop-part.out (omega arith) c.requires.filled c.requires.within c.loop-part.invariant.0 c.loop-part.invariant.1 c.loop-part.invariant.2 in
    omega arith

pub set_mask_range-out-requires : goal.set_mask_range-out-requires
set_mask_range-out-requires c =
    let s = end_step c.args.mask c.args.start c.args.parts.now c.loop-part.part-index c.loop-part.end c.loop-part.out (omega arith) c.requires.filled c.requires.within c.loop-part.invariant.0 c.loop-part.invariant.1 c.loop-part.invariant.2 in
    record { below = s.below; within = omega arith }

pub loop-part-preserved : goal.loop-part-preserved
loop-part-preserved c =
    let s = end_step c.args.mask c.args.start c.args.parts.now c.loop-part.part-index c.loop-part.end c.loop-part.out (omega arith) c.requires.filled c.requires.within c.loop-part.invariant.0 c.loop-part.invariant.1 c.loop-part.invariant.2 in
    (s.ended, c.set_mask_range-out.ensures ∙ s.more, subst (λ x. x < 2 ^ (c.loop-part.end + get_or c.args.parts.now c.loop-part.part-index 0)) (sym c.set_mask_range-out.ensures) s.still)
