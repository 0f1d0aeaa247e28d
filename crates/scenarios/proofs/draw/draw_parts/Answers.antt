use Rattle.scenarios.proofs.Drawing.{left_more}
use Rattle.scenarios.proofs.draw.draw_parts.Goals as goal

pub loop-part-preserved : goal.loop-part-preserved
loop-part-preserved c =
    let steps = c.in-Some.ensures.steps in
    left_more _ _ _ _ _ _ _ _ _ _ steps.0 steps.1 c.loop-part.invariant c.apply_role-drawn.ensures
