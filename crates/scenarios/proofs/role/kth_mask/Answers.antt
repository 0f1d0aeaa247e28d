use Rattle.std.proofs.Common.{◌≡◌, ◌+◌, ◌<◌, ◌∷◌, length, sym, refl, ap, ◌∙◌, arith}
use Rattle.std.specs.List.{slice_get}
use Rattle.scenarios.specs.Turns.{choices, roles_in}
use Rattle.scenarios.proofs.Subsets.{ones_roles, choices_from, choices_here, choices_past, nth_first, nth_next}
use Rattle.scenarios.proofs.role.kth_mask.Goals as goal
use Rattle.scenarios.proofs.role.kth_mask.Goals.{then-from-len+else-left-eq0, else-from-len}

pub loop-mask-init : goal.loop-mask-init
unfolding choices
loop-mask-init c = (omega arith, refl)

pub loop-mask-preserved : goal.loop-mask-preserved
loop-mask-preserved c =
    let m : c.loop-mask.mask < 16 = omega arith in
    let o = ones_roles c.loop-mask.mask m in (
      omega arith,
      elim c.if-from-len.branch [
        | then-from-len+else-left-eq0 w ↦
            let e : length (roles_in c.loop-mask.mask) ≡ c.args.len = sym o ∙ sym c.from.ensures ∙ w.if-from-len.true in
            ap (slice_get (choices_from c.args.len (c.loop-mask.mask + 1))) w.left-is
            ∙ sym (ap (λ xs. slice_get xs c.loop-mask.left) (choices_here c.args.len c.loop-mask.mask m e) ∙ nth_next c.loop-mask.mask (choices_from c.args.len (c.loop-mask.mask + 1)) c.loop-mask.left (omega (arith, w.if-left-eq0.false)))
            ∙ c.loop-mask.invariant.1
        | else-from-len w ↦
            ap (slice_get (choices_from c.args.len (c.loop-mask.mask + 1))) w.left-is
            ∙ sym (ap (λ xs. slice_get xs c.loop-mask.left) (choices_past c.args.len c.loop-mask.mask m (λ e. w.if-from-len.false (c.from.ensures ∙ o ∙ e))))
            ∙ c.loop-mask.invariant.1
      ],
    )

pub returns-then-left-eq0 : goal.returns-then-left-eq0
returns-then-left-eq0 c =
    let m : c.loop-mask.mask < 16 = omega arith in
    let e : length (roles_in c.loop-mask.mask) ≡ c.args.len = sym (ones_roles c.loop-mask.mask m) ∙ sym c.from.ensures ∙ c.if-from-len.true in
    sym (nth_first c.loop-mask.mask (choices_from c.args.len (c.loop-mask.mask + 1)))
    ∙ ap (slice_get (c.loop-mask.mask ∷ choices_from c.args.len (c.loop-mask.mask + 1))) (sym c.if-left-eq0.true)
    ∙ sym (ap (λ xs. slice_get xs c.loop-mask.left) (choices_here c.args.len c.loop-mask.mask m e))
    ∙ c.loop-mask.invariant.1
