use Rattle.std.proofs.Common.{◌+◌, ◌-◌, ◌∷◌, [], length, ap, sym, ◌∙◌, arith, rules, length-append}
use borrow.Rule.Slice.PartMut.{mid_of}
use Rattle.std.proofs.lemmas.Iterator.Consumers.{YieldsList-from_enumerate, YieldsList-turn}
use Rattle.std.proofs.lemmas.Iterator.Adapters.{YieldsList-from_rev_slice}
use Rattle.sets.specs.Ways.{ways_below}
use Rattle.sets.proofs.Ways.{owned_more}
use Rattle.sets.proofs.find_taken.Goals as goal

pub loop-taken-preserved : goal.loop-taken-preserved
loop-taken-preserved c =
    let ways = c.args.rest.now in
    let k = c.args.faults in
    let m = c.min.result in
    let so_far = c.loop-taken.yielded in (
      (tt, tt, search rules),
      tt,
      owned_more ways c.args.len k m c.min.ensures (omega arith) (length so_far) c.in-Some.taken c.in-Some.owned.now c.args.number c.loop-taken.left
          (YieldsList-turn (YieldsList-from_enumerate (YieldsList-from_rev_slice (mid_of (k - m) (k + 1 - (k - m)) ways) cc) cc) so_far _ c.loop-taken.yielded_by _ _ _ c.in-Some.is c.next.ensures.steps)
          c.if-left-owned.false c.loop-taken.invariant.2
          ∙ ap (λ n. ways_below ways k n + (c.loop-taken.left - c.in-Some.owned.now)) (sym (length-append so_far ((c.in-Some.taken, c.in-Some.owned) ∷ []))),
    )
