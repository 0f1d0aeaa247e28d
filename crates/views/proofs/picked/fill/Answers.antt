use Rattle.std.proofs.Common.{◌<◌, ◌++◌, length, drop, sym, ap, ◌∙◌, arith, rules}
use Rattle.std.proofs.lemmas.List.{take_all}
use Rattle.views.specs.Groups.{picked}
use Rattle.views.proofs.Picking.{room, picked_here, passed_here}
use Rattle.views.proofs.picked.fill.Goals as goal
use Rattle.views.proofs.picked.fill.Goals.{then-mask_contains, else-mask_contains, then-mask_contains-2, else-mask_contains-2}

pub bounds-primary-p : goal.bounds-primary-p
bounds-primary-p g c =
    room c.args.round.primary _ _ _ _ _ c.loop-i-test.true c.loop-i.invariant.0 (sym c.mask_contains.ensures ∙ c.if-mask_contains.true) c.requires.first (omega arith)

pub overflow_add-p : goal.overflow_add-p
overflow_add-p g c =
    let below : c.loop-i.p < length c.loop-i.primary =
    room c.args.round.primary _ _ _ _ _ c.loop-i-test.true c.loop-i.invariant.0 (sym c.mask_contains.ensures ∙ c.if-mask_contains.true) c.requires.first (omega arith) in
    search rules

pub bounds-secondary-s : goal.bounds-secondary-s
bounds-secondary-s g c =
    room c.args.round.secondary _ _ _ _ _ c.loop-i-test.true c.loop-i.invariant.1 (sym c.mask_contains-in-loop-i.ensures ∙ c.if-mask_contains-2.true) c.requires.second (omega arith)

pub overflow_add-s : goal.overflow_add-s
overflow_add-s g c =
    let below : c.loop-i.s < length c.loop-i.secondary =
    room c.args.round.secondary _ _ _ _ _ c.loop-i-test.true c.loop-i.invariant.1 (sym c.mask_contains-in-loop-i.ensures ∙ c.if-mask_contains-2.true) c.requires.second (omega arith) in
    search rules

pub loop-i-preserved : goal.loop-i-preserved
loop-i-preserved g c = (
  elim c.if-mask_contains.branch [
    | then-mask_contains w ↦
        picked_here c.args.round.primary _ _ _ _ _ c.loop-i-test.true c.loop-i.invariant.0 w.index-names-i.result _ _ (sym c.mask_contains.ensures ∙ w.if-mask_contains.true)
        w.index-names-i.is c.requires.first w.p-is w.primary-is
    | else-mask_contains w ↦
        passed_here c.args.round.primary _ _ _ _ _ c.loop-i-test.true c.loop-i.invariant.0 _ _ (sym c.mask_contains.ensures ∙ w.if-mask_contains.false) w.p-is w.primary-is
  ],
  elim c.if-mask_contains-2.branch [
    | then-mask_contains-2 w ↦
        picked_here c.args.round.secondary _ _ _ _ _ c.loop-i-test.true c.loop-i.invariant.1 w.index-names-i-then-mask_contains-2.result _ _ (sym c.mask_contains-in-loop-i.ensures ∙ w.if-mask_contains-2.true)
        w.index-names-i-then-mask_contains-2.is c.requires.second w.s-is w.secondary-is
    | else-mask_contains-2 w ↦
        passed_here c.args.round.secondary _ _ _ _ _ c.loop-i-test.true c.loop-i.invariant.1 _ _ (sym c.mask_contains-in-loop-i.ensures ∙ w.if-mask_contains-2.false) w.s-is w.secondary-is
  ],
)

pub returns : goal.returns
returns g c =
    let all = take_all c.loop-i.i c.args.names.now c.loop-i-test.false in
    let p = ap (picked c.args.round.primary 0) all in
    let s = ap (picked c.args.round.secondary 0) all in
    record {
      first_size = c.loop-i.invariant.0.place ∙ ap length p;
      second_size = c.loop-i.invariant.1.place ∙ ap length s;
      first_written = c.loop-i.invariant.0.written ∙ ap (λ l. l ++ drop (length l) c.args.primary.now) p;
      second_written = c.loop-i.invariant.1.written ∙ ap (λ l. l ++ drop (length l) c.args.secondary.now) s;
    }
