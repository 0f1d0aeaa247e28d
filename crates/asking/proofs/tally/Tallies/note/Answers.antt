use Rattle.std.proofs.Common.{◌<◌, length, rules, arith, ◌∙◌, refl}
use Rattle.std.proofs.lemmas.List.{take_all, drop_all}
use Rattle.asking.proofs.Noting.{noted_more}
use Rattle.asking.proofs.tally.Tallies.note.Goals.{then-eq, else-eq}
use Rattle.asking.proofs.tally.Tallies.note.Goals as goal

pub loop-of-preserved : goal.loop-of-preserved
loop-of-preserved g c =
    let within : c.loop-of.of-index < length c.deref_mut-of-items.result.now = omega arith in
    elim c.if-eq.branch [
      | then-eq w ↦ w.of-items-is ∙ noted_more g.Q.PartialEq.eq c.args.kind c.args.agrees _ _ _ c.of-item.result _ within c.loop-of.invariant c.of-item.is (rw (← c.eq.ensures, w.if-eq.true) w.with.ensures)
      | else-eq w ↦ w.of-items-is ∙ noted_more g.Q.PartialEq.eq c.args.kind c.args.agrees _ _ _ c.of-item.result _ within c.loop-of.invariant c.of-item.is (rw (← c.eq.ensures, w.if-eq.false) refl)
    ]

pub returns : goal.returns
returns g c = search (rules, take_all, drop_all)
