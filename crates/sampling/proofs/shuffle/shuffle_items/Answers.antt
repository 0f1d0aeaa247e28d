use Rattle.std.proofs.Common.{Err, sym, ap, ◌∙◌, subst, arith}
use Rattle.std.proofs.lemmas.Result.{err_from_is_err_and}
use Rattle.sampling.specs.Shuffles.{ShuffleTold}
use Rattle.words.proofs.Drawing.{draw_below}
use Rattle.sampling.proofs.Exchanging.{part_more, shuffle_spent}
use Rattle.sampling.proofs.shuffle.shuffle_items.Goals as goal

pub returns-in_err-j : goal.returns-in_err-j
returns-in_err-j g c =
    let r = err_from_is_err_and c.from_residual.result c.from_residual.ensures.1 in
    subst (λ x. ShuffleTold c.args.items.now (g.S.Source.coming c.args.source.now) x (g.S.Source.coming c.draw_up_to.new.source) c.loop-i.items) (sym (r.1 ∙ ap Err r.2))
    (shuffle_spent c.args.items.now (g.S.Source.coming c.args.source.now) c.loop-i.i (g.S.Source.coming c.loop-i.source) c.loop-i.items c.loop-i.invariant c.in_err-j.field-0.0 _ c.loop-i-test.true c.in_err-j.ensures.drawn)

pub swap-requires-clause-b_in_bounds : goal.swap-requires-clause-b_in_bounds
swap-requires-clause-b_in_bounds g c =
    let low = draw_below _ c.in_ok-j.j _ _ c.in_ok-j.ensures.drawn in
    omega (arith, c.loop-i.invariant.place, c.loop-i.invariant.long, c.loop-i-test.true)

pub loop-i-preserved : goal.loop-i-preserved
loop-i-preserved g c =
    part_more c.args.items.now (g.S.Source.coming c.args.source.now) c.loop-i.i _ _ c.loop-i.invariant c.in_ok-j.j _ _ (omega arith) c.in_ok-j.ensures.drawn
    c.swap.ensures.after c.swap.ensures.permutation c.swap.ensures.len
