use Rattle.std.proofs.Common.{◌≡◌, ◌≤◌, length, replicate, sym, ap, ◌∙◌, subst, inr, arith}
use Rattle.sampling.specs.Samples.{slot, Sampled, SamplingRefused}
use Rattle.sampling.proofs.Turns.{PartSampled, part_more, part_spent, part_all}
use Rattle.sampling.proofs.sample.sample_unique_indices.Goals as goal

pub loop-len-preserved : goal.loop-len-preserved
loop-len-preserved g c =
    let w = g.S.Source.coming c.args.source.now in
    let e = c.min-many.ensures in
    let fits : c.min-many.result ≤ c.args.total = omega arith in
    let i = c.loop-len.invariant in
    let t = c.in-Some.ensures.steps in
    let p = subst (λ b. PartSampled c.args.total c.min-many.result w c.args.ranks.now b (g.S.Source.coming c.loop-len.source) c.loop-len.ranks) (sym t.0.1.1) i.0 in (
      part_more c.args.total c.min-many.result w c.args.ranks.now fits c.if-ranks-many.false c.in-Some.bound _ _ p
          c.in-Ok.drawn _ c.in-Some.len c.next.new.self.iter.start c.pick-key.result (omega (arith, t, i.2)) (omega (arith, t)) c.in-Ok.ensures.drawn (omega (arith, t, i.1)) c.pick-key.ensures,
      (omega (arith, t, i.1)),
      (omega (arith, t, i.2)),
      (omega (arith, t, i.2)),
    )

pub returns-in-Err : goal.returns-in-Err
returns-in-Err g c =
    let w = g.S.Source.coming c.args.source.now in
    let xs = c.args.ranks.now in
    let e = c.min-many.ensures in
    let fits : c.min-many.result ≤ c.args.total = omega arith in
    let t = c.in-Some.ensures.steps in
    let p = subst (λ b. PartSampled c.args.total c.min-many.result w xs b (g.S.Source.coming c.loop-len.source) c.loop-len.ranks) (sym t.0.1.1) c.loop-len.invariant.0 in
    let d = c.in-Err.ensures.drawn in
    let s = part_spent c.args.total c.min-many.result w xs fits c.if-ranks-many.false c.in-Some.bound _ _ p (g.S.Source.coming c.draw_up_to.new.source) (omega (arith, t, c.loop-len.invariant.2)) d.1 in
    let zero : c.fill.new.self ≡ replicate (length xs) (slot 0) = c.fill.ensures.after (λ y h. λ i. record { key = h.0 i; value = h.1 i }) ∙ ap (λ k. replicate k (slot 0)) c.loop-len.auto.ranks in
    subst (λ m. SamplingRefused c.args.total m w xs c.in-Err.refusal (g.S.Source.coming c.draw_up_to.new.source) c.fill.new.self) e
    (inr (d.0, c.if-ranks-many.false, s.0, s.1, zero))

pub returns : goal.returns
returns g c =
    let w = g.S.Source.coming c.args.source.now in
    let xs = c.args.ranks.now in
    let e = c.min-many.ensures in
    let fits : c.min-many.result ≤ c.args.total = omega arith in
    let i = c.loop-len.invariant in
    let t = c.in-None.ensures.steps in
    let last : c.loop-len.len-iterator.iter.start ≡ c.args.total = omega (arith, t, i.2, i.3) in (
      e,
      subst (λ m. Sampled c.args.total m w xs (g.S.Source.coming c.loop-len.source) c.loop-len.ranks) e (part_all c.args.total c.min-many.result w xs fits c.if-ranks-many.false _ _ _ last i.0),
    )
