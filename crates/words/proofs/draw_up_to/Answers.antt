use Rattle.std.proofs.Common.{◌≡◌, ◌+◌, ◌%◌, ◌^◌, ◌<◌, Some, sym, ◌∙◌, arith, rules}
use Rattle.words.proofs.draw_up_to.Goals as goal
use Rattle.words.proofs.Drawing.{draw_taken}

pub returns-in-Some-clause-drawn : goal.returns-in-Some-clause-drawn
returns-in-Some-clause-drawn g c =
    let e : c.args.bound + 1 ≡ c.in-Some.many = omega (arith, c.in-Some.ensures) in
    draw_taken c.args.bound c.in_ok-word.word _ _ c.in_ok-word.ensures.taken ∙ (λ i. record { number = Some (c.in_ok-word.word % e i); rest = g.S.Source.coming c.take.new.self })

pub returns-in-None-clause-drawn : goal.returns-in-None-clause-drawn
returns-in-None-clause-drawn g c =
    let low : c.in_ok-word.word < 2 ^ 64 = search rules in
    let most : 2 ^ 64 ≡ c.args.bound + 1 = omega (arith, c.in-None.ensures, c.ranges.bound.fits) in
    let e : c.in_ok-word.word % (c.args.bound + 1) ≡ c.in_ok-word.word = rw (sym most) (omega arith) in
    draw_taken c.args.bound c.in_ok-word.word _ _ c.in_ok-word.ensures.taken ∙ (λ i. record { number = Some (e i); rest = g.S.Source.coming c.take.new.self })
