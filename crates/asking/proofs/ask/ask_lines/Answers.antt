use Rattle.std.proofs.Common.{string_bytes}
use Rattle.std.proofs.lemmas.Result.{on_ok_weaker}
use Rattle.asking.proofs.Answering.{so_far_none, so_far_more, so_far_all}
use Rattle.asking.proofs.ask.ask_lines.Goals as goal

pub loop-line-init : goal.loop-line-init
loop-line-init g c =
    rw (c.into_iter-line-iterator.ensures.into_iter_gives, c.in_ok-tallies.ensures) (
      c.requires.can,
      c.requires.ends,
      so_far_none g.Q.Question.word g.Q.Question.kinds g.Q.PartialEq.eq string_bytes (g.W.Write.contents c.args.out.now),
    )

pub loop-line-preserved : goal.loop-line-preserved
loop-line-preserved g c =
    let on = c.in-Some.ensures.goes.on c.loop-line.invariant.1 in
    let answered = c.in_ok-answer_line.ensures in
    let asked = rw c.as_str.ensures.value at answered.1 in (
      on.0,
      on.1,
      rw (c.in_ok-line.was, c.saturating_add-number.ensures)
          (so_far_more g.Q.Question.word g.Q.Question.kinds g.Q.PartialEq.eq string_bytes (g.W.Write.contents c.args.out.now) _ _ _ _ _ _ _ answered.0 c.loop-line.invariant.2 asked (rw c.saturating_add-number.ensures at answered.2)),
    )

pub returns : goal.returns
returns g c =
    let came = rw c.into_iter-line-iterator.ensures.into_iter_gives at c.loop-line.yielded_by in
    let last = rw c.in-None.is at c.next.ensures.steps in
    on_ok_weaker c.write_tallies.result (so_far_all g.Q.Question.word g.Q.Question.kinds g.Q.PartialEq.eq string_bytes (g.W.Write.contents c.args.out.now) g.L.Iterator.next_gives _ _ _ _ _ _ _ _ c.loop-line.invariant.2 came last)
    c.write_tallies.ensures
