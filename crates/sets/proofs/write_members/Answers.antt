use Rattle.std.proofs.Common.{◌≡◌, ◌+◌, [], ◌++◌, take, drop, set, sym, ap, ◌∙◌, arith}
use Rattle.std.specs.List.{range_with_len}
use Rattle.std.proofs.lemmas.List.{append-nil, drop_all, length-take}
use Rattle.std.proofs.lemmas.List.FromFn.{length-range_with_len}
use Rattle.table.proofs.Writes.{write_more}
use Rattle.sets.proofs.Rows.{counting_more}
use Rattle.sets.proofs.write_members.Goals as goal

pub loop-i-preserved : goal.loop-i-preserved
loop-i-preserved c =
    let s = c.args.start in
    let i = c.loop-i.i in
    let d = take c.args.taken c.args.members.now in
    ap (λ t. set t i (s + i)) c.loop-i.invariant
    ∙ write_more (range_with_len s i) d i (s + i) (length-range_with_len s i) (omega arith)
    ∙ ap (λ t. t ++ drop (i + 1) d) (sym (counting_more s i))

pub returns : goal.returns
returns c =
    let s = c.args.start in
    let d = take c.args.taken c.args.members.now in
    let long = length-take c.args.taken c.args.members.now in
    let all : c.loop-i.i ≡ c.args.taken = omega (arith, c.loop-i.auto.i-end, c.loop-i-test.false) in
    let none : drop c.loop-i.i d ≡ [] = drop_all c.loop-i.i d (omega arith) in
    ap (λ l. l ++ drop c.args.taken c.args.members.now) (c.loop-i.invariant ∙ ap (λ l. range_with_len s c.loop-i.i ++ l) none ∙ append-nil (range_with_len s c.loop-i.i) ∙ ap (range_with_len s) all)
