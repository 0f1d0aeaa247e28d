use Rattle.std.proofs.Common.{◌-◌, ◌<◌, refl, arith}
use Rattle.scenarios.specs.Counting.{places}
use Rattle.scenarios.proofs.Settling.{settled_back, settle_turn, key_count}
use Rattle.scenarios.proofs.counting.settle.Goals as goal

pub loop-i-preserved : goal.loop-i-preserved
loop-i-preserved c xs h =
    let n = c.args.participants.number in
    let R = c.args.rounds in
    let len = c.args.len in
    let i = c.loop-i.i in
    let ys = c.loop-i.slots in
    let s = c.loop-i.invariant xs h in
    let pos : 0 < i = omega arith in
    settle_turn n R (places n R) len i c.in_ok-slots.field-0 xs ys s pos (omega arith)
    (c.in_ok-slots.ensures xs (i - 1) (settled_back n R (places n R) len i xs ys s pos) (omega arith) refl)

pub returns-in_err-slots : goal.returns-in_err-slots
returns-in_err-slots c xs h =
    let n = c.args.participants.number in
    let R = c.args.rounds in
    let len = c.args.len in
    let i = c.loop-i.i in
    let ys = c.loop-i.slots in
    let s = c.loop-i.invariant xs h in
    let pos : 0 < i = omega arith in
    let b = c.in_err-slots.ensures xs (i - 1) (settled_back n R (places n R) len i xs ys s pos) (omega arith) refl in
    let l = key_count n R len (i - 1) xs ys c.args.participants.within.0 s.holds (omega arith) in
    rw c.from_residual.ensures (omega arith)
