use Rattle.std.proofs.Common.{◌+◌, ◌-◌, ◌<◌, length, get_or, drop, Some, None, sym, refl, subst, arith}
use Rattle.std.specs.List.{flat_map}
use Rattle.scenarios.specs.Counting.{noted, same_place, zero_slot}
use Rattle.scenarios.specs.Slots.{Holds, Kept, afters}
use Rattle.scenarios.proofs.Discovery.{noted_upto, layer_turn, layer_all, layer_short}
use Rattle.scenarios.proofs.counting.note_layer.Goals as goal

pub returns-in_err-used : goal.returns-in_err-used
returns-in_err-used c ps xs h =
    let u = h.used in
    let n = c.args.participants.number in
    let m = c.args.depth in
    let from = c.args.from in
    let i = c.loop-i.i in
    let s = c.loop-i.invariant ps xs h in
    let t : length xs < length (noted_upto n m from (i + 1 - from) ps) =
    layer_turn n m from i c.loop-i.used ps (get_or c.loop-i.slots i zero_slot).key xs c.loop-i.slots c.note_nexts.new.slots None (omega arith) (omega arith) s refl
    (c.in_err-used.ensures (noted_upto n m from (i - from) ps) xs s) in
    let l = layer_short n m from (i + 1 - from) ps in
    let short : length xs < length (noted same_place ps (flat_map (afters n m) (drop from ps))) = omega arith in
    subst (λ r. Kept (noted same_place ps (flat_map (afters n m) (drop from ps))) xs r c.note_nexts.new.slots) (sym c.from_residual.ensures) short

pub loop-i-preserved : goal.loop-i-preserved
loop-i-preserved c ps xs h =
    let u = h.used in
    let n = c.args.participants.number in
    let m = c.args.depth in
    let from = c.args.from in
    let i = c.loop-i.i in
    let s = c.loop-i.invariant ps xs h in
    layer_turn n m from i c.loop-i.used ps (get_or c.loop-i.slots i zero_slot).key xs c.loop-i.slots c.note_nexts.new.slots (Some c.in_ok-used.used) (omega arith) (omega arith) s refl
    (c.in_ok-used.ensures (noted_upto n m from (i - from) ps) xs s)

pub returns : goal.returns
returns c ps xs h =
    let u = h.used in
    let from = c.args.from in
    let i = c.loop-i.i in
    subst (λ t. Holds t c.loop-i.used xs c.loop-i.slots) (layer_all c.args.participants.number c.args.depth from (i - from) ps (omega arith)) (c.loop-i.invariant ps xs h)
