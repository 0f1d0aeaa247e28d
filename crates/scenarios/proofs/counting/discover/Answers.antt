use Rattle.std.proofs.Common.{◌≡◌, suc, ◌+◌, ◌-◌, ◌<◌, [], length, Some, None, sym, ap, ◌∙◌, subst, arith}
use Rattle.scenarios.specs.Counting.{places_before, places}
use Rattle.scenarios.specs.Slots.{Holds, Kept}
use Rattle.scenarios.proofs.Slots.{holds_none}
use Rattle.scenarios.proofs.Discovery.{depth_turn, places_within}
use Rattle.scenarios.proofs.counting.discover.Goals as goal

pub returns-in_err-len : goal.returns-in_err-len
returns-in_err-len c =
    let xs = c.args.slots.now in
    let n = c.args.participants.number in
    let b : length xs < length (places_before n 1) = c.in_err-len.ensures [] xs (holds_none xs) in
    let l = places_within n 1 (suc c.args.rounds) (omega arith) in
    let short : length xs < length (places n c.args.rounds) = omega arith in
    subst (λ r. Kept (places n c.args.rounds) xs r c.note_place.new.slots) (sym c.from_residual.ensures) short

pub note_layer-requires : goal.note_layer-requires
note_layer-requires c =
    let xs = c.args.slots.now in
    let n = c.args.participants.number in
    let m = c.loop-depth.depth in
    let h : Holds (places_before n m) c.loop-depth.len xs c.loop-depth.slots = c.loop-depth.invariant.1 xs (c.in_ok-len.ensures [] xs (holds_none xs)) in
    let u = h.used in
    let f = h.fits in
    let e = c.loop-depth.invariant.0 in
    let l = places_within n (m - 1) m (omega arith) in
    ((omega arith), f)

pub returns-in_err-len-2 : goal.returns-in_err-len-2
returns-in_err-len-2 c =
    let xs = c.args.slots.now in
    let n = c.args.participants.number in
    let m = c.loop-depth.depth in
    let low = c.loop-depth.auto.depth in
    let h : Holds (places_before n m) c.loop-depth.len xs c.loop-depth.slots = c.loop-depth.invariant.1 xs (c.in_ok-len.ensures [] xs (holds_none xs)) in
    let b : length xs < length (places_before n (m + 1)) =
    depth_turn n (m - 1) m c.loop-depth.from xs c.note_layer.new.slots None (omega (arith, low)) c.loop-depth.invariant.0 (c.in_err-len-2.ensures (places_before n m) xs h) in
    let l = places_within n (m + 1) (suc c.args.rounds) (let t = c.loop-depth-test.true in omega arith) in
    let short : length xs < length (places n c.args.rounds) = omega arith in
    subst (λ r. Kept (places n c.args.rounds) xs r c.note_layer.new.slots) (sym c.from_residual-in_err-len-2.ensures) short

pub loop-depth-preserved : goal.loop-depth-preserved
loop-depth-preserved c =
    let xs = c.args.slots.now in
    let n = c.args.participants.number in
    let m = c.loop-depth.depth in
    let low = c.loop-depth.auto.depth in
    let h : Holds (places_before n m) c.loop-depth.len xs c.loop-depth.slots = c.loop-depth.invariant.1 xs (c.in_ok-len.ensures [] xs (holds_none xs)) in
    let o : m ≡ m + 1 - 1 = omega arith in (
      sym h.used ∙ ap (λ k. length (places_before n k)) o,
      λ ys g. depth_turn n (m - 1) m c.loop-depth.from ys c.note_layer.new.slots (Some c.in_ok-len-2.len) (omega (arith, low)) c.loop-depth.invariant.0 (c.in_ok-len-2.ensures (places_before n m) ys (c.loop-depth.invariant.1 ys g)),
      (let t = c.loop-depth-test.true in omega arith),
    )

pub returns-in_ok-len : goal.returns-in_ok-len
returns-in_ok-len c =
    let xs = c.args.slots.now in
    let n = c.args.participants.number in
    let e : c.loop-depth.depth ≡ suc c.args.rounds = (let t = c.loop-depth-test.false in let most = c.loop-depth.invariant.2 in omega arith) in
    subst (λ m. Holds (places_before n m) c.loop-depth.len xs c.loop-depth.slots) e (c.loop-depth.invariant.1 xs (c.in_ok-len.ensures [] xs (holds_none xs)))

pub returns-in_ok-len-2 : goal.returns-in_ok-len-2
returns-in_ok-len-2 c =
    let xs = c.args.slots.now in
    let n = c.args.participants.number in
    let m = c.loop-depth.depth in
    let low = c.loop-depth.auto.depth in
    let h : Holds (places_before n m) c.loop-depth.len xs c.loop-depth.slots = c.loop-depth.invariant.1 xs (c.in_ok-len.ensures [] xs (holds_none xs)) in
    let k : Holds (places_before n (m + 1)) c.in_ok-len-2.len xs c.note_layer.new.slots =
    depth_turn n (m - 1) m c.loop-depth.from xs c.note_layer.new.slots (Some c.in_ok-len-2.len) (omega (arith, low)) c.loop-depth.invariant.0 (c.in_ok-len-2.ensures (places_before n m) xs h) in
    let e : m + 1 ≡ suc c.args.rounds = (let t = c.loop-depth-test.true in omega arith) in
    subst (λ j. Holds (places_before n j) c.in_ok-len-2.len xs c.note_layer.new.slots) e k
