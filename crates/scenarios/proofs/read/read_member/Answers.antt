use Rattle.std.proofs.Common.{◌≡◌, ◌/◌, ◌^◌, ◌≤◌, length, arith, rules}
use Rattle.scenarios.proofs.Subsets.{number_small}
use Rattle.scenarios.proofs.ReadingBack.{some_last, part_below, member_new, member_grows, member_falls}
use Rattle.scenarios.proofs.read.read_member.Goals as goal

pub overflow_sub-parts : goal.overflow_sub-parts
overflow_sub-parts c =
    let long : length c.args.reading.parts ≡ 5 = search rules in
    some_last c.args.reading long c.requires.whole c.place-place.result (omega (arith, number_small c.args.next)) c.if-above-eq1.true

pub overflow_add-parts : goal.overflow_add-parts
overflow_add-parts c =
    let long : length c.args.reading.parts ≡ 5 = search rules in
    let some = some_last c.args.reading long c.requires.whole c.place-place.result (omega (arith, number_small c.args.next)) c.if-above-eq1.true in
    let small = part_below c.args.reading long c.requires.whole c.requires.below some in
    search rules

pub returns-then-above-eq0 : goal.returns-then-above-eq0
returns-then-above-eq0 c =
    let long : length c.args.reading.parts ≡ 5 = search rules in
    rw (← c.place-place.ensures) (member_new c.args.reading long c.requires.whole c.place-place.result (omega (arith, number_small c.args.next)) c.if-above-eq0.true)

pub returns-then-above-eq1 : goal.returns-then-above-eq1
returns-then-above-eq1 c =
    let long : length c.args.reading.parts ≡ 5 = search rules in
    rw (← c.place-place.ensures) (member_grows c.args.reading long c.requires.whole c.place-place.result (omega (arith, number_small c.args.next)) c.if-above-eq1.true)

pub returns : goal.returns
returns c =
    let long : length c.args.reading.parts ≡ 5 = search rules in
    let small = number_small c.args.next in
    let high : 2 ≤ c.args.reading.roles / 2 ^ c.place-place.result = omega arith in
    rw (← c.place-place.ensures) (member_falls c.args.reading long c.requires.whole c.place-place.result (omega arith) high)
