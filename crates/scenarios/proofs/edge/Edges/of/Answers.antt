use Rattle.std.proofs.Common.{◌≡◌, eqb, length, get_or, refl, ap, ◌∙◌, arith}
use Rattle.scenarios.specs.Steps.{first_split}
use Rattle.scenarios.proofs.Filling.{put_long, put_more, put_ends}
use Rattle.scenarios.proofs.Walkings.{range_small, begins_at, begins_turn, begins_stands}
use Rattle.scenarios.proofs.edge.Edges.of.Goals as goal

pub first-split-requires : goal.first-split-requires
first-split-requires c = range_small c.args.participants.number c.args.state.boundaries c.as_slice-start-items.result.now c.loop-start.start-index c.args.participants.within.0 c.args.participants.within.1 (c.as_slice-start-items.ensures.value ∙ c.ranges-ranges.ensures.listed) c.loop-start-test.true

pub loop-start-preserved : goal.loop-start-preserved
loop-start-preserved c =
    let ranges = c.as_slice-start-items.result.now in
    let i = c.loop-start.start-index in
    let long : length c.loop-start.cells.items ≡ i = put_long ranges c.loop-start.cells.items i (omega arith) c.loop-start.invariant in
    let range = get_or ranges i (0, 0) in
    rw c.push.ensures.items (put_more ranges c.loop-start.cells.items i (record { start = range.0; size = range.1; split = c.first-split.result }) (0, 0) c.loop-start-test.true c.loop-start.invariant refl
    (c.first-split.ensures ∙ ap (λ b. first_split b range.1) (c.is_empty.ensures ∙ ap (λ k. eqb k 0) long)))

pub invariant_of-result : goal.invariant_of-result
invariant_of-result c =
    let ranges = c.as_slice-start-items.result.now in
    record {
      stands = begins_stands c.args.participants c.args.state.boundaries ranges c.loop-start.cells.items (c.as_slice-start-items.ensures.value ∙ c.ranges-ranges.ensures.listed)
          (put_ends ranges c.loop-start.cells.items c.loop-start.start-index c.loop-start-test.false c.loop-start.invariant);
    }

pub returns : goal.returns
returns c =
    let ranges = c.as_slice-start-items.result.now in
    let listed = c.as_slice-start-items.ensures.value ∙ c.ranges-ranges.ensures.listed in
    let put = put_ends ranges c.loop-start.cells.items c.loop-start.start-index c.loop-start-test.false c.loop-start.invariant in
    record {
      of = refl;
      at = begins_at c.args.participants c.args.state.boundaries ranges c.loop-start.cells.items listed put;
      first = begins_turn c.args.participants c.args.state.boundaries ranges c.loop-start.cells.items listed put;
    }
