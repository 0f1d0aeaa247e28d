use Rattle.std.proofs.Common.{sym, ◌∙◌, subst, arith}
use Rattle.scenarios.specs.Readings.{RoundRead}
use Rattle.scenarios.proofs.TurnsBack.{end_within, no_leader, led_ranges, no_cells, round_read}
use Rattle.scenarios.proofs.read.read_round.Goals as goal

pub leading_range-requires : goal.leading_range-requires
leading_range-requires c =
    let legal = c.if-not-is_legal.ensures in
    record {
      few = omega (arith, legal.leads, c.args.participants.within.1);
      within = end_within c.args.participants.number c.args.state.boundaries c.args.round c.as_slice-ranges.result.now c.args.participants.within.0 c.args.participants.within.1 (c.as_slice-ranges.ensures.value ∙ c.ranges-cells.ensures.listed) legal;
    }

pub returns-in_err-leader_cell : goal.returns-in_err-leader_cell
returns-in_err-leader_cell c =
    subst (RoundRead c.args.participants.number c.args.state.boundaries c.args.round) (sym c.from_residual.ensures)
    (λ legal. no_leader c.args.participants.number c.args.state.boundaries c.args.round c.as_slice-ranges.result.now c.args.participants.within.0 c.args.participants.within.1 (c.as_slice-ranges.ensures.value ∙ c.ranges-cells.ensures.listed) legal c.in_err-leader_cell.ensures)

pub read_cells-requires : goal.read_cells-requires
read_cells-requires c =
    let found = c.in_ok-leader_cell.ensures in
    led_ranges c.args.participants.number c.args.state.boundaries c.args.round c.as_slice-ranges.result.now c.args.participants.within.0 c.args.participants.within.1 (c.as_slice-ranges.ensures.value ∙ c.ranges-cells.ensures.listed) c.if-not-is_legal.ensures c.in_ok-leader_cell.leader_cell found.0 found.1

pub returns-in_err-rank : goal.returns-in_err-rank
returns-in_err-rank c =
    subst (RoundRead c.args.participants.number c.args.state.boundaries c.args.round) (sym c.from_residual-in_err-rank.ensures)
    (λ legal. no_cells c.args.participants.number c.args.state.boundaries c.args.round c.as_slice-ranges.result.now c.args.participants.within.0 c.args.participants.within.1 (c.as_slice-ranges.ensures.value ∙ c.ranges-cells.ensures.listed) legal c.in_err-rank.ensures)

pub returns : goal.returns
returns c =
    let found = c.in_ok-leader_cell.ensures in
    round_read c.args.participants.number c.args.state.boundaries c.args.round c.as_slice-ranges.result.now c.args.participants.within.0 c.args.participants.within.1 (c.as_slice-ranges.ensures.value ∙ c.ranges-cells.ensures.listed) c.if-not-is_legal.ensures c.in_ok-leader_cell.leader_cell c.in_ok-rank.field-0 found.0 c.in_ok-rank.ensures
