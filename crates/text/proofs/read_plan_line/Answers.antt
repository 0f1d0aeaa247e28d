use Rattle.std.proofs.Common.{Ok, Err, rules}
use Rattle.refusals.specs.declared.Refusal.TheVariants.{PlanLine as Fault}
use Rattle.text.specs.declared.PlanLine.{PlanLine}
use Rattle.text.proofs.Reading.{sound}
use Rattle.text.proofs.read_plan_line.Goals as goal

pub returns-in_err-participants : goal.returns-in_err-participants
returns-in_err-participants c = sound c.args.text.now c.from_residual.result (search rules)

pub returns-in_err-faults : goal.returns-in_err-faults
returns-in_err-faults c = sound c.args.text.now c.from_residual-in_err-faults.result (search rules)

pub returns-in_err-rounds : goal.returns-in_err-rounds
returns-in_err-rounds c = sound c.args.text.now c.from_residual-in_err-rounds.result (search rules)

pub returns-in_err-mode : goal.returns-in_err-mode
returns-in_err-mode c = sound c.args.text.now c.from_residual-in_err-mode.result (search rules)

pub returns-in_err-cap : goal.returns-in_err-cap
returns-in_err-cap c = sound c.args.text.now c.from_residual-in_err-cap.result (search rules)

pub returns-then-at-text : goal.returns-then-at-text
returns-then-at-text c = sound c.args.text.now (Err (Fault c.in_ok-cap.at)) (search rules)

pub returns : goal.returns
returns c =
    let l : PlanLine = record { participants = c.in_ok-participants.participants; faults = c.in_ok-faults.faults; rounds = c.in_ok-rounds.rounds; mode = c.in_ok-mode.mode; cap = c.in_ok-cap.cap } in
    sound c.args.text.now (Ok l) (search rules)
