use Rattle.std.proofs.Common.{Ok, Err}
use Rattle.table.specs.declared.NotAdded.TheVariants.{There, Full}
use Rattle.scenarios.proofs.Slots.{note_step}
use Rattle.scenarios.proofs.counting.note_place.Goals as goal

pub returns-in-Ok : goal.returns-in-Ok
returns-in-Ok c ps xs h = note_step ps c.args.place 0 c.args.len xs _ _ (Ok c.in-Ok.at) h c.in-Ok.ensures

pub returns-in-Err-There : goal.returns-in-Err-There
returns-in-Err-There c ps xs h = note_step ps c.args.place 0 c.args.len xs c.args.slots.now c.add.new.slots (Err There) h (rw c.in-Err-There.field-0-is at c.in-Err-There.ensures)

pub returns-in-Err-Full : goal.returns-in-Err-Full
returns-in-Err-Full c ps xs h = note_step ps c.args.place 0 c.args.len xs c.args.slots.now c.add.new.slots (Err Full) h (rw c.in-Err-Full.field-0-is at c.in-Err-Full.ensures)
