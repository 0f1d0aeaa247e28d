use Rattle.std.proofs.Common.{refl}
use Rattle.text.proofs.Reading.{read_line}
use Rattle.text.proofs.lines_worked_stand.Goals as goal

pub returns : goal.returns
returns c = record { lines_worked = (read_line _ _ refl, read_line _ _ refl, refl, refl, refl, refl, refl, refl, refl, refl, refl); answer = refl }
