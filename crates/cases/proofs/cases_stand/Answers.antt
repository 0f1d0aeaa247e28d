use Rattle.std.proofs.Common.{refl}
use Rattle.cases.proofs.Standing.{each_case_once}
use Rattle.cases.proofs.cases_stand.Goals as goal

pub returns : goal.returns
returns c = record { each_case_once = each_case_once; answer = refl }
