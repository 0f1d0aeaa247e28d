use Rattle.std.proofs.Common.{refl}
use Rattle.scenarios.proofs.rounds_stand.Goals as goal
use Rattle.scenarios.proofs.Rounding.{rounds_stand, rounds_found, rounds_apart}

pub returns : goal.returns
returns c = record { rounds_stand = rounds_stand; rounds_found = rounds_found; rounds_apart = rounds_apart; answer = refl }
