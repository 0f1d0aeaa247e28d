use Rattle.std.proofs.Common.{refl}
use Rattle.scenarios.proofs.turns_stand.Goals as goal
use Rattle.scenarios.proofs.Walks.{turns_fit, turns_apart, turns_begin, turns_walk}

pub returns : goal.returns
returns c = record { turns_fit = turns_fit; turns_apart = turns_apart; turns_begin = turns_begin; turns_walk = turns_walk; answer = refl }
