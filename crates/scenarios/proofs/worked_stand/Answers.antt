use Rattle.std.proofs.Common.{refl, lit≤}
use Rattle.scenarios.specs.Masks.{bit}
use Rattle.scenarios.specs.Letters.{round_of}
use Rattle.scenarios.specs.Turns.{roles_in, choices, choose, subset, turns, weight, after, round}
use Rattle.scenarios.proofs.worked_stand.Goals as goal

pub returns : goal.returns
unfolding bit round_of roles_in choices choose subset turns weight after round
returns c = record { worked_totals = (refl, lit≤ tt, refl, refl); worked_ranks = (refl, refl, refl, refl, refl, refl, refl); answer = refl }
