use Rattle.std.proofs.Common.{refl}
use Rattle.scenarios.proofs.Walks.{turns_fit, turns_apart}
use Rattle.scenarios.proofs.Rounding.{rounds_stand, rounds_found, rounds_apart}
use Rattle.scenarios.proofs.Neighbours.{repeats_canonical}
use Rattle.scenarios.proofs.Ranks.{ranks_correspond, cells_residual}
use Rattle.scenarios.proofs.ranks_stand.Goals as goal

pub returns : goal.returns
returns c = record {
  ranks_correspond = ranks_correspond turns_fit turns_apart rounds_stand rounds_found rounds_apart;
  cells_residual = cells_residual turns_fit rounds_stand;
  repeats_canonical = repeats_canonical;
  answer = refl;
}
