use Rattle.std.proofs.Common.{refl, lit≤}
use Rattle.scenarios.specs.Masks.{bit}
use Rattle.scenarios.specs.Letters.{round_of}
use Rattle.scenarios.specs.Turns.{roles_in, choices, choose, subset, turns, weight, after, round}
use Rattle.words.specs.Draws.{draw}
use Rattle.sampling.specs.Floyd.{sample}
use Rattle.sets.specs.Sets.{sets}
use Rattle.worked.proofs.worked_stand.Goals as goal

pub returns : goal.returns
unfolding bit round_of roles_in choices choose subset turns weight after round draw sample sets
returns c = record {
  worked_totals = (refl, lit≤ tt, refl, refl);
  worked_ranks = (refl, refl, refl, refl, refl, refl, refl);
  worked_draws = (refl, λ a b c d. refl);
  worked_sets = (refl, refl);
  worked_terms = (refl, refl);
  worked_groups = (refl, refl, refl);
  answer = refl;
}
