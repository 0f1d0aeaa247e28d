use Rattle.std.proofs.Common.{refl}
use Rattle.campaigns.proofs.Dealing.{each_drawn_once}
use Rattle.campaigns.proofs.deals.deals_stand.Goals as goal

pub returns : goal.returns
returns c = record { each_drawn_once = each_drawn_once; answer = refl }
