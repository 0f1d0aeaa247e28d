use Rattle.asking.proofs.RoundParts.{round_read}
use Rattle.asking.proofs.round.RoundFromStr.from_str.Goals as goal

pub returns : goal.returns
returns c = round_read _ _ _ _ _ _ _ _ c.in_ok-leader.ensures c.in_ok-primary.ensures c.in_ok-number.ensures c.in_ok-number-2.ensures c.in_ok-number-3.ensures
