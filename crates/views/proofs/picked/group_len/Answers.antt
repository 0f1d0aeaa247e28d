use Rattle.std.proofs.Common.{◌≡◌, length, ◌∙◌, rules, arith}
use Rattle.std.specs.List.{filter, range_with_len}
use Rattle.std.proofs.lemmas.Iterator.{YieldsList-from_range}
use Rattle.std.proofs.lemmas.Iterator.Consumers.{count_from_yields_List, YieldsList-from_filter}
use Rattle.scenarios.specs.Masks.{bit}
use Rattle.views.proofs.Picking.{length_picked}
use Rattle.views.proofs.picked.group_len.Goals as goal

pub returns : goal.returns
returns g c =
    let counted : c.count.result ≡ length (filter (bit c.args.mask) (range_with_len 0 (length c.args.names.now))) =
    count_from_yields_List _ c.count.result c.count.ensures.ran (YieldsList-from_filter _ (bit c.args.mask) (YieldsList-from_range 0 (length c.args.names.now) (length c.args.names.now) c.filter.ensures.source (omega arith)) c.filter.ensures.closure (λ x b q k. search rules)) in
    counted ∙ length_picked c.args.mask 0 c.args.names.now
