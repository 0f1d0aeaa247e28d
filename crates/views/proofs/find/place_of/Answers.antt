use Rattle.std.proofs.Common.{◌≡◌, ◌∙◌, rules}
use Rattle.std.specs.List.{position}
use Rattle.std.proofs.lemmas.Iterator.{YieldsList-from_slice}
use Rattle.std.proofs.lemmas.Iterator.Search.{position_from_yields_List}
use Rattle.views.specs.Routes.{same_value}
use Rattle.views.proofs.Holding.{same_value_is, first_place_is}
use Rattle.views.proofs.find.place_of.Goals as goal

pub returns : goal.returns
returns g c =
    let value = g.N.Key.meaning in
    let v = value c.args.sender.now in
    let first : c.position.result ≡ position (λ x. same_value (value x) v) c.args.names.now =
    position_from_yields_List (λ x. same_value (value x) v) _ _ c.position.result c.position.ensures.ran (YieldsList-from_slice _ c.iter.ensures.rest) (λ x b q k. (search (rules, k), same_value_is b (value x.now) v (search (rules, k)))) in
    first ∙ first_place_is value v c.args.names.now
