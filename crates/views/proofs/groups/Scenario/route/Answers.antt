use Rattle.std.proofs.Common.{map, arith}
use Rattle.std.proofs.lemmas.Grind.{common_steps}
use Rattle.views.specs.Routes.{RouteTold}
use Rattle.views.proofs.Routing.{route_agrees}
use Rattle.views.proofs.groups.Scenario.route.Goals as goal

pub returns-in-Some-clause-agrees : goal.returns-in-Some-clause-agrees
returns-in-Some-clause-agrees g c =
    let value = g.N.Key.meaning in
    let rounds = c.args.self.now.rounds.now in
    let sender = value c.args.sender.now in
    let names = c.args.names.now in
    let told : RouteTold rounds c.args.term c.args.view sender (map value names) c.route_in.result = grind (arith, common_steps) in
    route_agrees value sender names rounds c.args.term c.args.view c.route_in.result told
