use Rattle.std.proofs.Common.{take, sym, ap, ◌∙◌}
use Rattle.scenarios.specs.Roles.{letters}
use Rattle.scenarios.proofs.Subsets.{choice_is, choice_there}
use Rattle.scenarios.proofs.role.roles_from_rank.Goals as goal

pub returns : goal.returns
returns c =
    let r = choice_is c.args.len c.args.rank c.in-Some.mask (sym c.in-Some.ensures) in
    ap (λ k. letters (take k c.roles_of.result)) (sym r.0) ∙ c.roles_of.ensures ∙ r.1

pub unreachable-requires : goal.unreachable-requires
unreachable-requires c = choice_there c.args.len c.args.rank c.requires (sym c.in-None.ensures)
