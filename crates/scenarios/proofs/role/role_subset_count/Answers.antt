use Rattle.std.proofs.Common.{◌≤◌, sym, ap, ◌∙◌, rules}
use Rattle.scenarios.specs.Turns.{choose}
use Rattle.scenarios.proofs.Subsets.{choose_past, choose_table}
use Rattle.scenarios.proofs.role.role_subset_count.Goals as goal

pub returns-in-0 : goal.returns-in-0
returns-in-0 c = sym (ap choose c.in-0.is ∙ choose_table.0)

pub returns-in-1 : goal.returns-in-1
returns-in-1 c = sym (ap choose c.in-1.is ∙ choose_table.1)

pub returns-in-2 : goal.returns-in-2
returns-in-2 c = sym (ap choose c.in-2.is ∙ choose_table.2)

pub returns-in-3 : goal.returns-in-3
returns-in-3 c = sym (ap choose c.in-3.is ∙ choose_table.3)

pub returns-in-4 : goal.returns-in-4
returns-in-4 c = sym (ap choose c.in-4.is ∙ choose_table.4)

pub returns-in_default : goal.returns-in_default
returns-in_default c = sym (let h : 5 ≤ c.args.len = search rules in choose_past c.args.len h)
