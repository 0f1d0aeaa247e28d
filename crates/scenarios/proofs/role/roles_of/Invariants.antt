use Rattle.std.proofs.Common.{◌≡◌, ◌≤◌, length, take, filter}
use Rattle.std.specs.List.{range_with_len}
use Rattle.scenarios.specs.Masks.{bit}
use Rattle.scenarios.specs.Roles.{letters}
use Rattle.scenarios.proofs.role.roles_of.Given as goal

abbrev pub invariant-loop-role : goal.invariant-loop-role
invariant-loop-role l =
    (l.next ≤ l.role-index)
    × (length l.roles ≡ 4)
    × (letters (take l.next l.roles) ≡ filter (bit l.mask) (range_with_len 0 l.role-index))
