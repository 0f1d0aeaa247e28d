use Rattle.std.proofs.Common.{◌≡◌, ℕ, ◌+◌, replicate, sym, ap, ◌∙◌, arith}
use Rattle.scenarios.specs.Letters.{grown}
use Rattle.scenarios.specs.Roles.{number}
use Rattle.scenarios.specs.declared.round.RoundScenario.{RoundScenario}
use Rattle.scenarios.specs.declared.role.Role.{Role}
use Rattle.scenarios.proofs.Growing.{grown_part}
use Rattle.scenarios.proofs.draw.apply_role.Goals as goal

plain : (m : ℕ) → m ≡ m + 0
plain m = omega arith

at : (r : RoundScenario) (start len : ℕ) (x y : Role) → x ≡ y → grown r start (replicate len (number y)) ≡ grown r start (replicate len (number x))
at r start len x y e = ap (λ z. grown r start (replicate len (number z))) (sym e)

pub returns-in-Outside : goal.returns-in-Outside
returns-in-Outside c =
    grown_part c.args.round c.args.start c.args.len 0 _ _ (plain c.args.round.primary) (plain c.args.round.secondary)
    ∙ at c.args.round c.args.start c.args.len _ _ c.in-Outside.is

pub returns-in-Both : goal.returns-in-Both
returns-in-Both c =
    grown_part c.args.round c.args.start c.args.len 1 _ _ c.set_mask_range.ensures c.set_mask_range-in-Both.ensures
    ∙ at c.args.round c.args.start c.args.len _ _ c.in-Both.is

pub returns-in-Secondary : goal.returns-in-Secondary
returns-in-Secondary c =
    grown_part c.args.round c.args.start c.args.len 2 _ _ (plain c.args.round.primary) c.set_mask_range-in-Secondary.ensures
    ∙ at c.args.round c.args.start c.args.len _ _ c.in-Secondary.is

pub returns-in-Primary : goal.returns-in-Primary
returns-in-Primary c =
    grown_part c.args.round c.args.start c.args.len 3 _ _ c.set_mask_range-in-Primary.ensures (plain c.args.round.secondary)
    ∙ at c.args.round c.args.start c.args.len _ _ c.in-Primary.is
