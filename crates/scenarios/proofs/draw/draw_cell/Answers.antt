use Rattle.std.proofs.Common.{◌-◌, length, ap, arith}
use Rattle.scenarios.specs.Cells.{total}
use Rattle.scenarios.proofs.Moving.{total_take}
use Rattle.scenarios.specs.Refinements.{sizes}
use Rattle.scenarios.specs.Roles.{number}
use Rattle.scenarios.proofs.Drawing.{led_below, led_drawn}
use Rattle.scenarios.proofs.draw.draw_cell.Goals as goal

pub apply_role-requires-clause-below : goal.apply_role-requires-clause-below
apply_role-requires-clause-below c =
    let ps = sizes c.args.cell.split in
    let drawn = c.draw_parts-drawn.ensures in
    let chosen = c.roles_from_rank-roles.ensures in
    led_below c.args.led c.args.cell.size ps c.args.digit c.if-not-led.false c.requires.whole c.requires.choice c.args.round c.draw_parts-drawn.result c.args.cell.start _ (rw c.sizes-parts.ensures at chosen) (rw c.sizes-parts.ensures at drawn) c.requires.below

pub returns : goal.returns
returns c =
    let ps = sizes c.args.cell.split in
    let drawn = c.draw_parts-drawn.ensures in
    let chosen = c.roles_from_rank-roles.ensures in
    led_drawn c.args.led c.args.cell.size ps c.args.digit c.if-not-led.false c.requires.whole c.requires.choice c.args.round c.draw_parts-drawn.result c.args.cell.start _ (rw c.sizes-parts.ensures at chosen) (rw c.sizes-parts.ensures at drawn)
    c.apply_role.result (number c.placed.result) c.placed.ensures c.apply_role.ensures

pub draw_parts-drawn-requires-clause-within : goal.draw_parts-drawn-requires-clause-within
draw_parts-drawn-requires-clause-within c =
    let whole = c.requires.whole.whole in
    let most = total_take (length c.sizes-parts.result.now - 1) c.sizes-parts.result.now in
    omega (arith, c.requires.within, ap total c.sizes-parts.ensures)
