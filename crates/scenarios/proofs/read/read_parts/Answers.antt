use Rattle.std.proofs.Common.{◌-◌, length, sym, ap, ◌∙◌, subst, arith}
use Rattle.std.proofs.lemmas.List.FromFn.{length-map-range_with_len}
use Rattle.scenarios.specs.Letters.{role}
use Rattle.scenarios.specs.Roles.{number}
use Rattle.scenarios.specs.Readings.{PartsRead}
use Rattle.scenarios.proofs.ReadingBack.{read_none, read_more, parts_fall}
use Rattle.scenarios.proofs.read.read_parts.Goals as goal

pub loop-idx-init : goal.loop-idx-init
loop-idx-init c = read_none c.args.round.now c.args.start

pub read_member-requires-clause-below : goal.read_member-requires-clause-below
read_member-requires-clause-below c =
    let inv = c.loop-idx.invariant in
    let long = ap length inv.spells ∙ length-map-range_with_len (role c.args.round.now) c.args.start (c.loop-idx.idx - c.args.start) in
    omega (arith, c.requires)

pub returns-in_err-reading : goal.returns-in_err-reading
returns-in_err-reading c =
    subst (PartsRead c.args.round.now c.args.start c.args.len) (sym c.from_residual.ensures)
    (parts_fall c.args.round.now c.args.start c.args.len c.loop-idx.idx (number c.role_of.result) _ (omega arith) (omega arith) c.role_of.ensures c.loop-idx.invariant.spells c.in_err-reading.ensures)

pub loop-idx-preserved : goal.loop-idx-preserved
loop-idx-preserved c =
    read_more c.args.round.now c.args.start c.loop-idx.idx (number c.role_of.result) _ c.in_ok-reading.reading (omega arith) c.role_of.ensures c.loop-idx.invariant.spells c.in_ok-reading.ensures
