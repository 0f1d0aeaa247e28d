use Rattle.std.proofs.Common.{◌≡◌, sym, ◌∙◌}
use Rattle.table.proofs.Front.{added_there, added_full, added_at}
use Rattle.table.proofs.add.Goals as goal

pub returns-then-is_some : goal.returns-then-is_some
returns-then-is_some g c = added_there (λ e. g.K.Key.meaning e.key ≡ g.K.Key.meaning c.args.key) c.args.len c.min.result c.args.slots.now c.min.ensures (record { key = c.args.key; value = c.args.value }) c.find.result c.find.ensures (sym c.is_some.ensures ∙ c.if-is_some.true)

pub returns-then-len-slots : goal.returns-then-len-slots
returns-then-len-slots g c = added_full (λ e. g.K.Key.meaning e.key ≡ g.K.Key.meaning c.args.key) c.args.len c.min.result c.args.slots.now c.min.ensures (record { key = c.args.key; value = c.args.value }) c.find.result c.find.ensures (sym c.is_some.ensures ∙ c.if-is_some.false) c.if-len-slots.true

pub returns : goal.returns
returns g c = added_at (λ e. g.K.Key.meaning e.key ≡ g.K.Key.meaning c.args.key) c.args.len c.min.result c.args.slots.now c.min.ensures (record { key = c.args.key; value = c.args.value }) c.find.result c.find.ensures (sym c.is_some.ensures ∙ c.if-is_some.false) c.if-len-slots.false
