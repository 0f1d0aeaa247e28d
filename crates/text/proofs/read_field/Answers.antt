use Rattle.std.proofs.Common.{◌+◌, rules}
use Rattle.text.proofs.Ends.{end_is}
use Rattle.text.proofs.read_field.Goals as goal

pub returns-in_err-length : goal.returns-in_err-length
returns-in_err-length g c held reads = let e = end_is c.args.text.now c.args.from c.args.end c.field_length.result c.field_length.ensures.length in search rules

pub returns-in_err-held : goal.returns-in_err-held
returns-in_err-held g c held reads =
    let e = end_is c.args.text.now c.args.from c.args.end c.field_length.result c.field_length.ensures.length in
    let h = reads (c.args.from + c.in_ok-length.length) c.read.result (record { shown = _; shows = search rules; says = record { met = c.read.ensures } }) in
    search rules

pub returns : goal.returns
returns g c held reads =
    let e = end_is c.args.text.now c.args.from c.args.end c.field_length.result c.field_length.ensures.length in
    let h = reads (c.args.from + c.in_ok-length.length) c.read.result (record { shown = _; shows = search rules; says = record { met = c.read.ensures } }) in
    search rules
