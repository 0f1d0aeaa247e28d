use Rattle.std.proofs.Common.{string_bytes}
use Rattle.std.proofs.lemmas.Result.{on_ok_weaker}
use Rattle.asking.proofs.Reading.{lines_of}
use Rattle.asking.proofs.ask.ask_all.Goals as goal

pub returns : goal.returns
returns g c =
    on_ok_weaker c.ask_lines.result (λ all. (all.0, all.1, lines_of _ string_bytes g.R.Read.remaining c.args.input c.lines.result all.0 c.lines.ensures all.2, all.3, all.4))
    c.ask_lines.ensures
