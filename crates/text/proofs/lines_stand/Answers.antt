use Rattle.std.proofs.Common.{refl}
use Rattle.text.proofs.Digits.{numeral_written, numeral_decimal}
use Rattle.text.proofs.Reading.{one_line, line_read, some_line}
use Rattle.text.proofs.lines_stand.Goals as goal

pub returns : goal.returns
returns c = record { lines_stand = (one_line, λ text l fit. (line_read text l fit).1, some_line, numeral_written, numeral_decimal); answer = refl }
