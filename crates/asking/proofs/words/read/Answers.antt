use Rattle.std.proofs.Common.{rules, Some}
use Rattle.asking.proofs.words.read.Goals as goal

pub returns : goal.returns
returns g c = (Some c.in_ok-word.word, rw c.in_ok-word.ensures.ok_part at c.next.ensures.steps, (c.parse.result, c.parse.ensures.value, search rules))
