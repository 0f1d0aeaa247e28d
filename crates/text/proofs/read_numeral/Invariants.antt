use Rattle.std.proofs.Common.{◌≡◌, ◌^◌, ◌<◌, drop}
use Rattle.text.specs.Lines.{numeral}
use Rattle.text.proofs.Digits.{counted}
use Rattle.text.proofs.read_numeral.Given as goal

abbrev pub invariant-loop-b : goal.invariant-loop-b
invariant-loop-b l = (l.n < 2 ^ 32) × (counted l.n (drop l.b-index l.bytes) ≡ numeral l.bytes)
