use Rattle.std.proofs.Common.{◌-◌}
use Rattle.scenarios.specs.Readings.{roles_along, Reads}
use Rattle.scenarios.proofs.read.read_parts.Given as goal

abbrev pub invariant-loop-idx : goal.invariant-loop-idx
invariant-loop-idx l = Reads l.reading (roles_along l.round l.start (l.idx - l.start))
