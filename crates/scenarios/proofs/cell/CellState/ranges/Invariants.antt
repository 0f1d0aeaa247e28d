use Rattle.std.proofs.Common.{◌≡◌, ◌+◌, ◌-◌, ◌≤◌, ◌++◌, map, length, drop}
use Rattle.std.specs.List.{range_with_len}
use Rattle.scenarios.specs.Masks.{bit}
use Rattle.scenarios.specs.Cells.{cut, cells, ranges_from}
use Rattle.scenarios.proofs.cell.CellState.ranges.Given as goal

-- what is listed, and behind it what the flags from idx on say, is the whole
abbrev pub invariant-loop-idx : goal.invariant-loop-idx
invariant-loop-idx l =
    (length l.ranges.items ≤ l.start)
    × (l.start ≤ l.idx)
    × (l.ranges.items ++ ranges_from l.start (cut (l.idx + 1 - l.start) (drop l.idx (map (bit l.self.boundaries) (range_with_len 0 (l.n - 1)))))
    ≡ ranges_from 0 (cells l.n l.self.boundaries))
