-- The rows up to r are counted.
use Rattle.std.proofs.Common.{◌-◌}
use Rattle.luma_rows.specs.Contract.{CountedRows}
use Rattle.luma_rows.proofs.count_rows.Given as goal

abbrev pub invariant-loop-r : goal.invariant-loop-r
invariant-loop-r l =
    CountedRows l.tiles.columns l.tiles.lines l.fn.s.line (l.r - l.fn.s.line) l.own l.picture l.initial.bins l.bins
