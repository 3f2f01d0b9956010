-- `write_units` meets its contract. The loop's invariant: the rows of the units before j are written.
use Rattle.sealing.specs.Contract.{UnitsWritten}
use Rattle.sealing.proofs.write_units.Given as goal

abbrev pub invariant-loop-j : goal.invariant-loop-j
invariant-loop-j l =
    UnitsWritten l.table l.j l.initial.buffer l.buffer
