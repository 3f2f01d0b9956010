-- How far `record_input::read_from` has come: what it read so far stands at the buffer's front, and the input had it
-- next.
use Rattle.std.proofs.Common.{length, ◌-◌, ◌≤◌, take}
use Rattle.std.specs.Io.KnownBytes.{Consumes}
use Rattle.record_input.proofs.read_from.Given as goal

abbrev pub invariant-loop-end : goal.invariant-loop-end
invariant-loop-end g l = record {
  in_range : l.end ≤ length l.input;
  bytes : Consumes (g.S.Read.remaining l.initial.source) (g.S.Read.remaining l.source) (take l.end l.input);
}

abbrev pub decreases-loop-end : goal.decreases-loop-end
decreases-loop-end g l = length l.initial.input - l.end
