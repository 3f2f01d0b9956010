use Prim.Native.Nat.{◌+◌, ◌-◌, ◌*◌}
use mathlib.Core.Path.{◌≡◌}
use lib.ListN.{drop}
use Rattle.rules.specs.Reading.{allowed_units}
use Rattle.record_allowed.proofs.allowed_units.Given as goal

abbrev pub invariant-loop-j : goal.invariant-loop-j
invariant-loop-j l =
    allowed_units l.known l.n (drop 64 l.bytes)
    ≡ allowed_units l.known (l.n - l.j) (drop (64 + 32 * l.j) l.bytes)
