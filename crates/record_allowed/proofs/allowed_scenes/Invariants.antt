use Prim.Native.Nat.{◌+◌, ◌-◌, ◌*◌, ◌≤◌}
use mathlib.Core.Path.{◌≡◌}
use lib.ListN.{drop}
use Rattle.rules.specs.Reading.{allowed_scenes}
use Rattle.record_allowed.proofs.allowed_scenes.Given as goal

abbrev pub invariant-loop-j : goal.invariant-loop-j
invariant-loop-j l =
    (l.from ≤ 4294967296 * l.j) × (allowed_scenes l.pictures l.n 0 (drop l.place l.bytes)
    ≡ allowed_scenes l.pictures (l.n - l.j) l.from (drop (l.place + 32 * l.j) l.bytes))
