-- The first j bytes are put.
use mathlib.Core.Path.{◌≡◌}
use lib.ListN.{take}
use Rattle.words.specs.Written.{written}
use Rattle.record_text.proofs.put_text.Given as goal

abbrev pub invariant-loop-j : goal.invariant-loop-j
invariant-loop-j l = l.buffer ≡ written l.at (take l.j l.text) l.initial.buffer
