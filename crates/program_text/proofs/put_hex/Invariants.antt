-- `put_hex` meets its contract. The invariant: the digits of the bytes passed are at the front, and all else is
-- as it was.
use mathlib.Core.Path.{◌≡◌}
use lib.ListN.{take}
use Rattle.rules.specs.Seal.{over}
use Rattle.program_text.specs.Text.{hex_text}
use Rattle.program_text.proofs.put_hex.Given as goal

abbrev pub invariant-loop-i : goal.invariant-loop-i
invariant-loop-i l = l.text ≡ over (hex_text (take l.i l.bytes)) l.initial.text
