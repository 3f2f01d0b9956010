-- `no_index` meets its contract: the code's 0.0 is the rule's. Assumes nothing.
use mathlib.Core.Path.{◌≡◌, refl}
use lib.Ieee.{binary64, of_bits, of_int}
use Rattle.rules.specs.Index.{float}
use Rattle.index.proofs.no_index.Goals as goal

zero : of_bits binary64 0 ≡ float 0
unfolding of_bits of_int
zero = refl

pub returns : goal.returns
returns c = simp zero
