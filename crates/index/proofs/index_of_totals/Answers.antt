-- `index_of_totals` meets its contract. Each count is below 2 ^ 52, so each cast loses nothing; what is returned is
-- the rule, operation by operation.
use native.Mathlib.Omega.{arith}
use mathlib.Core.Path.{◌≡◌, refl}
use lib.Ieee.{binary64, of_bits, of_int}
use Rattle.rules.specs.Index.{float, index_of, ic_of, ip_of, value_of}
use Rattle.index.proofs.Bound.{exact}
use Rattle.index.proofs.index_of_totals.Goals as goal

-- the code's 4.0 and 1.0
four : of_bits binary64 0x4010000000000000 ≡ float 4
unfolding of_bits of_int
four = refl

one : of_bits binary64 0x3FF0000000000000 ≡ float 1
unfolding of_bits of_int
one = refl

pub int_to_float-ic : goal.int_to_float-ic
int_to_float-ic c = exact (omega arith)

pub int_to_float-ic-2 : goal.int_to_float-ic-2
int_to_float-ic-2 c = exact (omega arith)

pub int_to_float-ip : goal.int_to_float-ip
int_to_float-ip c = exact (omega arith)

pub int_to_float-ip-2 : goal.int_to_float-ip-2
int_to_float-ip-2 c = exact (omega arith)

pub returns : goal.returns
unfolding index_of ic_of ip_of value_of
returns c = simp (four, one)
