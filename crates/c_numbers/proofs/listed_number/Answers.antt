-- A number of the table fits 32 bits. Assumes nothing.
use native.Mathlib.Omega.{arith}
use Rattle.rules.proofs.Laws.Listed.{listed_in}
use Rattle.c_numbers.proofs.listed_number.Goals as goal

pub overflow_cast-result : goal.overflow_cast-result
overflow_cast-result c = omega (arith, c.listed_number.ensures, listed_in c.args.number)
