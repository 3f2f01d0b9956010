-- `put_shelf` meets its contract: each part stands behind the one before. Assumes nothing.
use native.Mathlib.Omega.{arith}
use borrow.Author.Rules.{rules}
use Rattle.shelf_writer.specs.Writing.{shelf_length}
use Rattle.shelf_writer.proofs.Steps.{shelf-put}
use Rattle.shelf_writer.proofs.put_shelf.Goals as goal

pub overflow_cast-n : goal.overflow_cast-n
unfolding shelf_length
overflow_cast-n c = omega arith

pub put32-requires : goal.put32-requires
unfolding shelf_length
put32-requires c = omega arith

pub put32-requires-2 : goal.put32-requires-2
unfolding shelf_length
put32-requires-2 c = omega arith

pub put_offsets-requires : goal.put_offsets-requires
unfolding shelf_length
put_offsets-requires c = record { fits_32_bits = omega arith; room = omega arith }

pub overflow_add-n : goal.overflow_add-n
unfolding shelf_length
overflow_add-n c = omega arith

pub put_text-requires : goal.put_text-requires
unfolding shelf_length
put_text-requires c = omega arith

pub returns : goal.returns
returns c = search (rules, shelf-put)
