use native.Mathlib.Omega.{arith}
use Rattle.record_writer.proofs.Buffers.{header-written}
use Rattle.rules.specs.Record.{record_length, scene_offset}
use Rattle.record_writer.proofs.write_header.Goals as goal

pub overflow_mul-scenes : goal.overflow_mul-scenes
unfolding record_length
overflow_mul-scenes c = omega arith

pub overflow_add-scenes : goal.overflow_add-scenes
unfolding record_length
overflow_add-scenes c = omega arith

pub overflow_add-size : goal.overflow_add-size
unfolding record_length
overflow_add-size c = omega arith

pub overflow_mul-size : goal.overflow_mul-size
unfolding record_length
overflow_mul-size c = omega arith

pub overflow_add-size-2 : goal.overflow_add-size-2
unfolding record_length
overflow_add-size-2 c = omega arith

pub returns : goal.returns
unfolding record_length scene_offset
returns c =
    header-written c.args.h c.args.buffer.now c.requires.0 c.put_four.ensures
    c.put_four-2.ensures c.put_four-3.ensures c.put32.ensures c.put32-2.ensures
    c.put64.ensures
