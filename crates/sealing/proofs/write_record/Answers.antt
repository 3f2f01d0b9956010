-- `write_record` meets its contract: header, unit rows and scene rows stand one after the other.
use native.Mathlib.Omega.{arith}
use Rattle.rules.specs.Record.{record_length, scene_offset}
use Rattle.sealing.proofs.Rows.{record-written}
use Rattle.sealing.proofs.write_record.Goals as goal

pub write_header-requires : goal.write_header-requires
unfolding record_length
write_header-requires c = omega arith

pub write_units-requires : goal.write_units-requires
unfolding record_length scene_offset
write_units-requires c = omega arith

pub returns : goal.returns
returns c =
    let a = c.args in
    record-written a.table.now a.luma.now a.h a.buffer.now _ _ _ c.requires.0
    c.write_header.ensures c.write_units.ensures c.write_scenes.ensures
