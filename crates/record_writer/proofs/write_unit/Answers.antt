-- `write_unit` meets its contract: each word stands behind the one before. Assumes nothing.
use Rattle.record_writer.proofs.Buffers.{unit-written}
use Rattle.record_writer.proofs.write_unit.Goals as goal

pub returns : goal.returns
returns c =
    unit-written c.args.at c.args.row c.args.buffer.now c.requires c.put64.ensures
    c.put64-2.ensures c.put_four.ensures
