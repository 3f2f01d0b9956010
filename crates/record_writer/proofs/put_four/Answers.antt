use Rattle.record_writer.proofs.Buffers.{four-written}
use Rattle.record_writer.proofs.put_four.Goals as goal

pub returns : goal.returns
returns c =
    four-written c.args.at c.args.a c.args.b c.args.c c.args.d
    c.args.s.now c.requires
    c.put32.ensures c.put32-2.ensures c.put32-3.ensures c.put32-4.ensures
