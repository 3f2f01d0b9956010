-- `write_scene` meets its contract: four words stand behind the four before. Assumes nothing.
use Rattle.record_writer.proofs.Buffers.{scene-written}
use Rattle.record_writer.proofs.write_scene.Goals as goal

pub returns : goal.returns
returns c =
    scene-written c.args.at c.args.row c.args.buffer.now c.requires c.put_four.ensures
    c.put_four-2.ensures
