use Rattle.record_text.proofs.Texts.{hex-room, hex-written}
use Rattle.record_text.proofs.put_hex.Goals as goal

pub put_text-requires : goal.put_text-requires
put_text-requires c =
    hex-room c.args.buffer.now c.args.at c.args.n _ _ _ c.ranges.n.fits c.hex-k.ensures.len
    c.hex-k.ensures.digits c.make_ascii_uppercase.ensures.after c.requires

pub returns : goal.returns
returns c =
    hex-written c.args.buffer.now c.args.at c.args.n _ _ _ c.ranges.n.fits c.hex-k.ensures.len
    c.hex-k.ensures.digits c.make_ascii_uppercase.ensures.after c.requires _ _ c.put_text.ensures
