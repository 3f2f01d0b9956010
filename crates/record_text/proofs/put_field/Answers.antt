use borrow.Author.Rules.{rules}
use mathlib.Core.Path.{◌∙◌}
use lib.ListN.{length-set}
use Rattle.record_text.proofs.Texts.{field_room, field-written}
use Rattle.record_text.proofs.put_field.Goals as goal

pub put_text-requires : goal.put_text-requires
put_text-requires c = search (rules, field_room)

pub shape_of-buffer : goal.shape_of-buffer
shape_of-buffer c = c.put_text.auto.buffer ∙ length-set c.args.buffer.now c.args.at 32

pub returns : goal.returns
returns c =
    field-written c.args.buffer.now c.args.at c.args.n _ _ c.ranges.n.fits
    c.decimal-k.ensures.len c.decimal-k.ensures.digits c.requires _ _ c.put_text.ensures
