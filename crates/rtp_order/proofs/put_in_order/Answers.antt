use Rattle.std.proofs.Common.{ap, ◌∙◌}
use Rattle.rtp_order.specs.Order.{new_places}
use Rattle.rules.specs.Cuts.{sorted}
use Rattle.rtp_order.proofs.Order.{in_order}
use Rattle.rtp_order.proofs.Firsts.{new-ordered}
use Rattle.rtp_order.proofs.put_in_order.Goals as goal

pub returns : goal.returns
returns c =
    let k = c.keep.ensures in
    let s = c.sort_unstable.ensures in
    let e = in_order _ _ s.permutation s.sorted in
    let r = c.put_rows.ensures in
    record {
      few = k.few;
      front = k.front ∙ (ap (new_places 0) (e ∙ ap sorted r)
          ∙ new-ordered c.args.sequence.now c.requires.row_count.1);
    }
