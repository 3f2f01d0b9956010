use Rattle.luma_state.proofs.Kept.{stored}
use Rattle.luma_state.proofs.stored.store.Goals as goal

pub returns : goal.returns
returns c = stored c.args.luma.now c.args.s
