-- `run_index` is safe: of an index that is given the bits can be taken.
use Rattle.replay_main.proofs.run_index.Goals as goal

pub index_bits-requires : goal.index_bits-requires
index_bits-requires g c = (c.index.ensures.given _ c.in-Ok.is).value
