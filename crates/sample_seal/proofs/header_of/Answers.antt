-- `header_of` meets its contract: the bits are taken where the header is made.
use Rattle.sample_seal.proofs.header_of.Goals as goal

pub returns : goal.returns
returns c = rw c.index_bits.ensures
