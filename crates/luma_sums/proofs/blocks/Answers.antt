use Rattle.luma_sums.proofs.blocks.Goals as goal

pub returns-in-32 : goal.returns-in-32
returns-in-32 g c = rw c.in-32.is c.whole.ensures

pub returns-in-16 : goal.returns-in-16
returns-in-16 g c = rw c.in-16.is c.whole-in-16.ensures

pub returns-in-8 : goal.returns-in-8
returns-in-8 g c = rw c.in-8.is c.whole-in-8.ensures
