-- The arrays are zeros of the sizes that their constants have.
use mathlib.Core.Path.{refl}
use Rattle.sample.proofs.owned.Sample.new.Goals as goal

pub returns : goal.returns
returns c = refl
