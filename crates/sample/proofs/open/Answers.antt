-- Both sides stand for the opening and for no bytes.
use mathlib.Core.Path.{refl}
use Rattle.sample.proofs.Opened.{number-none, number-some}
use Rattle.sample.proofs.open.Goals as goal

pub returns : goal.returns
returns c =
    let f = c.opening_fault-number.ensures in
    record {
      answer = c.open-2.ensures.answer;
      means = record {
        captured = c.«open».ensures c.args.o (number-none f.shown)
            (number-some f.shown) refl refl;
        drawn = c.open-2.ensures.means;
      };
    }
