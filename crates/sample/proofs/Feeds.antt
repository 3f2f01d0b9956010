-- A feed of a sample in memory of its own is a call of demand 3's lists.
use Prim.Native.Nat.{ℕ}
use mathlib.Core.List.{List}
use Rattle.rules.specs.Refusals.{Answer}
use Rattle.rules.specs.Calls.{feed_capture, feed_luma, fed}
use Rattle.sample_questions.specs.State.{State}
use Rattle.sample.specs.Calls.{Ran, feeds_capture, feeds_luma}
use Rattle.sample.specs.Owned.{CaptureFed, LumaFed}

pub ran-capture : {st st' : State} {piece : List ℕ} {a : Answer ℕ} → CaptureFed st piece a st' →
    Ran st (feed_capture piece) (fed a) st'
ran-capture h = rw h.others (feeds_capture h.fed)

pub ran-luma : {st st' : State} {piece : List ℕ} {a : Answer ℕ} → LumaFed st piece a st' →
    Ran st (feed_luma piece) (fed a) st'
ran-luma h = rw h.others (feeds_luma h.fed)
