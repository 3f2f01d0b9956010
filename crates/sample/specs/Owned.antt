-- What the calls on a sample in memory of its own promise: those of the crate's root, of its arrays together.
use Rattle.std.specs.Prelude.{ℕ, ◌≡◌, List, replicate}
use Rattle.rules.specs.Refusals.{Answer}
use Rattle.capture.specs.State.{arrays_of}
use Rattle.capture.specs.Contract as side-capture
use Rattle.luma.specs.Contract as side-luma
use Rattle.sample_questions.specs.State.{State, sample_of}
use Rattle.sample.specs.declared.owned.Sample.{Sample}

-- one that is not opened yet: its arrays are zeros, in their order and of their sizes
abbrev pub unopened : Sample
unopened =
    record {
      walk = replicate 16 0;
      kept = replicate 64 0;
      numbers = replicate 16 0;
      table = replicate 3750 0;
      luma = replicate 1600 0;
      sums = replicate 240 0;
      bins = replicate 720 0;
      picture = replicate 14104 0;
    }

-- the state that its arrays are
abbrev pub state_of : Sample → State
state_of s = sample_of (arrays_of s.walk s.kept s.numbers s.table) s.luma s.sums s.bins s.picture

-- a feed of the capture side, which changes that side alone
pub record CaptureFed (st : State) (piece : List ℕ) (a : Answer ℕ) (st' : State) : Type 0 where
  pub fed : side-capture.FeedPost st.capture piece a st'.capture
  pub others : st' ≡
      record { capture = st'.capture; luma = st.luma; sums = st.sums; bins = st.bins; picture = st.picture }

-- a feed of the luma side, likewise
pub record LumaFed (st : State) (piece : List ℕ) (a : Answer ℕ) (st' : State) : Type 0 where
  pub fed : side-luma.FeedPost st.luma st.sums st.bins st.picture piece a st'.luma st'.sums st'.bins st'.picture
  pub others : st' ≡
      record { capture = st.capture; luma = st'.luma; sums = st'.sums; bins = st'.bins; picture = st'.picture }
