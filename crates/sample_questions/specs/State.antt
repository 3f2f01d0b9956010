-- What a sample's lent arrays stand for: the capture side's four, and the luma side's words, sums, bins and picture.
use Rattle.std.specs.Prelude.{ℕ, List}
use Rattle.rules.specs.declared.Opening.{Opening}
use Rattle.capture.specs.State as side-capture
use Rattle.capture.specs.State.{Arrays}
use Rattle.luma_state.specs.State as side-luma

pub record State : Type 0 where
  pub capture : Arrays
  pub luma : List ℕ
  pub sums : List ℕ
  pub bins : List ℕ
  pub picture : List ℕ

abbrev pub sample_of : Arrays → List ℕ → List ℕ → List ℕ → List ℕ → State
sample_of capture luma sums bins picture =
    record { capture = capture; luma = luma; sums = sums; bins = bins; picture = picture }

-- what a question looks at: the capture side's arrays and the luma words
pub record Words : Type 0 where
  pub capture : Arrays
  pub luma : List ℕ

abbrev pub words_in : Arrays → List ℕ → Words
words_in capture luma = record { capture = capture; luma = luma }

abbrev pub words_of : State → Words
words_of st = record { capture = st.capture; luma = st.luma }

-- The state stands for the opening o, refused or not, and for the two joined strings.
-- Neither side looks at the other's
pub record Means (st : State) (o : Opening) (capture luma : List ℕ) : Type 0 where
  pub captured : side-capture.Means st.capture o capture
  pub drawn : side-luma.Means st.luma st.sums st.bins st.picture o luma
