-- What a survey's lent arrays stand for: the walk's words and collected bytes, and the counts.
use Rattle.std.specs.Prelude.{ℕ, ◌≡◌, List, length}
use Rattle.rules.specs.Refusals.{none}
use Rattle.capture_steps.specs.declared.types.Walk.{Walk}
use Rattle.capture_steps.specs.Format.{format_fault, whole_cells}
use Rattle.capture_steps.specs.State as of-walk
use Rattle.survey_counts.specs.Table.{Table}

pub record State : Type 0 where
  pub walk : List ℕ
  pub kept : List ℕ
  pub counts : List ℕ

abbrev pub state_of : List ℕ → List ℕ → List ℕ → State
state_of walk kept counts = record { walk = walk; kept = kept; counts = counts }

-- the walk stands for the joined bytes, and the table, as long as they show no refusal, for their whole cells
pub record Surveys (kept t : List ℕ) (s : Walk) (joined : List ℕ) : Type 0 where
  pub walk : of-walk.Stands kept s joined
  pub room : length t ≡ 8192
  pub table : format_fault joined ≡ none → Table t (whole_cells joined)

-- as they lie in the lent arrays between calls
pub record Means (st : State) (joined : List ℕ) : Type 0 where
  pub room : length st.walk ≡ 16
  pub surveys : Surveys st.kept st.counts (of-walk.loaded st.walk) joined
