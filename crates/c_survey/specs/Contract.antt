-- What the C functions of a survey promise: there is an answer of which `survey` promises what document 02 says, and
-- the numbers are that answer's.
use Rattle.std.specs.Prelude.{ℕ, ◌≡◌, List, Ok, Err}
use Rattle.rules.specs.declared.Most.{Most}
use Rattle.rules.specs.Refusals.{Answer}
use Rattle.survey.specs.State.{State}
use Rattle.survey.specs.Contract.{FeedPost, AskPost}
use Rattle.c_numbers.specs.Numbers.{number_of, value_of}

-- what a question answers, which has a third number: how many packets the identifier has
abbrev pub most_value : Answer Most → ℕ
most_value (Ok x) = x.identifier
most_value (Err e) = e.place

abbrev pub most_count : Answer Most → ℕ
most_count (Ok x) = x.count
most_count (Err e) = 0

-- the survey's state before, the piece, the number, the value, the state after
pub record SurveyFed (before : State) (piece : List ℕ) (number value : ℕ) (after : State) : Type 0 where
  pub answer : Answer ℕ
  pub made : FeedPost before piece answer after
  pub numbered : number ≡ number_of answer
  pub valued : value ≡ value_of answer

-- the survey's words and counts, the number, the value, the count
pub record SurveyTold (walk counts : List ℕ) (number value count : ℕ) : Type 0 where
  pub answer : Answer Most
  pub made : AskPost walk counts answer
  pub numbered : number ≡ number_of answer
  pub valued : value ≡ most_value answer
  pub counted : count ≡ most_count answer
