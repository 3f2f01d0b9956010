-- What the C functions of a sample promise: there is an answer of which the crate below promises what document 01
-- says, and the number and the value are that answer's.
use Rattle.std.specs.Prelude.{ℕ, ◌≡◌, List, [], Float}
use Rattle.rules.specs.declared.Opening.{Opening}
use Rattle.rules.specs.declared.Index.{Index}
use Rattle.rules.specs.Refusals.{Answer}
use Rattle.rules.specs.Calls.{Question, Reply, lent_after}
use Rattle.capture.specs.State.{Arrays}
use Rattle.capture.specs.Contract as side-capture
use Rattle.luma.specs.Contract as side-luma
use Rattle.sample_questions.specs.State.{State, Words}
use Rattle.sample_questions.specs.Contract.{Asked}
use Rattle.sample_questions.specs.WhileFeeding.{IndexPost}
use Rattle.sample_questions.specs.Passage.{RepeatsPost}
use Rattle.sample.specs.Contract.{OpenPost}
use Rattle.c_numbers.specs.Numbers.{number_of, value_of, place_of}
use Rattle.c_sample.specs.Replies.{index_into, reply_number, reply_value, three_of}

-- the opening, the number, the state after
pub record Opened (o : Opening) (number : ℕ) (after : State) : Type 0 where
  pub answer : Answer ℕ
  pub made : OpenPost o answer after
  pub numbered : number ≡ number_of answer

-- the capture's arrays before, the piece, the number, the value, the arrays after
pub record FedCapture (before : Arrays) (piece : List ℕ) (number value : ℕ) (after : Arrays) : Type 0 where
  pub answer : Answer ℕ
  pub made : side-capture.FeedPost before piece answer after
  pub numbered : number ≡ number_of answer
  pub valued : value ≡ value_of answer

-- the luma's arrays before, the piece, the number, the value, the arrays after
pub record FedLuma (luma sums bins picture piece : List ℕ) (number value : ℕ)
    (luma' sums' bins' picture' : List ℕ) : Type 0 where
  pub answer : Answer ℕ
  pub made : side-luma.FeedPost luma sums bins picture piece answer luma' sums' bins' picture'
  pub numbered : number ≡ number_of answer
  pub valued : value ≡ value_of answer

-- of a question that lends bytes: the words that it looks at, the question, the number, the value, the lent bytes
-- after
pub record Told (w : Words) (q : Question) (number value : ℕ) (after : List ℕ) : Type 0 where
  pub reply : Reply
  pub made : Asked w q reply
  pub numbered : number ≡ reply_number reply
  pub valued : value ≡ reply_value reply
  pub lent : after ≡ lent_after reply
  pub three : three_of reply ≡ []

-- of an index: the capture side's numbers, the luma words, the lent three before, the number, the place, the lent
-- three after
pub record IndexTold (numbers luma : List ℕ) (before : List Float) (number place : ℕ) (after : List Float) :
    Type 0 where
  pub answer : Answer Index
  pub made : IndexPost numbers luma answer
  pub numbered : number ≡ number_of answer
  pub placed : place ≡ place_of answer
  pub given : after ≡ index_into answer before

-- of a count of repeats: the luma words, a and b, the number, the value
pub record CountTold (luma : List ℕ) (a b number value : ℕ) : Type 0 where
  pub answer : Answer ℕ
  pub made : RepeatsPost luma a b answer
  pub numbered : number ≡ number_of answer
  pub valued : value ≡ value_of answer
