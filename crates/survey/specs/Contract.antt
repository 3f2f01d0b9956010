-- What each call promises, in terms of the rules and of what the lent arrays stand for.
use Rattle.std.specs.Prelude.{ℕ, ◌<◌, ◌≡◌, List, [], ◌++◌, length, Ok, Err}
use Rattle.rules.specs.declared.Most.{Most}
use Rattle.rules.specs.Refusals.{Answer, InTable}
use Rattle.rules.specs.Survey.{identifiers, survey_feed_answer, survey_answer}
use Rattle.capture_steps.specs.declared.types.Walk.{Walk}
use Rattle.capture_steps.specs.State.{Stands}
use Rattle.survey.specs.State.{State, state_of, Surveys, Means}

-- `open`
abbrev pub Opened : State → Type 0
Opened after = Means after []

-- a refusal's number is one of the table's; of any state, one that somebody else wrote on too
abbrev pub ListedFeed : Answer ℕ → Type 0
ListedFeed (Ok n) = Unit {0}
ListedFeed (Err e) = InTable e.number

-- `feed`: the state before, the piece, the answer, the state after
pub record FeedPost (before : State) (piece : List ℕ) (a : Answer ℕ) (after : State) : Type 0 where
  pub means : (joined : List ℕ) → Means before joined → Means after (joined ++ piece)
  pub answer : (joined : List ℕ) → Means before joined → a ≡ survey_feed_answer (joined ++ piece) (length piece)
  pub listed : ListedFeed a

-- of any state: what is answered is an identifier with some packets, or a number of the table
abbrev pub Sensible : Answer Most → Type 0
Sensible (Ok x) = (x.identifier < identifiers) × (0 < x.count)
Sensible (Err e) = InTable e.number

-- `ask`: the walk's words, the counts, the answer. It changes nothing
pub record AskPost (walk counts : List ℕ) (a : Answer Most) : Type 0 where
  pub rule : (kept joined : List ℕ) → Means (state_of walk kept counts) joined → a ≡ survey_answer joined
  pub sensible : Sensible a

-- ---- of the functions within

-- by the bytes of chunk
abbrev pub Goes : List ℕ → List ℕ → Walk → List ℕ → List ℕ → List ℕ → Walk → Type 0
Goes kept t s chunk kept' t' r = (joined : List ℕ) → Surveys kept t s joined → Surveys kept' t' r (joined ++ chunk)

-- what a feed of n bytes answers, from the walk behind it
pub record Replies (s : Walk) (n : ℕ) (a : Answer ℕ) : Type 0 where
  pub rule : (kept joined : List ℕ) → Stands kept s joined → a ≡ survey_feed_answer joined n
  pub listed : ListedFeed a
