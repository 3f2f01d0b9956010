-- What `open` promises, in terms of the rules and of what the lent arrays stand for. What the feeds promise is each
-- side's own `FeedPost`; what a question promises is `Asked` of `sample_questions`.
use Rattle.std.specs.Prelude.{ℕ, ◌≡◌, []}
use Rattle.rules.specs.declared.Opening.{Opening}
use Rattle.rules.specs.Refusals.{Answer}
use Rattle.rules.specs.Opening.{open_answer}
use Rattle.sample_questions.specs.State.{State, Means}

-- the opening, the answer, the state after
pub record OpenPost (o : Opening) (a : Answer ℕ) (after : State) : Type 0 where
  pub answer : a ≡ open_answer o
  pub means : Means after o [] []
