-- What every question promises, in terms of the rules and of what the lent arrays stand for.
use Rattle.std.specs.Prelude.{ℕ, ◌%◌, ◌^◌, ◌≡◌, List}
use Rattle.rules.specs.declared.Opening.{Opening}
use Rattle.rules.specs.declared.Index.{Index}
use Rattle.rules.specs.Refusals.{fault, InTable}
use Rattle.rules.specs.Calls.{Question, Reply, answer_to, lent_to, lent_after, refusal_in}
use Rattle.index.specs.Counts.{IndexFrom}
use Rattle.capture.specs.declared.Summary.{Summary}
use Rattle.luma.specs.declared.Summary as of-luma
use Rattle.sample_questions.specs.State.{State, Words, words_of, Means}

-- a question that is refused left every lent byte as it was, and the refusal's number is one of the table's
pub record Leaves (q : Question) (r : Reply) : Type 0 where
  pub kept : (k p : ℕ) → refusal_in r ≡ fault k p → lent_after r ≡ lent_to q
  pub listed : (k p : ℕ) → refusal_in r ≡ fault k p → InTable k

-- what every question promises: the words that it looks at, the question, the reply. Words that stand for an opening
-- and for joined strings get the rule's reply; `refusals` is promised of any words, somebody else's too
pub record Asked (w : Words) (q : Question) (r : Reply) : Type 0 where
  pub rule : (st : State) (o : Opening) (fed_capture fed_luma : List ℕ) → words_of st ≡ w → Means st o fed_capture
      fed_luma →
      r ≡ answer_to o fed_capture fed_luma q
  pub refusals : Leaves q r

-- ---- of the functions within

-- the index that the counts of the two sides give
abbrev pub IndexIn : Summary → of-luma.Summary → Index → Type 0
IndexIn c l i = IndexFrom (l.fresh % 2 ^ 32) (l.pictures % 2 ^ 32) (c.packets % 2 ^ 32) (c.lost % 2 ^ 32) i
