-- Demand 3, as one statement about a whole list of calls. After one opening, refused or not, every list of capture
-- feeds, luma feeds and questions comes to what the rules give for the opening and the joined strings alone, each call
-- getting the state that the call before it left.
use Rattle.std.specs.Prelude.{ℕ, ◌+◌, ◌^◌, ◌≤◌, ◌<◌, ◌≡◌, List, [], ◌∷◌, ◌++◌, get_or}
use Rattle.rules.specs.declared.Opening.{Opening}
use Rattle.rules.specs.Refusals.{Answer, none}
use Rattle.rules.specs.Opening.{open_answer}
use Rattle.rules.specs.Pictures.{picture_count, luma_fault}
use Rattle.rules.specs.Histograms.{histograms}
use Rattle.rules.specs.Seal.{reduced}
use Rattle.rules.specs.Calls.{Question, Reply, Call, feed_capture, feed_luma, ask, Outcome, fed, replied, expected}
use Rattle.rules.specs.Calls.{capture_fed, luma_fed}
use Rattle.rules.specs.Bytes.{Bytes}
use Rattle.rules.specs.Counted.{Whole, Counted}
use Rattle.capture.specs.State.{Arrays}
use Rattle.capture.specs.Contract as side-capture
use Rattle.luma.specs.Contract as side-luma
use Rattle.luma_cuts.specs.Counts.{tiles_at}
use Rattle.luma_state.specs.State.{slot}
use Rattle.sample_questions.specs.State.{State, words_of}
use Rattle.sample_questions.specs.Contract.{Asked}
use Rattle.sample.specs.Contract.{OpenPost}

-- one call on a state, which leaves another: no more and no less than the function's own contract. A feed changes its
-- own side alone, a question nothing
pub data Ran : State → Call → Outcome → State → Type 0 where
  feeds_capture : {side side' : Arrays} {luma sums bins picture piece : List ℕ} {a : Answer ℕ} →
      side-capture.FeedPost side piece a side' →
      Ran
      (record { capture = side; luma = luma; sums = sums; bins = bins; picture = picture })
      (feed_capture piece)
      (fed a)
      (record { capture = side'; luma = luma; sums = sums; bins = bins; picture = picture })
  feeds_luma : {side : Arrays} {luma sums bins picture luma' sums' bins' picture' piece : List ℕ} {a : Answer ℕ} →
      side-luma.FeedPost luma sums bins picture piece a luma' sums' bins' picture' →
      Ran
      (record { capture = side; luma = luma; sums = sums; bins = bins; picture = picture })
      (feed_luma piece)
      (fed a)
      (record { capture = side; luma = luma'; sums = sums'; bins = bins'; picture = picture' })
  asks : {st : State} {q : Question} {r : Reply} → Asked (words_of st) q r → Ran st (ask q) (replied r) st

-- calls that are made one after the other, the first on the state st; what they come to; and
-- the state that the last leaves
pub data Runs : State → List Call → List Outcome → State → Type 0 where
  done : {st : State} → Runs st [] [] st
  next : {st st' end : State} {c : Call} {o : Outcome} {cs : List Call} {os : List Outcome} → Ran st c o st' →
      Runs st' cs os end → Runs st (c ∷ cs) (o ∷ os) end

-- picture i is one of the last four whole pictures of the joined luma, of which the state keeps the histograms
pub record Kept (o : Opening) (luma : List ℕ) (i : ℕ) : Type 0 where
  pub whole : Whole o luma i
  pub late : picture_count o luma ≤ i + 4
  pub clear : luma_fault o luma ≡ none

-- of a state that stands for these joined luma bytes: in every whole picture (a byte is below 256) each pixel adds one
-- to one bin of one tile's histogram and to no other, so that the bins of the nine histograms total w × h; and those
-- histograms are the ones that the state keeps (its bins are 32-bit words)
pub record InHistograms (o : Opening) (luma : List ℕ) (st : State) : Type 0 where
  pub pictures : Bytes luma → (i : ℕ) → Whole o luma i → Counted o (get_or (reduced o luma) i [])
  pub ring : ((n : ℕ) → get_or st.bins n 0 < 2 ^ 32) → (i : ℕ) → Kept o luma i → tiles_at st.bins (slot i) ≡
      histograms o (get_or (reduced o luma) i [])

-- THE STATEMENT: the opening's answer; every answer and every reply of the list; and the histograms of every whole
-- picture
pub record AsTheRulesSay (o : Opening) (a : Answer ℕ) (cs : List Call) (os : List Outcome) (end : State) : Type 0 where
  pub opening : a ≡ open_answer o
  pub outcomes : os ≡ expected o [] [] cs
  pub counted : InHistograms o (luma_fed cs) end

abbrev pub EveryList : Type 0
EveryList =
    (o : Opening) (a : Answer ℕ) (st : State) (cs : List Call) (os : List Outcome) (end : State) → OpenPost o a st →
    Runs st cs os end → AsTheRulesSay o a cs os end

-- and so a question at the end of two lists that feed equal joined strings after like openings comes to the same,
-- whatever their pieces, questions and order
abbrev pub RepliesAlike : Type 0
RepliesAlike =
    (o : Opening) (a a' : Answer ℕ) (st st' end end' : State) (cs cs' : List Call) (os os' : List Outcome)
    (s s' : Outcome) (q : Question) →
    OpenPost o a st → OpenPost o a' st' → capture_fed cs ≡ capture_fed cs' → luma_fed cs ≡ luma_fed cs' →
    Runs st (cs ++ ask q ∷ []) (os ++ s ∷ []) end → Runs st' (cs' ++ ask q ∷ []) (os' ++ s' ∷ []) end' → s ≡ s'
