-- Demand 3 for the C functions: after one opening, refused or not, every list of capture feeds, luma feeds and
-- questions leaves the numbers, the values, the lent bytes and the three f64 of an index that the rules give for the
-- opening and the joined strings alone.
use Rattle.std.specs.Prelude.{ℕ, ◌≡◌, List, [], ◌∷◌, map, Float, eqb}
use Rattle.rules.specs.Bytes.{pick}
use Rattle.rules.specs.declared.Opening.{Opening}
use Rattle.rules.specs.Opening.{open_answer}
use Rattle.rules.specs.Calls.{Question, index, repeats, lent_after, Call, feed_capture, feed_luma, ask, Outcome, fed}
use Rattle.rules.specs.Calls.{replied, expected, luma_fed}
use Rattle.capture.specs.State.{Arrays}
use Rattle.sample_questions.specs.State.{State, words_of}
use Rattle.sample.specs.Calls.{InHistograms}
use Rattle.c_numbers.specs.Numbers.{number_of, value_of}
use Rattle.c_sample.specs.Replies.{reply_number, reply_value, three_of}
use Rattle.c_sample.specs.Contract.{Opened, FedCapture, FedLuma, Told, IndexTold, CountTold}

-- what a call leaves: its number, its value, of a question the lent bytes and, of an index that is given, its three
-- f64 (after a refusal those that were lent stand: `IndexTold`)
pub record Left : Type 0 where
  pub number : ℕ
  pub value : ℕ
  pub lent : List ℕ
  pub three : List Float

abbrev pub left_of : Outcome → Left
left_of (fed a) = record { number = number_of a; value = value_of a; lent = []; three = [] }
left_of (replied r) =
    record { number = reply_number r; value = reply_value r; lent = lent_after r; three = three_of r }

-- one call of a C function on a state, which leaves another: no more and no less than the function's own contract
pub data Made : State → Call → Left → State → Type 0 where
  feeds_capture : {side side' : Arrays} {luma sums bins picture piece : List ℕ} {n v : ℕ} →
      FedCapture side piece n v side' →
      Made
      (record { capture = side; luma = luma; sums = sums; bins = bins; picture = picture })
      (feed_capture piece)
      (record { number = n; value = v; lent = []; three = [] })
      (record { capture = side'; luma = luma; sums = sums; bins = bins; picture = picture })
  feeds_luma : {side : Arrays} {luma sums bins picture luma' sums' bins' picture' piece : List ℕ} {n v : ℕ} →
      FedLuma luma sums bins picture piece n v luma' sums' bins' picture' →
      Made
      (record { capture = side; luma = luma; sums = sums; bins = bins; picture = picture })
      (feed_luma piece)
      (record { number = n; value = v; lent = []; three = [] })
      (record { capture = side; luma = luma'; sums = sums'; bins = bins'; picture = picture' })
  asks : {st : State} {q : Question} {n v : ℕ} {after : List ℕ} →
      Told (words_of st) q n v after →
      Made st (ask q) (record { number = n; value = v; lent = after; three = [] }) st
  asks_index : {st : State} {n v : ℕ} {before after : List Float} →
      IndexTold st.capture.numbers st.luma before n v after →
      Made st (ask index) (record { number = n; value = v; lent = []; three = pick (eqb n 0) after [] }) st
  asks_repeats : {st : State} {a b n v : ℕ} →
      CountTold st.luma a b n v →
      Made st (ask (repeats a b)) (record { number = n; value = v; lent = []; three = [] }) st

-- calls that are made one after the other, the first on the state st; what they leave; and the state that the last
-- leaves
pub data MadeAll : State → List Call → List Left → State → Type 0 where
  done : {st : State} → MadeAll st [] [] st
  next : {st st' end : State} {c : Call} {l : Left} {cs : List Call} {ls : List Left} → Made st c l st' → MadeAll st'
      cs ls end → MadeAll st (c ∷ cs) (l ∷ ls) end

-- THE STATEMENT
pub record AsTheRulesSay (o : Opening) (number : ℕ) (cs : List Call) (ls : List Left) (end : State) : Type 0 where
  pub opening : number ≡ number_of (open_answer o)
  pub left : ls ≡ map left_of (expected o [] [] cs)
  pub counted : InHistograms o (luma_fed cs) end

abbrev pub EveryList : Type 0
EveryList =
    (o : Opening) (number : ℕ) (st : State) (cs : List Call) (ls : List Left) (end : State) → Opened o number st →
    MadeAll st cs ls end →
    AsTheRulesSay o number cs ls end
