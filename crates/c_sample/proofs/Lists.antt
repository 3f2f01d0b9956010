-- DEMAND 3 for the C functions: the statement of `specs/Calls` holds. Under every list of C calls lies a
-- list of calls of `sample`.
use Prim.Native.Nat.{ℕ}
use native.Mathlib.Omega.{arith}
use mathlib.Core.Path.{◌≡◌, refl, sym, ap, ◌∙◌}
use mathlib.Core.List.{List, [], ◌∷◌, map}
use lib.Dec.{eqb}
use lib.Ieee.{Float}
use borrow.Author.Tests.{ne_eqb}
use Rattle.std.specs.Prelude.{Ok, Err}
use Rattle.rules.specs.declared.Index.{Index}
use Rattle.rules.specs.Refusals.{Answer}
use Rattle.rules.specs.Bytes.{pick}
use Rattle.rules.specs.Calls.{Reply, indexed, counted, lent_after, Call, Outcome, fed, replied}
use Rattle.rules.proofs.Laws.Listed.{listed_in}
use Rattle.sample_questions.specs.State.{State}
use Rattle.sample.specs.Calls as of-sample
use Rattle.sample.proofs.Lists.{every-list}
use Rattle.c_numbers.specs.Numbers.{number_of, value_of}
use Rattle.c_sample.specs.Replies.{index_into, reply_number, reply_value, three_of}
use Rattle.c_sample.specs.Calls.{Left, left_of, feeds_capture, feeds_luma, asks, asks_index, asks_repeats, MadeAll}
use Rattle.c_sample.specs.Calls.{done, next, EveryList}

record Under (st : State) (cs : List Call) (ls : List Left) (end : State) : Type 0 where
  outcomes : List Outcome
  runs : of-sample.Runs st cs outcomes end
  left : ls ≡ map left_of outcomes

-- one call more, of an answer a with these numbers
fed-more : (n v : ℕ) (a : Answer ℕ) (ls : List Left) (os : List Outcome) → n ≡ number_of a → v ≡ value_of a →
    ls ≡ map left_of os →
    record { number = n; value = v; lent = []; three = [] } ∷ ls ≡ map left_of (fed a ∷ os)
fed-more n v a ls os k x l = rw (k, x, l)

told_more : (n v : ℕ) (b : List ℕ) (f : List Float) (r : Reply) (ls : List Left) (os : List Outcome) →
    n ≡ reply_number r → v ≡ reply_value r → b ≡ lent_after r → f ≡ three_of r → ls ≡ map left_of os →
    record { number = n; value = v; lent = b; three = f } ∷ ls ≡ map left_of (replied r ∷ os)
told_more n v b f r ls os k x y z l = rw (k, x, y, z, l)

-- the three that an index call leaves where its number is 0
three-left : (a : Answer Index) (n : ℕ) (before after : List Float) → n ≡ number_of a → after ≡ index_into a before →
    pick (eqb n 0) after [] ≡ index_into a []
three-left (Ok i) n before after e g = rw (e, g)
three-left (Err d) n before after e g =
    rw (ne_eqb n 0 (λ z. omega (arith, e, (listed_in d.number).0)))

under : {st : State} {cs : List Call} {ls : List Left} {end : State} → MadeAll st cs ls end → Under st cs ls end
under done = record { outcomes = []; runs = of-sample.done; left = refl }
under (next (feeds_capture p) r) =
    let u = under r in
    record {
      outcomes = fed p.answer ∷ u.outcomes;
      runs = of-sample.next (of-sample.feeds_capture p.made) u.runs;
      left = fed-more _ _ p.answer _ u.outcomes p.numbered p.valued u.left;
    }
under (next (feeds_luma p) r) =
    let u = under r in
    record {
      outcomes = fed p.answer ∷ u.outcomes;
      runs = of-sample.next (of-sample.feeds_luma p.made) u.runs;
      left = fed-more _ _ p.answer _ u.outcomes p.numbered p.valued u.left;
    }
under (next (asks p) r) =
    let u = under r in
    record {
      outcomes = replied p.reply ∷ u.outcomes;
      runs = of-sample.next (of-sample.asks p.made) u.runs;
      left =
          told_more _ _ _ [] p.reply _ u.outcomes p.numbered p.valued p.lent (sym p.three) u.left;
    }
under (next (asks_index {st = st} {before = before} p) r) =
    let u = under r in
    let made = p.made.asked st.capture.walk st.capture.kept st.capture.table in
    record {
      outcomes = replied (indexed p.answer) ∷ u.outcomes;
      runs = of-sample.next (of-sample.asks made) u.runs;
      left =
          told_more _ _ [] _ (indexed p.answer) _ u.outcomes p.numbered p.placed refl
          (three-left p.answer _ before _ p.numbered p.given) u.left;
    }
under (next (asks_repeats {st = st} p) r) =
    let u = under r in
    record {
      outcomes = replied (counted p.answer) ∷ u.outcomes;
      runs = of-sample.next (of-sample.asks (p.made.asked st.capture)) u.runs;
      left = told_more _ _ [] [] (counted p.answer) _ u.outcomes p.numbered p.valued refl refl u.left;
    }

pub every_call : EveryList
every_call o number st cs ls end p r =
    let u = under r in
    let says = every-list o p.answer st cs u.outcomes end p.made u.runs in
    record {
      opening = p.numbered ∙ ap number_of says.opening;
      left = u.left ∙ ap (map left_of) says.outcomes;
      counted =
          says.counted;
    }
