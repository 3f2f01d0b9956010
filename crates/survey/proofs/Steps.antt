-- The survey from step to step, and its calls.
use Prim.Native.Nat.{ℕ, ◌+◌, ◌≤◌, ◌<◌}
use native.Mathlib.Omega.{arith}
use mathlib.Core.Path.{◌≡◌, refl, ap, ◌∙◌}
use mathlib.Core.List.{List, [], ◌++◌, append-nil, append_assoc}
use mathlib.Core.Bool.{Bool, true, false}
use lib.ListN.{length, get_or, take, drop, length-append}
use lib.Seq.{take-add, take_all}
use borrow.Author.Tests.{ne_eqb}
use Rattle.rules.specs.Bytes.{count}
use Rattle.rules.specs.Refusals.{Fault, fault, listed, Answer, refused}
use Rattle.rules.specs.Seal.{capture_unfinished}
use Rattle.rules.specs.Survey.{good_packets, identifiers, with_most, HasMost, survey_feed_answer, no_good}
use Rattle.rules.specs.Survey.{survey_fault, survey_answer}
use Rattle.std.specs.Prelude.{Ok}
use Rattle.rules.proofs.Laws.Listed.{Numbered, listed_in, format}
use Rattle.capture_laws.proofs.Survey.{with-most-is, most-alike}
use Rattle.capture_steps.specs.declared.types.Walk.{Walk}
use Rattle.capture_steps.specs.declared.types.Step.{Step}
use Rattle.capture_steps.specs.Format.{format_fault, whole_cells}
use Rattle.capture_steps.specs.State as walk
use Rattle.capture_steps.specs.Contract.{whole_of, Stored}
use Rattle.capture_walk.specs.Contract.{Stood, Stepped, Asks}
use Rattle.capture_steps.proofs.Use.{says-fault, says-clear, says-fed, clear-before, clear-long, tells-whole}
use Rattle.capture_steps.proofs.Use.{none-whole, whole-few}
use Rattle.survey_counts.specs.Table.{tally, count_in, Tallied}
use Rattle.survey_counts.proofs.Counts.{tally-good}
use Rattle.survey.specs.State.{state_of, Surveys, Means}
use Rattle.survey.specs.Contract.{Opened, FeedPost, AskPost, Goes, Replies}

-- ---- from step to step

abbrev Here : List ℕ → List ℕ → Walk → List ℕ → Type 0
Here kept t s joined = Surveys kept t s joined

pub goes_none : (kept t : List ℕ) (s : Walk) → Goes kept t s [] kept t s
goes_none kept t s joined h = rw append-nil h

pub goes_step : {k k' k'' t t' t'' : List ℕ} {s w : Walk} {r : Step} {piece : List ℕ} {i : ℕ} →
    Goes k t s (take i piece) k' t' w → Stepped k' w piece i k'' r →
    Tallied t' (whole_of r.event piece) t'' → Goes k t s (take (i + r.taken) piece) k'' t'' r.walk
goes_step {k} {k'} {k''} {t} {t'} {t''} {s} {w} {r} {piece} {i} g st ta joined h =
    rw (take-add i r.taken piece, ← append_assoc joined (take i piece) (take r.taken (drop i piece)))
    (record {
      walk = n.stands;
      room = ta.size ∙ u.room;
      table = λ c.
          let e = tells-whole r.event r.walk piece before (before ++ chunk) n.tells c in
          let b = clear-before before chunk c in
          let l = length-append (whole_cells before) (whole_of r.event piece) in
          let f = whole-few (before ++ chunk) in
          let m = clear-long (before ++ chunk) c in
          let q = ap length e in
          rw e (ta.counts (whole_cells before) u.room (omega arith) (u.table b));
    })
  where
    before : List ℕ
    before = joined ++ take i piece

    chunk : List ℕ
    chunk = take r.taken (drop i piece)

    u : Here k' t' w before
    u = g joined h

    n : Stood k'' r piece before (before ++ chunk)
    n = st.goes before u.walk

pub goes-all : (k k' t t' : List ℕ) (s w : Walk) (piece : List ℕ) (i : ℕ) → length piece ≤ i →
    Goes k t s (take i piece) k' t' w → Goes k t s piece k' t' w
goes-all k k' t t' s w piece i h g joined x = rw (take_all i piece h) at (g joined x)

-- ---- the calls

pub opens : (words kept t : List ℕ) → walk.Means words kept [] → length t ≡ 8192 → ((id : ℕ) → get_or t id 0 ≡ 0) →
    Opened (state_of words kept t)
opens words kept t m l z =
    record {
      room = m.room;
      surveys = record {
        walk = m.stands;
        room = l;
        table = λ c. rw none-whole (record { at = λ id k. z id ∙ unfold tally count in refl });
      };
    }

-- the number that stands is one of the table's, where it stands for something
numbered : {f : Fault} {k p : ℕ} → f ≡ fault k p → Numbered f → listed k ≡ k
numbered e n = rw e at n

stands-listed : {kept : List ℕ} {s : Walk} {joined : List ℕ} → (s.status ≡ 0 → ⊥) → walk.Stands kept s joined →
    format_fault joined ≡ fault (listed s.status) s.place
stands-listed {s = s} {joined = joined} h st =
    let e = says-fault h st in rw (numbered e (format joined)) e

pub reply-stopped : {s : Walk} {k : ℕ} (n : ℕ) → (s.status ≡ 0 → ⊥) → k ≡ listed s.status →
    Replies s n (refused k s.place)
unfolding survey_feed_answer
reply-stopped {s} n h e =
    record { rule = λ kept joined st. rw (stands-listed h st, e); listed = rw e (listed_in s.status) }

pub reply-done : {s : Walk} (n : ℕ) → s.status ≡ 0 → Replies s n (Ok n)
unfolding survey_feed_answer
reply-done n h = record { rule = λ kept joined st. rw (says-clear h st); listed = tt }

pub feed-post : (words kept t piece : List ℕ) (a : Answer ℕ) (words' kept' t' : List ℕ) (s r : Walk) →
    s ≡ walk.loaded words → Goes kept t s piece kept' t' r → Stored words r words' → Replies r (length piece) a →
    FeedPost (state_of words kept t) piece a
    (state_of words' kept' t')
feed-post words kept t piece a words' kept' t' s r l g st an =
    record {
      means = λ joined m.
          record { room = st.size ∙ m.room; surveys = rw (st.loads m.room) (g joined (rw l m.surveys)) };
      answer = λ joined m. an.rule kept' (joined ++ piece) (g joined (rw l m.surveys)).walk;
      listed = an.listed;
    }

module _ (words t : List ℕ) (s : Walk) (l : s ≡ walk.loaded words) where
  -- the walk as it was loaded
  stands : {kept joined : List ℕ} → Means (state_of words kept t) joined →
      walk.Stands kept s joined
  stands m = rw l m.surveys.walk

  pub ask-stopped : {k : ℕ} → (s.status ≡ 0 → ⊥) → k ≡ listed s.status → AskPost words t (refused k s.place)
  unfolding survey_answer survey_fault
  ask-stopped h e =
      record { rule = λ kept joined m. rw (stands-listed h (stands m), e); sensible = rw e (listed_in s.status) }

  pub ask-inside : {b : Bool} → s.status ≡ 0 → Asks s b → b ≡ true → AskPost words t (refused 11 s.fed)
  unfolding survey_answer survey_fault capture_unfinished
  ask-inside h a e =
      record {
        rule = λ kept joined m.
            rw (says-clear h (stands m), ← a kept joined h (stands m), e, says-fed h (stands m));
        sensible = (omega arith, omega arith);
      }

  module _ {b : Bool} {best : ℕ} (h : s.status ≡ 0) (a : Asks s b) (e : b ≡ false)
      (be : HasMost (count_in t) identifiers best) where
    counts : {kept joined : List ℕ} → Means (state_of words kept t) joined →
        (id : ℕ) → id < identifiers → count_in t id ≡ good_packets joined id
    counts {joined = joined} m id k = (m.surveys.table (says-clear h (stands m))).at id k ∙ tally-good joined id

    best-is : {kept joined : List ℕ} → Means (state_of words kept t) joined →
        best ≡ with_most (good_packets joined) identifiers
    best-is {joined = joined} m =
        with-most-is (good_packets joined) best (most-alike (count_in t) (good_packets joined) best (counts m) be)

    most-is : {kept joined : List ℕ} → Means (state_of words kept t) joined →
        count_in t best ≡ good_packets joined (with_most (good_packets joined) identifiers)
    most-is {joined = joined} m = counts m best be.below ∙ ap (good_packets joined) (best-is m)

    pub ask-none : count_in t best ≡ 0 → AskPost words t (refused 21 0)
    unfolding survey_answer survey_fault capture_unfinished no_good
    ask-none z =
        record {
          rule = λ kept joined m.
              rw (says-clear h (stands m), ← a kept joined h (stands m), e, ← most-is m, z);
          sensible = (omega arith, omega arith);
        }

    pub ask-most : {x : ℕ} → x ≡ count_in t best → (x ≡ 0 → ⊥) → AskPost words t (Ok (record { identifier = best; count = x }))
    unfolding survey_answer survey_fault capture_unfinished no_good
    ask-most xe z =
        record {
          rule = λ kept joined m.
              rw (xe, says-clear h (stands m), ← a kept joined h (stands m), e, ← most-is m)
              (rw (ne_eqb (count_in t best) 0 (λ y. z (xe ∙ y)), best-is m));
          sensible = (be.below, omega arith);
        }
