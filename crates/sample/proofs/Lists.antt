-- DEMAND 3: the statements of `specs/Calls` hold.
use Prim.Native.Nat.{ℕ, ◌^◌, ◌<◌}
use native.Mathlib.Omega.{arith}
use mathlib.Core.Path.{◌≡◌, refl, sym, ap, ◌∙◌}
use mathlib.Core.List.{List, [], ◌∷◌, ◌++◌, append-nil, append_assoc, head-eq_of_cons-eq, tail-eq_of_cons-eq}
use mathlib.Core.List.{cons-ne-nil}
use lib.ListN.{get_or}
use Rattle.rules.specs.declared.Opening.{Opening}
use Rattle.rules.specs.Refusals.{none, fault}
use Rattle.rules.specs.Histograms.{histograms}
use Rattle.rules.specs.Seal.{reduced}
use Rattle.rules.specs.Calls.{Question, answer_to, Call, feed_capture, feed_luma, ask, Outcome, replied, expected}
use Rattle.rules.specs.Calls.{capture_fed, luma_fed}
use Rattle.luma_laws.proofs.Counted.{whole-counted, every-picture}
use Rattle.luma_cuts.specs.Counts.{tiles_at}
use Rattle.luma_state.specs.State as side-luma
use Rattle.luma_state.specs.State.{loaded, slot, Stands, refused, live}
use Rattle.luma.proofs.Seals.{ring-is}
use Rattle.sample_questions.specs.State.{State, Means}
use Rattle.sample.specs.Calls.{feeds_capture, feeds_luma, asks, Runs, done, next, Kept, EveryList}
use Rattle.sample.specs.Calls.{RepliesAlike}

-- from a state that stands for the strings so far: what the calls come to, and what the
-- state that they leave stands for
pub record Led (o : Opening) (capture luma : List ℕ) (cs : List Call) (os : List Outcome) (end : State) : Type 0 where
  pub outcomes : os ≡ expected o capture luma cs
  pub means : Means end o (capture ++ capture_fed cs) (luma ++ luma_fed cs)

pub runs : (o : Opening) (capture luma : List ℕ) {st end : State} {cs : List Call} {os : List Outcome} →
    Means st o capture luma → Runs st cs os end → Led o capture luma cs os end
unfolding expected capture_fed luma_fed
runs o capture luma h done = record { outcomes = refl; means = rw (append-nil capture, append-nil luma) h }
runs o capture luma {cs = feed_capture piece ∷ cs} h (next (feeds_capture p) r) =
    let m = p.means o capture h.captured in
    let i = runs o (capture ++ piece) luma (record { captured = m; drawn = h.drawn }) r in
    let e = p.answer o capture h.captured in
    let l = i.outcomes in
    record { outcomes = cc; means = rw (← append_assoc capture piece (capture_fed cs)) i.means }
runs o capture luma {cs = feed_luma piece ∷ cs} h (next (feeds_luma p) r) =
    let m = p.means o luma h.drawn in
    let i = runs o capture (luma ++ piece) (record { captured = h.captured; drawn = m }) r in
    let e = p.answer o luma h.drawn in
    let l = i.outcomes in
    record { outcomes = cc; means = rw (← append_assoc luma piece (luma_fed cs)) i.means }
runs o capture luma h (next (asks {st = st} p) r) =
    let i = runs o capture luma h r in
    let e = p.rule st o capture luma refl h in
    let l = i.outcomes in
    record { outcomes = cc; means = i.means }

-- the histograms of the last four whole pictures
kept : (o : Opening) (luma : List ℕ) (st : State) →
    side-luma.Means st.luma st.sums st.bins st.picture o luma →
    ((n : ℕ) → get_or st.bins n 0 < 2 ^ 32) → (i : ℕ) → Kept o luma i →
    tiles_at st.bins (slot i) ≡ histograms o (get_or (reduced o luma) i [])
kept o luma st h small i k = go h.stands
  where
    go : Stands o (loaded st.luma) st.luma st.sums st.bins st.picture luma →
        tiles_at st.bins (slot i) ≡ histograms o (get_or (reduced o luma) i [])
    go (refused e n f) = absurd (never (rw (k.whole.opened, k.clear) at e))
      where
        never : {p q : ℕ} → none ≡ fault p q → ⊥
        never e = let z : ◌≡◌ {A = ℕ} 0 1 = cc in omega arith
    go (live g s l) =
        ring-is o (loaded st.luma) (record { good = g; sane = s; live = l }) small i
        (whole-counted o luma i k.whole) k.late

-- ---- two lists that end in the same question

some-outcome : (o : Opening) (capture luma : List ℕ) (cs : List Call) (q : Question) → expected o capture luma
    (cs ++ ask q ∷ []) ≡ [] → ⊥
unfolding expected
some-outcome o capture luma [] q e = cons-ne-nil _ _ e
some-outcome o capture luma (feed_capture piece ∷ cs) q e = cons-ne-nil _ _ e
some-outcome o capture luma (feed_luma piece ∷ cs) q e = cons-ne-nil _ _ e
some-outcome o capture luma (ask p ∷ cs) q e = cons-ne-nil _ _ e

-- the outcome of a question at the end goes by the joined strings
pub asked-last : (o : Opening) (capture luma : List ℕ) (cs : List Call) (os : List Outcome) (s : Outcome)
    (q : Question) →
    os ++ s ∷ [] ≡ expected o capture luma (cs ++ ask q ∷ []) → s ≡ replied
    (answer_to o (capture ++ capture_fed cs) (luma ++ luma_fed cs) q)
unfolding expected capture_fed luma_fed
asked-last o capture luma [] [] s q e = rw (append-nil capture, append-nil luma) (head-eq_of_cons-eq e)
asked-last o capture luma [] (p ∷ []) s q e = absurd (cons-ne-nil s [] (tail-eq_of_cons-eq e))
asked-last o capture luma [] (p ∷ r ∷ os) s q e = absurd (cons-ne-nil r (os ++ s ∷ []) (tail-eq_of_cons-eq e))
asked-last o capture luma (feed_capture piece ∷ cs) [] s q e =
    absurd (some-outcome o (capture ++ piece) luma cs q (sym (tail-eq_of_cons-eq e)))
asked-last o capture luma (feed_capture piece ∷ cs) (p ∷ os) s q e =
    rw (← append_assoc capture piece (capture_fed cs))
    (asked-last o (capture ++ piece) luma cs os s q (tail-eq_of_cons-eq e))
asked-last o capture luma (feed_luma piece ∷ cs) [] s q e =
    absurd (some-outcome o capture (luma ++ piece) cs q (sym (tail-eq_of_cons-eq e)))
asked-last o capture luma (feed_luma piece ∷ cs) (p ∷ os) s q e =
    rw (← append_assoc luma piece (luma_fed cs))
    (asked-last o capture (luma ++ piece) cs os s q (tail-eq_of_cons-eq e))
asked-last o capture luma (ask p ∷ cs) [] s q e =
    absurd (some-outcome o capture luma cs q (sym (tail-eq_of_cons-eq e)))
asked-last o capture luma (ask p ∷ cs) (x ∷ os) s q e = asked-last o capture luma cs os s q (tail-eq_of_cons-eq e)

pub replies-alike : RepliesAlike
replies-alike o a a' st st' end end' cs cs' os os' s s' q p p' e l r r' =
    asked-last o [] [] cs os s q (runs o [] [] p.means r).outcomes
    ∙ ap (λ (c : List ℕ). replied (answer_to o c (luma_fed cs) q)) e
    ∙ ap (λ (y : List ℕ). replied (answer_to o (capture_fed cs') y q)) l
    ∙ sym (asked-last o [] [] cs' os' s' q (runs o [] [] p'.means r').outcomes)

pub every-list : EveryList
every-list o a st cs os end p r =
    let l = runs o [] [] p.means r in
    record {
      opening = p.answer;
      outcomes = l.outcomes;
      counted = record {
        pictures = λ b i w. every-picture o (luma_fed cs) i b w;
        ring = kept o (luma_fed cs) end l.means.drawn;
      };
    }
