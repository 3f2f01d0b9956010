-- What a count of repeats comes to: the opening's number, 26, or the count.
use Prim.Native.Nat.{ℕ, zero, suc}
use native.Mathlib.Omega.{arith}
use mathlib.Core.Path.{◌≡◌, refl, sym, ap, subst, ◌∙◌}
use mathlib.Core.List.{List, []}
use mathlib.Core.Bool.{Bool, true, false, ◌&&◌}
use lib.ListN.{get_or}
use lib.Dec.{leb}
use Rattle.rules.specs.declared.Opening.{Opening}
use Rattle.std.specs.Prelude.{Err}
use Rattle.rules.specs.Refusals.{Answer, none, fault, unless, listed}
use Rattle.rules.specs.Opening.{opening_fault}
use Rattle.rules.specs.Pictures.{picture_count}
use Rattle.rules.specs.Seal.{reduced}
use Rattle.rules.specs.Passage.{passage_fault, repeats_answer}
use Rattle.rules.specs.Calls.{counted}
use Rattle.rules.proofs.Laws.Listed.{listed_in}
use Rattle.rules.proofs.Laws.Answers.{ok-err}
use Rattle.rules.proofs.Laws.Passage.{opening-first, repeats-numbered}
use Rattle.figures.specs.Opening.{OpeningFault}
use Rattle.luma_laws.proofs.Full.{full-count}
use Rattle.luma_state.specs.State as side-luma
use Rattle.luma_state.specs.State.{loaded, opening_in, Stands, refused, live}
use Rattle.luma.specs.declared.Totals.{Totals}
use Rattle.luma.specs.Contract.{totals_in}
use Rattle.luma.proofs.Posts.{Alive}
use Rattle.luma.proofs.Seals.{pictures-are, reduced-are}
use Rattle.luma_passage.specs.Contract.{AnswerPost}
use Rattle.luma_passage.proofs.Sample.{sample-passage}
use Rattle.sample_questions.specs.State.{State, Words, Means}
use Rattle.sample_questions.specs.Passage.{RepeatsPost}

-- ---- what the luma words know of the whole pictures, refusal 10 or not

record Kept (luma : List ℕ) (o : Opening) (joined : List ℕ) : Type 0 where
  pictures : get_or luma 3 0 ≡ picture_count o joined
  words : side-luma.Words o (reduced o joined) luma

kept : (luma sums bins picture : List ℕ) (o : Opening) (joined : List ℕ) → opening_fault o ≡ none →
    side-luma.Means luma sums bins picture o joined →
    Kept luma o joined
kept luma sums bins picture o joined good m = go m.stands
  where
    go : Stands o (loaded luma) luma sums bins picture joined → Kept luma o joined
    go (refused e k f) =
        let full = f good in
        record { pictures = full.pictures ∙ sym (full-count o good joined full.there); words = full.words }
    go (live g s l) =
        let a : Alive (loaded luma) luma sums bins picture o joined = record { good = g; sane = s; live = l } in
        record {
          pictures = l.pictures ∙ sym (pictures-are o (loaded luma) a);
          words = rw (reduced-are o (loaded luma) a) l.words;
        }

-- ---- what a count promises

twenty-six : (n a b k p : ℕ) → passage_fault n a b ≡ fault k p → k ≡ 26
unfolding passage_fault
twenty-six n a b k p e = go (leb a b && leb b n) e
  where
    go : (t : Bool) → unless t 26 ≡ fault k p → k ≡ 26
    go true x = absurd (let z : ◌≡◌ {A = ℕ} 0 1 = cc in omega arith)
    go false x = cc

opening-some : (o : Opening) (number : ℕ) → OpeningFault o number → (number ≡ 0 → ⊥) →
    opening_fault o ≡ fault number 0
opening-some o zero w h = absurd (h refl)
opening-some o (suc k) w h = w.shown

opening-none : (o : Opening) (number : ℕ) → OpeningFault o number → number ≡ 0 → opening_fault o ≡ none
opening-none o zero w h = w.shown
opening-none o (suc k) w h = absurd (omega arith)

module _ (luma : List ℕ) (a b : ℕ) (r : Answer ℕ) (p : Opening) (pe : p ≡ opening_in luma) (number : ℕ)
    (w : OpeningFault p number) where
  -- the opening in the words is the one that a state stands for
  opened : (st : State) (o : Opening) (fed_capture fed_luma : List ℕ) → st.luma ≡ luma →
      Means st o fed_capture fed_luma →
      OpeningFault o number
  opened st o fc fl x m =
      subst (λ (q : Opening). OpeningFault q number) (pe ∙ ap opening_in (sym x) ∙ m.drawn.opening) w

  pub post-opening : r ≡ Err (record { number = listed number; place = 0 }) → (number ≡ 0 → ⊥) → RepeatsPost luma a b r
  unfolding repeats_answer
  post-opening e h =
      record {
        asked =
            λ capture.
            record {
              rule =
                  λ st o fc fl x m.
                  let some = opening-some o number (opened st o fc fl (ap (λ (v : Words). v.luma) x) m) h in
                  let g = opening-first o fl a b number 0 some in
                  let i : listed number ≡ number = rw g at (repeats-numbered o fl a b) in
                  rw g (ap counted (e ∙ ap (λ (n : ℕ). Err (record { number = n; place = 0 })) i));
              refusals =
                  record {
                    kept = λ n q y. refl;
                    listed =
                        λ n q y.
                        let i : listed number ≡ n = same (listed number) 0 n q (rw e at y) in
                        rw i at (listed_in number);
                  };
            };
        refusal =
            let some = opening-some p number w h in
            let first = opening-first p [] a b number 0 some in
            let i : listed number ≡ number = rw first at (repeats-numbered p [] a b) in
            rw (e, ← pe, some) (ap (λ (n : ℕ). fault n 0) i);
        most = λ m y. absurd (ok-err (sym y ∙ e));
      }
    where
      same : (k q n s : ℕ) → fault k q ≡ fault n s → k ≡ n
      same k q n s y = cc

  pub post-counted : (l : Totals) → l ≡ totals_in luma → number ≡ 0 → AnswerPost luma l.pictures a b r →
      RepeatsPost luma a b r
  post-counted l le h x =
      record {
        asked =
            λ capture.
            record {
              rule =
                  λ st o fc fl y m.
                  let z = ap (λ (v : Words). v.luma) y in
                  let good = opening-none o number (opened st o fc fl z m) h in
                  let known = subst (λ (v : List ℕ). Kept v o fl) z
                  (kept st.luma st.sums st.bins st.picture o fl good m.drawn) in
                  let n : l.pictures ≡ picture_count o fl = ap (λ (t : Totals). t.pictures) le ∙ known.pictures in
                  ap counted (sample-passage o fl luma known.words.repeats a b r good (rw n at x));
              refusals =
                  record {
                    kept = λ n q y. refl;
                    listed =
                        λ n q y.
                        let i : n ≡ 26 = twenty-six l.pictures a b n q (sym x.refusal ∙ y) in
                        (omega arith, omega arith);
                  };
            };
        refusal = rw (← pe, opening-none p number w h) (rw le at x.refusal);
        most = x.most;
      }
