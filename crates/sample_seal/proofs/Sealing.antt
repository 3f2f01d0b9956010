-- What a seal comes to: each refusal in document 01's order, and the record.
use Prim.Native.Nat.{ℕ}
use native.Mathlib.Omega.{arith}
use mathlib.Core.Path.{◌≡◌, refl, sym, ap, subst, subst⁻¹, ◌∙◌}
use mathlib.Core.List.{List, [], ◌∷◌}
use mathlib.Core.Bool.{true, false}
use lib.ListN.{length}
use borrow.Author.Tests.{eq-eqb, ne_eqb}
use Rattle.rules.specs.declared.Opening.{Opening}
use Rattle.std.specs.Prelude.{Ok}
use Rattle.rules.specs.Refusals.{Answer, refused, none, fault, ◌or_else◌, listed}
use Rattle.rules.specs.declared.UnitRow.{UnitRow}
use Rattle.rules.specs.Opening.{opening_fault}
use Rattle.rules.specs.Capture.{units, capture_fault}
use Rattle.rules.specs.Pictures.{picture_count, luma_fault}
use Rattle.rules.specs.Seal.{capture_unfinished, no_packet, luma_unfinished, no_picture, no_room, seal_fault}
use Rattle.rules.specs.Seal.{seal_answer, sealed_length, sealed_buffer}
use Rattle.rules.specs.Calls.{seal, sealed_into, answer_to}
use Rattle.rules.proofs.Laws.Listed.{listed_in, seal as in-the-table}
use Rattle.capture.specs.declared.Summary.{Summary}
use Rattle.capture.specs.Contract.{SumsUp, SumOf, Figures}
use Rattle.luma.specs.declared.Summary as of-luma
use Rattle.luma.specs.Contract.{SummaryPost, Summarised, Known}
use Rattle.luma_state.specs.State.{opening_in}
use Rattle.sample_questions.specs.State.{State, Words, words_of, Means}
use Rattle.sample_questions.specs.Contract.{Leaves}
use Rattle.sample_questions.proofs.Refusals.{either}
use Rattle.sample_seal.specs.Contract.{SealPost, Ready, WritePost}

-- ---- refusals one after the other

no-units : (us : List UnitRow) → length us ≡ 0 → no_packet us ≡ fault 12 0
unfolding no_packet
no-units [] h = refl
no-units (u ∷ us) h = absurd (omega arith)

some-units : (us : List UnitRow) → (length us ≡ 0 → ⊥) → no_packet us ≡ none
unfolding no_packet
some-units [] h = absurd (h refl)
some-units (u ∷ us) h = refl

-- what a seal finds on its way, from the summaries of the two sides
module _ (st : State) (o : Opening) (fed_capture fed_luma : List ℕ) (m : Means st o fed_capture fed_luma)
    (c : Summary) (l : of-luma.Summary) (cp : SumsUp st.capture.walk st.capture.numbers c)
    (lp : SummaryPost st.luma l) where
  sum : SumOf st.capture.table o fed_capture c
  sum = cp st.capture.kept st.capture.table o fed_capture m.captured

  seen : Summarised st.luma o fed_luma l
  seen = lp st.sums st.bins st.picture o fed_luma m.drawn

  pub of-capture : (n : ℕ) → (c.number ≡ 0 → ⊥) → seal_fault o fed_capture fed_luma n ≡ fault c.number c.place
  unfolding seal_fault
  of-capture n h =
      let e : opening_fault o or_else capture_fault o fed_capture ≡ fault c.number c.place =
      sum.refusal ∙ rw (ne_eqb c.number 0 h) in
      either (opening_fault o) (capture_fault o fed_capture) _ ∙ rw e

  module _ (h₁ : c.number ≡ 0) where
    fig : Figures st.capture.table o fed_capture c
    fig = sum.figures h₁

    pub of-luma-side : (n : ℕ) → (l.status ≡ 0 → ⊥) → seal_fault o fed_capture fed_luma n ≡ fault l.status l.place
    unfolding seal_fault
    of-luma-side n h =
        let e : opening_fault o or_else luma_fault o fed_luma ≡ fault l.status l.place =
        seen.refused (omega arith) in
        let e' : luma_fault o fed_luma ≡ fault l.status l.place = rw fig.good at e in
        rw (fig.good, fig.clear, e')

    module _ (h₂ : l.status ≡ 0) where
      known : Known st.luma o fed_luma l
      known = seen.live h₂

      -- behind refusals 1 to 10
      behind : (n : ℕ) → seal_fault o fed_capture fed_luma n ≡
          capture_unfinished fed_capture or_else (no_packet (units o fed_capture) or_else (luma_unfinished o fed_luma
          or_else (no_picture (picture_count o fed_luma) or_else no_room n (sealed_length o fed_capture fed_luma))))
      unfolding seal_fault
      behind n = rw (fig.good, fig.clear, known.clear)

      pub inside-capture : (n : ℕ) → c.inside ≡ true → seal_fault o fed_capture fed_luma n ≡ fault 11 c.fed
      unfolding capture_unfinished
      inside-capture n h = behind n ∙ rw (sym fig.inside, h, fig.fed)

      module _ (h₃ : c.inside ≡ false) where
        closed : capture_unfinished fed_capture ≡ none
        unfolding capture_unfinished
        closed = rw (sym fig.inside, h₃)

        pub no-packet : (n : ℕ) → c.units ≡ 0 → seal_fault o fed_capture fed_luma n ≡ fault 12 0
        no-packet n h = behind n ∙ rw (closed, no-units (units o fed_capture) (sym fig.units ∙ h))

        module _ (h₄ : c.units ≡ 0 → ⊥) where
          packet : no_packet (units o fed_capture) ≡ none
          packet = some-units (units o fed_capture) (λ e. h₄ (fig.units ∙ e))

          pub inside-luma : (n : ℕ) → l.inside ≡ true → seal_fault o fed_capture fed_luma n ≡ fault 13 l.fed
          inside-luma n h = behind n ∙ rw (closed, packet, known.inside, h, known.fed)

          module _ (h₅ : l.inside ≡ false) where
            ended : luma_unfinished o fed_luma ≡ none
            ended = known.inside ∙ rw h₅

            pub no-picture : (n : ℕ) → l.pictures ≡ 0 → seal_fault o fed_capture fed_luma n ≡ fault 14 0
            unfolding no_picture
            no-picture n h =
                behind n ∙ rw (closed, packet, ended, eq-eqb (picture_count o fed_luma) 0 (sym known.pictures ∙ h))

            pub ready : (l.pictures ≡ 0 → ⊥) → Ready st.capture.table st.luma o fed_capture fed_luma c l
            unfolding no_picture
            ready h =
                record {
                  figures = fig;
                  known = known;
                  units = omega arith;
                  some = omega arith;
                  free = λ n. behind n
                      ∙ rw (closed, packet, ended, ne_eqb (picture_count o fed_luma) 0 (λ e. h (known.pictures ∙ e)));
                }

-- ---- what a seal promises

-- a refusal that writes nothing, and a seal that is done
pub refused-leaves : (before : List ℕ) (a : Answer ℕ) (k p : ℕ) → a ≡ refused (listed k) p → Leaves (seal before)
    (sealed_into a before)
refused-leaves before a k p e =
    record {
      kept = λ l q f. refl;
      listed = λ l q f. let i : listed k ≡ l = number (listed k) p l q (rw e at f) in rw i at (listed_in k);
    }
  where
    number : (k p l q : ℕ) → fault k p ≡ fault l q → k ≡ l
    number k p l q e = cc

pub done-leaves : (before after : List ℕ) (a : Answer ℕ) (n : ℕ) → a ≡ Ok n →
    Leaves (seal before) (sealed_into a after)
done-leaves before after a n e =
    record { kept = λ l q f. absurd (never l q (rw e at f)); listed = λ l q f. absurd (never l q (rw e at f)) }
  where
    never : (l q : ℕ) → none ≡ fault l q → ⊥
    never l q f = let z : ◌≡◌ {A = ℕ} 0 1 = cc in omega arith

refuse-post : (w : Words) (before : List ℕ) (a : Answer ℕ) (k p : ℕ) → a ≡ refused (listed k) p →
    ((st : State) (o : Opening) (fed_capture fed_luma : List ℕ) → words_of st ≡ w → Means st o fed_capture fed_luma →
    seal_fault o fed_capture fed_luma (length before) ≡ fault k p) →
    SealPost w before a before
unfolding seal_answer sealed_buffer
refuse-post w before a k p e f =
    record {
      rule =
          λ st o fc fl x m. let i : listed k ≡ k = rw (f st o fc fl x m) at (in-the-table o fc fl (length before)) in
          rw (f st o fc fl x m) (same (e ∙ ap (λ (n : ℕ). refused n p) i));
      refusals = refused-leaves before a k p e;
    }
  where
    same : {b : Answer ℕ} → a ≡ b → sealed_into a before ≡ sealed_into b before
    same x = cc

module _ (w : Words) (before : List ℕ) (c : Summary) (l : of-luma.Summary)
    (cp : SumsUp w.capture.walk w.capture.numbers c) (lp : SummaryPost w.luma l) (a : Answer ℕ) where
  cp-of : (v : Words) → v ≡ w → SumsUp v.capture.walk v.capture.numbers c
  cp-of v x = subst⁻¹ (λ (v : Words). SumsUp v.capture.walk v.capture.numbers c) x cp

  lp-of : (v : Words) → v ≡ w → SummaryPost v.luma l
  lp-of v x = subst⁻¹ (λ (v : Words). SummaryPost v.luma l) x lp

  pub post-capture : a ≡ refused (listed c.number) c.place → (c.number ≡ 0 → ⊥) → SealPost w before a before
  post-capture e h =
      refuse-post w before a _ _ e
      (λ st o fc fl x m. of-capture st o fc fl m c l (cp-of (words_of st) x) (lp-of (words_of st) x)
      (length before) h)

  module _ (h₁ : c.number ≡ 0) where
    pub post-luma : a ≡ refused (listed l.status) l.place → (l.status ≡ 0 → ⊥) → SealPost w before a before
    post-luma e h =
        refuse-post w before a _ _ e
        (λ st o fc fl x m. of-luma-side st o fc fl m c l (cp-of (words_of st) x) (lp-of (words_of st) x) h₁
        (length before) h)

    module _ (h₂ : l.status ≡ 0) where
      pub post-inside-capture : a ≡ refused 11 c.fed → c.inside ≡ true → SealPost w before a before
      post-inside-capture e h =
          refuse-post w before a _ _ e
          (λ st o fc fl x m. inside-capture st o fc fl m c l (cp-of (words_of st) x) (lp-of (words_of st) x) h₁ h₂
          (length before) h)

      module _ (h₃ : c.inside ≡ false) where
        pub post-no-packet : a ≡ refused 12 0 → c.units ≡ 0 → SealPost w before a before
        post-no-packet e h =
            refuse-post w before a _ _ e
            (λ st o fc fl x m. no-packet st o fc fl m c l (cp-of (words_of st) x) (lp-of (words_of st) x) h₁ h₂ h₃
            (length before) h)

        module _ (h₄ : c.units ≡ 0 → ⊥) where
          pub post-inside-luma : a ≡ refused 13 l.fed → l.inside ≡ true → SealPost w before a before
          post-inside-luma e h =
              refuse-post w before a _ _ e
              (λ st o fc fl x m. inside-luma st o fc fl m c l (cp-of (words_of st) x)
              (lp-of (words_of st) x) h₁ h₂ h₃ h₄
              (length before) h)

          module _ (h₅ : l.inside ≡ false) where
            pub post-no-picture : a ≡ refused 14 0 → l.pictures ≡ 0 → SealPost w before a before
            post-no-picture e h =
                refuse-post w before a _ _ e
                (λ st o fc fl x m. no-picture st o fc fl m c l (cp-of (words_of st) x)
                (lp-of (words_of st) x) h₁ h₂ h₃
                h₄ h₅ (length before) h)

            pub post-written : (after : List ℕ) (o : Opening) → o ≡ opening_in w.luma → (l.pictures ≡ 0 → ⊥) →
                WritePost w.capture.table w.luma o c l before a after →
                SealPost w before a after
            post-written after o e h x = record { rule = wrote; refusals = x.refusals }
              where
                same : (st : State) (p : Opening) (fc fl : List ℕ) → words_of st ≡ w → Means st p fc fl → o ≡ p
                same st p fc fl y m = e ∙ ap (λ (v : Words). opening_in v.luma) (sym y) ∙ m.drawn.opening

                wrote : (st : State) (p : Opening) (fc fl : List ℕ) → words_of st ≡ w → Means st p fc fl →
                    sealed_into a after ≡ answer_to p fc fl (seal before)
                wrote st p fc fl y m =
                    let r = ready st p fc fl m c l (cp-of (words_of st) y) (lp-of (words_of st) y) h₁ h₂ h₃ h₄ h₅ h in
                    let r' = subst (λ (v : Words). Ready v.capture.table v.luma p fc fl c l) y r in
                    (subst (λ (q : Opening). WritePost w.capture.table w.luma q c l before a after)
                    (same st p fc fl y m) x
                    ).rule fc fl r'
