-- What an index call comes to: each refusal in document 02's order, and the index.
use Prim.Native.Nat.{ℕ, suc, ◌%◌, ◌^◌, ◌≤◌}
use native.Mathlib.Omega.{arith}
use mathlib.Core.Path.{◌≡◌, refl, sym, ap, subst, ◌∙◌}
use mathlib.Core.List.{List, [], ◌∷◌, map}
use mathlib.Core.Bool.{Bool, true, false}
use lib.ListN.{length}
use borrow.Author.Tests.{eq-eqb, ne_eqb}
use Rattle.rules.specs.declared.Opening.{Opening}
use Rattle.rules.specs.declared.Index.{Index}
use Rattle.std.specs.Prelude.{Ok}
use Rattle.rules.specs.Refusals.{Answer, refused, none, fault, ◌or_else◌, listed}
use Rattle.rules.specs.declared.UnitRow.{UnitRow}
use Rattle.rules.specs.Bytes.{pick, total, only}
use Rattle.rules.specs.Editions.{heeds_splices, knows_damage}
use Rattle.rules.specs.Opening.{opening_fault}
use Rattle.rules.specs.Packets.{Packet}
use Rattle.rules.specs.Units.{Arrival, set_apart, first_arrival, arrivals_after, arrivals, groups, cells_of, unit_of}
use Rattle.rules.specs.Units.{units_of}
use Rattle.rules.specs.Capture.{whole_wanted, units, capture_fault, capture_inside}
use Rattle.rules.specs.Pictures.{luma_fault}
use Rattle.rules.specs.Seal as rule
use Rattle.rules.specs.Seal.{no_packet, no_picture}
use Rattle.rules.specs.WhileFeeding.{index_fault, index_answer}
use Rattle.rules.specs.Calls.{indexed}
use Rattle.rules.proofs.Laws.Listed.{listed_in}
use Rattle.rules.proofs.Laws.Answers.{ok-same, ok-err}
use Rattle.capture_laws.proofs.UnitsMore.{all_packets, groups-end_to_end, rows-packets}
use Rattle.rules.proofs.Laws.WhileFeeding.{index-numbered}
use Rattle.index.specs.Counts.{NoNan, IndexFrom}
use Rattle.capture_steps.specs.State as of-walk
use Rattle.capture.specs.declared.Summary.{Summary}
use Rattle.capture.specs.declared.Totals as capture-totals
use Rattle.capture.specs.State as side-capture
use Rattle.capture.specs.Contract as of-capture
use Rattle.capture.specs.Contract.{SumOf, Figures, summary_of}
use Rattle.capture.proofs.Sums.{stands-sum}
use Rattle.luma_state.specs.State.{loaded}
use Rattle.luma.specs.declared.Summary as luma-summary
use Rattle.luma.specs.declared.Totals as luma-totals
use Rattle.luma.specs.Contract as of-luma
use Rattle.luma.specs.Contract.{Summarised, Known, inside_of}
use Rattle.luma.proofs.Seals.{summarised}
use Rattle.sample_questions.specs.State.{State, Words, Means}
use Rattle.sample_questions.specs.WhileFeeding.{none_of, index_by, IndexPost}
use Rattle.sample_questions.proofs.Refusals.{either}
use Rattle.sample_questions.proofs.Taken.{index-is-rule}

-- ---- 12: a unit has at least one cell, so that no unit and no cell counted in one are the same

no-arrivals : (heeded known : Bool) (ps : List Packet) → length (cells_of (arrivals heeded known ps)) ≡ 0 →
    arrivals heeded known ps ≡ []
unfolding arrivals cells_of only
no-arrivals heeded known [] h = refl
no-arrivals heeded known (p ∷ ps) h = go (set_apart known p) (no-arrivals heeded known ps) h
  where
    more : List Arrival
    more = arrivals_after heeded known p ps

    go : (t : Bool) → (length (cells_of (arrivals heeded known ps)) ≡ 0 → arrivals heeded known ps ≡ []) →
        length (cells_of (pick t (arrivals heeded known ps) (first_arrival p ∷ more))) ≡ 0 →
        pick t (arrivals heeded known ps) (first_arrival p ∷ more) ≡ []
    go true ih h = ih h
    go false ih h = absurd (omega arith)

no_cells : (e : ℕ) (ps : List Packet) → all_packets (units_of e ps) ≡ 0 → units_of e ps ≡ []
unfolding units_of groups
no_cells e ps h =
    let xs = arrivals (heeds_splices e) (knows_damage e) ps in
    let cells : all_packets (map unit_of (groups xs)) ≡ length (cells_of xs) =
    rows-packets (groups xs) ∙ ap (λ (ys : List Arrival). length (cells_of ys)) (groups-end_to_end xs) in
    rw (no-arrivals (heeds_splices e) (knows_damage e) ps (sym cells ∙ h))

none-counted : (us : List UnitRow) → us ≡ [] → all_packets us ≡ 0
none-counted us e = ap all_packets e ∙ unfold total in refl

twelve-of : (us : List UnitRow) → (all_packets us ≡ 0 → us ≡ []) → no_packet us ≡ none_of 12 (all_packets us)
unfolding no_packet total
twelve-of [] h = refl
twelve-of (u ∷ us) h = rw (ne_eqb (all_packets (u ∷ us)) 0 (λ e. never (h e)))
  where
    never : u ∷ us ≡ [] → ⊥
    never e = let z : ◌≡◌ {A = ℕ} (suc (length us)) 0 = ap length e in omega arith

pub twelve-is : (o : Opening) (c : List ℕ) → no_packet (units o c) ≡ none_of 12 (all_packets (units o c))
unfolding units
twelve-is o c = twelve-of (units_of o.edition (whole_wanted o c)) (no_cells o.edition (whole_wanted o c))

-- ---- what an index call finds on its way, from the totals of the two sides

module _ (st : State) (o : Opening) (fed_capture fed_luma : List ℕ) (m : Means st o fed_capture fed_luma) where
  abbrev numbers : List ℕ
  numbers = st.capture.numbers

  abbrev c : Summary
  c = summary_of (of-walk.loaded st.capture.walk) (side-capture.loaded numbers) (capture_inside fed_capture)

  sum : SumOf st.capture.table o fed_capture c
  sum = stands-sum m.captured.stands

  abbrev l : luma-summary.Summary
  l =
      record {
        status = (loaded st.luma).status;
        place = (loaded st.luma).place;
        fed = (loaded st.luma).fed;
        inside = inside_of (loaded st.luma);
        pictures = (loaded st.luma).pictures;
        fresh = (loaded st.luma).fresh;
      }

  seen : Summarised st.luma o fed_luma l
  seen =
      summarised st.luma (loaded st.luma) l refl refl refl refl refl refl refl st.sums st.bins
      st.picture o fed_luma m.drawn

  pub of-capture-side : (c.number ≡ 0 → ⊥) → index_fault o fed_capture fed_luma ≡ fault c.number c.place
  unfolding index_fault
  of-capture-side h =
      let e : opening_fault o or_else capture_fault o fed_capture ≡ fault c.number c.place =
      sum.refusal ∙ rw (ne_eqb c.number 0 h) in
      either (opening_fault o) (capture_fault o fed_capture) _ ∙ rw e

  module _ (h₁ : c.number ≡ 0) where
    fig : Figures st.capture.table o fed_capture c
    fig = sum.figures h₁

    pub of-luma-side : (l.status ≡ 0 → ⊥) → index_fault o fed_capture fed_luma ≡ fault l.status l.place
    unfolding index_fault
    of-luma-side h =
        let e : opening_fault o or_else luma_fault o fed_luma ≡ fault l.status l.place =
        seen.refused (omega arith) in
        let e' : luma_fault o fed_luma ≡ fault l.status l.place = rw fig.good at e in
        rw (fig.good, fig.clear, e')

    module _ (h₂ : l.status ≡ 0) where
      known : Known st.luma o fed_luma l
      known = seen.live h₂

      -- behind refusals 1 to 10
      behind : index_fault o fed_capture fed_luma ≡ none_of 12 c.packets or_else none_of 14 l.pictures
      unfolding index_fault no_picture
      behind = rw (fig.good, fig.clear, known.clear, twelve-is o fed_capture, ← fig.packets, ← known.pictures)

      pub no_cell : c.packets ≡ 0 → index_fault o fed_capture fed_luma ≡ fault 12 0
      no_cell h = behind ∙ rw (eq-eqb c.packets 0 h)

      module _ (h₃ : c.packets ≡ 0 → ⊥) where
        pub no-picture : l.pictures ≡ 0 → index_fault o fed_capture fed_luma ≡ fault 14 0
        no-picture h = behind ∙ rw (ne_eqb c.packets 0 h₃, eq-eqb l.pictures 0 h)

        some-units : 1 ≤ c.units
        some-units =
            let us = units o fed_capture in
            at_least fig.units (λ e. h₃ (fig.packets ∙ none-counted us (empty_of us e)))
          where
            empty_of : (us : List UnitRow) → length us ≡ 0 → us ≡ []
            empty_of [] e = refl
            empty_of (u ∷ us) e = absurd (omega arith)

            at_least : {a b : ℕ} → a ≡ b → (b ≡ 0 → ⊥) → 1 ≤ a
            at_least e f = omega (arith, f)

        module _ (h₄ : l.pictures ≡ 0 → ⊥) where
          pub free : index_fault o fed_capture fed_luma ≡ none
          free = behind ∙ rw (ne_eqb c.packets 0 h₃, ne_eqb l.pictures 0 h₄)

          pub is-rule : (i : Index) →
              IndexFrom (l.fresh % 2 ^ 32) (l.pictures % 2 ^ 32) (c.packets % 2 ^ 32) (c.lost % 2 ^ 32) i →
              i ≡ rule.index o fed_capture fed_luma
          is-rule i e =
              index-is-rule st.capture.table st.luma o fed_capture fed_luma c l fig known some-units
              (omega (arith, h₄)) i e

-- the same, of the totals t and u of the two sides
record Ways (o : Opening) (fed_capture fed_luma : List ℕ) (t : capture-totals.Totals) (u : luma-totals.Totals) :
    Type 0 where
  by_capture : (t.number ≡ 0 → ⊥) → index_fault o fed_capture fed_luma ≡ fault t.number t.place
  by_luma : t.number ≡ 0 → (u.number ≡ 0 → ⊥) → index_fault o fed_capture fed_luma ≡ fault u.number u.place
  by_cells : t.number ≡ 0 → u.number ≡ 0 → t.packets ≡ 0 → index_fault o fed_capture fed_luma ≡ fault 12 0
  by_pictures : t.number ≡ 0 → u.number ≡ 0 → (t.packets ≡ 0 → ⊥) → u.pictures ≡ 0 →
      index_fault o fed_capture fed_luma ≡ fault 14 0
  free_way : t.number ≡ 0 → u.number ≡ 0 → (t.packets ≡ 0 → ⊥) → (u.pictures ≡ 0 → ⊥) →
      index_fault o fed_capture fed_luma ≡ none
  is_index : t.number ≡ 0 → u.number ≡ 0 → (t.packets ≡ 0 → ⊥) → (u.pictures ≡ 0 → ⊥) → (i : Index) →
      IndexFrom (u.fresh % 2 ^ 32) (u.pictures % 2 ^ 32) (t.packets % 2 ^ 32) (t.lost % 2 ^ 32) i →
      i ≡ rule.index o fed_capture fed_luma

ways : (st : State) (o : Opening) (fed_capture fed_luma : List ℕ) → Means st o fed_capture fed_luma →
    Ways o fed_capture fed_luma (of-capture.totals_in st.capture.numbers) (of-luma.totals_in st.luma)
ways st o fc fl m =
    record {
      by_capture = of-capture-side st o fc fl m;
      by_luma = of-luma-side st o fc fl m;
      by_cells = no_cell st o fc fl m;
      by_pictures = no-picture st o fc fl m;
      free_way = free st o fc fl m;
      is_index = is-rule st o fc fl m;
    }

-- ---- what an index call promises

-- the numbers and the luma words, what they total to, the answer
module _ (numbers luma : List ℕ) (t : capture-totals.Totals) (u : luma-totals.Totals)
    (te : t ≡ of-capture.totals_in numbers) (ue : u ≡ of-luma.totals_in luma) (r : Answer Index) where
  -- of every state that has them
  known-ways : (st : State) (o : Opening) (fed_capture fed_luma : List ℕ) → st.capture.numbers ≡ numbers →
      st.luma ≡ luma → Means st o fed_capture fed_luma →
      Ways o fed_capture fed_luma t u
  known-ways st o fc fl x y m =
      subst (λ (t : capture-totals.Totals). Ways o fc fl t u) (ap of-capture.totals_in x ∙ sym te)
      (subst (λ (u : luma-totals.Totals). Ways o fc fl (of-capture.totals_in st.capture.numbers) u)
      (ap of-luma.totals_in y ∙ sym ue) (ways st o fc fl m))

  -- the answer, from the totals
  read : r ≡ index_by t u → r ≡ index_by (of-capture.totals_in numbers) (of-luma.totals_in luma)
  read e =
      e ∙ ap (λ (t : capture-totals.Totals). index_by t u) te
      ∙ ap (λ (u : luma-totals.Totals). index_by (of-capture.totals_in numbers) u) ue

  refused_post : (k p : ℕ) → r ≡ refused (listed k) p → index_by t u ≡ refused (listed k) p →
      ((o : Opening) (fed_capture fed_luma : List ℕ) → Ways o fed_capture fed_luma t u →
      index_fault o fed_capture fed_luma ≡ fault k p) →
      IndexPost numbers luma r
  unfolding index_answer
  refused_post k p e x f =
      record {
        reads = read (e ∙ sym x);
        asked =
            λ walk kept table.
            record {
              rule =
                  λ st o fc fl w m.
                  let x = ap (λ (v : Words). v.capture.numbers) w in
                  let y = ap (λ (v : Words). v.luma) w in
                  let g = f o fc fl (known-ways st o fc fl x y m) in
                  let i : listed k ≡ k = rw g at (index-numbered o fc fl) in
                  rw g (ap indexed (e ∙ ap (λ (n : ℕ). refused n p) i));
              refusals =
                  record {
                    kept = λ n q y. refl;
                    listed =
                        λ n q y.
                        let i : listed k ≡ n = number (listed k) p n q (rw e at y) in rw i at (listed_in k);
                  };
            };
        given = λ i y. absurd (ok-err (sym y ∙ e));
      }
    where
      number : (k p n q : ℕ) → fault k p ≡ fault n q → k ≡ n
      number k p n q e = cc

  pub post-capture : r ≡ refused (listed t.number) t.place → (t.number ≡ 0 → ⊥) → IndexPost numbers luma r
  post-capture e h = refused_post t.number t.place e (rw (ne_eqb t.number 0 h)) (λ o fc fl v. v.by_capture h)

  module _ (h₁ : t.number ≡ 0) where
    pub post-luma : r ≡ refused (listed u.number) u.place → (u.number ≡ 0 → ⊥) → IndexPost numbers luma r
    post-luma e h =
        refused_post u.number u.place e (rw (eq-eqb t.number 0 h₁, ne_eqb u.number 0 h))
        (λ o fc fl v. v.by_luma h₁ h)

    module _ (h₂ : u.number ≡ 0) where
      pub post-cells : r ≡ refused 12 0 → t.packets ≡ 0 → IndexPost numbers luma r
      post-cells e h =
          refused_post 12 0 e (rw (eq-eqb t.number 0 h₁, eq-eqb u.number 0 h₂, eq-eqb t.packets 0 h))
          (λ o fc fl v. v.by_cells h₁ h₂ h)

      module _ (h₃ : t.packets ≡ 0 → ⊥) where
        pub post-pictures : r ≡ refused 14 0 → u.pictures ≡ 0 → IndexPost numbers luma r
        post-pictures e h =
            refused_post 14 0 e
            (rw (eq-eqb t.number 0 h₁, eq-eqb u.number 0 h₂, ne_eqb t.packets 0 h₃, eq-eqb u.pictures 0 h))
            (λ o fc fl v. v.by_pictures h₁ h₂ h₃ h)

        pub post-given : (u.pictures ≡ 0 → ⊥) → (i : Index) →
            IndexFrom (u.fresh % 2 ^ 32) (u.pictures % 2 ^ 32) (t.packets % 2 ^ 32) (t.lost % 2 ^ 32) i →
            r ≡ Ok i → IndexPost numbers luma r
        unfolding index_answer
        post-given h i x e =
            record {
              reads =
                  let a = eq-eqb t.number 0 h₁ in
                  let b = eq-eqb u.number 0 h₂ in
                  read (e ∙ ap Ok x.is ∙ sym (rw (a, b, ne_eqb t.packets 0 h₃, ne_eqb u.pictures 0 h)));
              asked =
                  λ walk kept table.
                  record {
                    rule =
                        λ st o fc fl w m.
                        let y = ap (λ (v : Words). v.capture.numbers) w in
                        let z = ap (λ (v : Words). v.luma) w in
                        let v = known-ways st o fc fl y z m in
                        rw (v.free_way h₁ h₂ h₃ h) (ap indexed (e ∙ ap Ok (v.is_index h₁ h₂ h₃ h i x)));
                    refusals =
                        record {
                          kept = λ n q y. refl;
                          listed = λ n q y. absurd (never n q (rw e at y));
                        };
                  };
              given = λ j y. subst NoNan (ok-same (sym e ∙ y)) x.numbers;
            }
          where
            never : (n q : ℕ) → none ≡ fault n q → ⊥
            never n q y = let z : ◌≡◌ {A = ℕ} 0 1 = cc in omega arith
