-- Turns one behind the other: those that bring nothing, and the one that brings something.
use Prim.Native.Nat.{ℕ, ◌+◌, ◌-◌, ◌≤◌, ◌<◌}
use Prim.{tt}
use native.Mathlib.Omega.{arith}
use native.Mathlib.Decide.{dec_lt}
use mathlib.Core.Path.{◌≡◌, sym, ap, subst, ◌∙◌}
use mathlib.Core.List.{List, [], ◌++◌, append-nil, append_assoc, map}
use lib.ListN.{length, take, drop}
use lib.Seq.{take-add, drop-drop}
use Rattle.rules.specs.Refusals.{none}
use Rattle.capture_cells.specs.declared.Cell.{Cell}
use Rattle.capture_cells.specs.Cells.{head}
use Rattle.capture_steps.specs.declared.types.Walk.{Walk}
use Rattle.capture_steps.specs.declared.types.Event.{Event}
use Rattle.capture_steps.specs.declared.types.Event.TheVariants.{Nothing, Shown, Whole, Cells, Refused}
use Rattle.capture_steps.specs.declared.types.Step.{Step}
use Rattle.capture_steps.specs.Format.{format_fault, shown_cells, whole_cells}
use Rattle.capture_steps.specs.State.{Stands}
use Rattle.capture_steps.specs.Contract.{Gains, Level, silent, Tells, Calm}
use Rattle.capture_walk.specs.Contract.{Stood, Turned, Stepped}
use Rattle.capture_steps.proofs.Pieces.{many-taken}
use Rattle.capture_steps.proofs.Use.{says_none}
use Rattle.capture_walk.proofs.Standing.{refuse-again, limit}

-- kept and w stand for the bytes mid, which show no more than those before; from byte i to byte at of a piece
pub record Quiet (kept : List ℕ) (w : Walk) (i at : ℕ) (before mid : List ℕ) : Type 0 where
  pub stands : Stands kept w mid
  pub clear : i < at → format_fault mid ≡ none
  pub shown : shown_cells mid ≡ shown_cells before
  pub whole : whole_cells mid ≡ whole_cells before

abbrev pub up_to : List ℕ → List ℕ → ℕ → ℕ → List ℕ
up_to joined piece i at = joined ++ take (at - i) (drop i piece)

-- turns that brought nothing
pub record Still (kept : List ℕ) (s : Walk) (piece : List ℕ) (i : ℕ) (kept' : List ℕ) (w : Walk) (at : ℕ) : Type 0
  where
    pub still : (joined : List ℕ) → Stands kept s joined → Quiet kept' w i at joined (up_to joined piece i at)

-- ---- bytes

at_first : (joined piece : List ℕ) (i at : ℕ) → at ≤ i → up_to joined piece i at ≡ joined
at_first joined piece i at h =
    ap (λ (n : ℕ). joined ++ take n (drop i piece)) (let z : at - i ≡ 0 = omega arith in z) ∙ append-nil joined

further : (joined piece : List ℕ) (i at n : ℕ) → i ≤ at →
    up_to joined piece i (at + n) ≡ up_to joined piece i at ++ take n (drop at piece)
further joined piece i at n h =
    let a : at + n - i ≡ at - i + n = omega arith in
    let b : i + (at - i) ≡ at = omega arith in
    let d : drop (at - i) (drop i piece) ≡ drop at piece =
    drop-drop (at - i) i piece ∙ ap (λ (m : ℕ). drop m piece) b in
    ap (λ (m : ℕ). joined ++ take m (drop i piece)) a
    ∙ ap (λ (x : List ℕ). joined ++ x) (take-add (at - i) n (drop i piece))
    ∙ sym (append_assoc joined (take (at - i) (drop i piece)) (take n (drop (at - i) (drop i piece))))
    ∙ ap (λ (x : List ℕ). up_to joined piece i at ++ take n x) d

-- ---- what is told from mid on is told from before it on

module _ (before mid after : List ℕ) (sh : shown_cells mid ≡ shown_cells before)
    (wh : whole_cells mid ≡ whole_cells before) where
  gains-on : {news fulls : List Cell} → Gains mid after news fulls → Gains before after news fulls
  gains-on {news} {fulls} g =
      record {
        clear = g.clear;
        shown = g.shown ∙ ap (λ (x : List Cell). x ++ news) sh;
        whole = g.whole ∙ ap (λ (x : List Cell). x ++ fulls) wh;
      }

  level-on : Level mid → Level before
  level-on l = sym sh ∙ l ∙ ap (map head) wh

  tells-on : (e : Event) (w : Walk) (piece : List ℕ) → Tells e w piece mid after → Calm e mid after →
      Tells e w piece before after
  tells-on Nothing w piece t c = gains-on t
  tells-on (Shown x) w piece t c = (gains-on t.0, level-on t.1)
  tells-on (Whole x) w piece t c = (gains-on t.0, t.1)
  tells-on (Cells r) w piece t c = (gains-on t.0, level-on t.1)
  tells-on Refused w piece t c = (t.0, silent (c ∙ sh))

-- ---- turns

pub still-none : (kept : List ℕ) (s : Walk) (piece : List ℕ) (i : ℕ) → Still kept s piece i kept s i
still-none kept s piece i =
    record {
      still = λ joined st.
          let e = at_first joined piece i i (omega arith) in
          record {
            stands = rw e st;
            clear = λ h. absurd (omega arith);
            shown = rw e;
            whole = rw e;
          };
    }

module _ {k k' : List ℕ} {s w : Walk} {piece : List ℕ} {i at : ℕ} (q : Still k s piece i k' w at) (le : i ≤ at) where
  -- one more that brings nothing
  pub still-more : {k'' : List ℕ} {r : Step} → Turned k' w piece at k'' r → r.event ≡ Nothing →
      Still k s piece i k'' r.walk (at + r.taken)
  still-more {k''} {r} t ev = record { still = λ joined st. go joined (q.still joined st) }
    where
      go : (joined : List ℕ) → Quiet k' w i at joined (up_to joined piece i at) →
          Quiet k'' r.walk i (at + r.taken) joined (up_to joined piece i (at + r.taken))
      go joined u =
          let mid = up_to joined piece i at in
          let p = t.goes.goes mid u.stands in
          let g : Gains mid (mid ++ take r.taken (drop at piece)) [] [] =
          subst (λ (e : Event). Tells e r.walk piece mid (mid ++ take r.taken (drop at piece))) ev p.tells in
          rw (further joined piece i at r.taken le)
          (record {
            stands = p.stands;
            clear = λ h. g.clear;
            shown = g.shown ∙ append-nil (shown_cells mid) ∙ u.shown;
            whole = g.whole ∙ append-nil (whole_cells mid) ∙ u.whole;
          })

  -- one that brings something, or nothing
  pub still-then : {k'' : List ℕ} {r : Step} → Turned k' w piece at k'' r →
      Stepped k s piece i k'' (record { taken = at + r.taken - i; walk = r.walk; event = r.event })
  still-then {k''} {r} t =
      record {
        some = omega (arith, t.some);
        most = omega (arith, t.most);
        fits = t.goes.fits;
        goes = λ joined st.
            let u = q.still joined st in
            let p = t.goes.goes (up_to joined piece i at) u.stands in
            rw (further joined piece i at r.taken le)
            (record {
              stands = p.stands;
              tells = tells-on _ _ _ u.shown u.whole r.event r.walk piece p.tells p.calm;
            });
      }

  -- none more
  pub still-so-far : i < at → at ≤ length piece →
      Stepped k s piece i k' (record { taken = at - i; walk = w; event = Nothing })
  still-so-far h l =
      record {
        some = omega arith;
        most = omega arith;
        fits = tt;
        goes = λ joined st.
            let u = q.still joined st in
            record {
              stands = u.stands;
              tells = record {
                clear = u.clear h;
                shown = u.shown ∙ sym (append-nil (shown_cells joined));
                whole = u.whole ∙ sym (append-nil (whole_cells joined));
              };
            };
      }

  -- a refusal stands already
  pub still-refused : i < length piece → (w.status ≡ 0 → ⊥) →
      Stepped k s piece i k' (record { taken = length piece - i; walk = w; event = Refused })
  still-refused l h =
      record {
        some = omega arith;
        most = omega arith;
        fits = tt;
        goes = λ joined st. go joined (q.still joined st) (dec_lt i at);
      }
    where
      go : (joined : List ℕ) → Quiet k' w i at joined (up_to joined piece i at) → Dec (i < at) →
          Stood k' (record { taken = length piece - i; walk = w; event = Refused }) piece joined
          (joined ++ take (length piece - i) (drop i piece))
      go joined u (yes d) = absurd (h (says_none (u.clear d) u.stands))
      go joined u (no d) =
          refuse-again _ _ h (rw (at_first joined piece i at (omega arith)) at u.stands)

  -- 4: the limit
  pub still-limit : {r : Walk} → at ≤ i → i < length piece → w.status ≡ 0 → 268435456 ≤ w.fed → r.status ≡ 4 →
      r.place ≡ 268435456 → Stepped k s piece i k' (record { taken = length piece - i; walk = r; event = Refused })
  still-limit b l z f rs rp =
      record {
        some = omega arith;
        most = omega arith;
        fits = tt;
        goes = λ joined st.
            limit _ _ _ z f (rw (many-taken piece i (length piece - i) (omega arith)) (omega arith)) rs rp
            (rw (at_first joined piece i at b) at (q.still joined st).stands);
      }
