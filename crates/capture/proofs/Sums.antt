-- The summary of a state that stands for an opening and joined bytes.
use Prim.Native.Nat.{ℕ, ◌^◌, ◌<◌}
use native.Mathlib.Omega.{arith}
use mathlib.Core.Path.{◌≡◌, refl, sym, ap, ◌∙◌}
use mathlib.Core.List.{List}
use mathlib.Core.Bool.{Bool}
use lib.ListN.{length}
use borrow.Author.Tests.{eq-eqb, ne_eqb}
use Rattle.rules.specs.declared.Opening.{Opening}
use Rattle.rules.specs.Capture.{too_many_units, capture_inside}
use Rattle.capture_laws.proofs.Format.{none_both, capture-format}
use Rattle.capture_laws.proofs.Bounds.{frame-count-few, skipped-few, bad-few}
use Rattle.capture_steps.specs.declared.types.Walk.{Walk}
use Rattle.capture_steps.specs.Format.{format_fault, whole_cells}
use Rattle.capture_steps.specs.State as walk
use Rattle.capture_walk.specs.Contract.{Asks}
use Rattle.capture_steps.proofs.Use.{says-fed, says-clear, says_none, says-frames, says-skipped, clear-long, whole-few}
use Rattle.capture_units.specs.Units.{of_pid, units_in}
use Rattle.capture_units.proofs.Steps.{totals-exact}
use Rattle.capture_units.proofs.Laws.{units-cells, bad-all, pid-few}
use Rattle.capture_counts.specs.declared.Tally.{Tally}
use Rattle.capture.specs.declared.Summary.{Summary}
use Rattle.capture.specs.State.{loaded, Live, Counting, stopped, live, Stands}
use Rattle.capture.specs.Contract.{summary_of, Figures, SumOf, SumsUp}

module _ {kept table : List ℕ} {w : Walk} {t : Tally} {o : Opening} {joined : List ℕ} (st : walk.Stands kept w joined)
    (v : Live table t o joined) (h : w.status ≡ 0) where
  figures : (inside : Bool) → inside ≡ capture_inside joined → Figures table o joined (summary_of w t inside)
  unfolding units_in
  figures inside e =
      let l = clear-long joined (says-clear h st) in
      let a = frame-count-few joined in
      let b = skipped-few joined in
      let c = bad-few o joined in
      let d = pid-few o.edition o.pid (whole_cells joined) in
      let d' = whole-few joined in
      let k = v.counts.table in
      let few : length (of_pid o.edition o.pid (whole_cells joined)) < 2 ^ 24 = omega arith in
      let u = units-cells o joined in
      record {
        good = v.good;
        clear = v.clear;
        limit = l;
        fed = says-fed h st;
        inside = e;
        frames = let x = says-frames h st in omega arith;
        skipped = let x = says-skipped h st in omega arith;
        bad = let x = v.counts.bad ∙ sym (bad-all o joined) in omega arith;
        units = let x = k.count in let y = k.few in let z = ap length u in omega arith;
        packets = rw u (totals-exact k few).0;
        lost = rw u (totals-exact k few).1;
        beside = t.units;
        table = k;
        few = few;
      }

sum-with : {kept table : List ℕ} {w : Walk} {t : Tally} {o : Opening} {joined : List ℕ} (inside : Bool) →
    (w.status ≡ 0 → walk.Stands kept w joined → inside ≡ capture_inside joined) → Stands kept table w t o joined →
    SumOf table o joined (summary_of w t inside)
sum-with {kept} {table} {w} {t} {o} {joined} inside a s = go s.counting
  where
    go : Counting table t o joined → SumOf table o joined (summary_of w t inside)
    go (stopped e k) =
        record { refusal = rw (e, ne_eqb t.status 0 (λ x. omega arith)); figures = λ h. absurd (omega arith) }
    go (live v) =
        let n : t.status ≡ 0 = v.counts.status in
        let f = s.walking n in
        let h : w.status ≡ 0 =
        says_none
        (none_both (format_fault joined) (too_many_units o joined) (sym (capture-format o joined) ∙ v.clear)).0 f in
        record {
          refusal = rw (v.good, v.clear, eq-eqb t.status 0 n);
          figures = λ _. figures f v h inside (a h f);
        }

sum_of : {kept table : List ℕ} {w : Walk} {t : Tally} {o : Opening} {joined : List ℕ} (inside : Bool) →
    Asks w inside → Stands kept table w t o joined →
    SumOf table o joined (summary_of w t inside)
sum_of {kept} {joined = joined} inside a s = sum-with inside (λ h f. a kept joined h f) s

-- of what the arrays stand for, the totals among it: for these nothing is asked of the walk
pub stands-sum : {kept table : List ℕ} {w : Walk} {t : Tally} {o : Opening} {joined : List ℕ} →
    Stands kept table w t o joined →
    SumOf table o joined (summary_of w t (capture_inside joined))
stands-sum {joined = joined} s = sum-with (capture_inside joined) (λ h f. refl) s

pub sum_by : (words numbers : List ℕ) (w : Walk) (t : Tally) (inside : Bool) {r : Summary} →
    w ≡ walk.loaded words → t ≡ loaded numbers → Asks w inside → r ≡ summary_of w t inside → SumsUp words numbers r
sum_by words numbers w t inside we te asks re kept table o joined m =
    let s : Stands kept table w t o joined = rw (we, te) m.stands in
    rw re (sum_of inside asks s)
