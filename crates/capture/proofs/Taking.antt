-- What each event of the walk does to the counts.
use Prim.Native.Nat.{ℕ, ◌+◌, ◌≤◌, ◌<◌}
use native.Mathlib.Omega.{arith}
use mathlib.Core.Path.{◌≡◌, sym, ap, ◌∙◌}
use mathlib.Core.List.{List, [], ◌∷◌, ◌++◌, append-nil, map}
use lib.ListN.{length, length-append}
use Rattle.rules.specs.declared.Opening.{Opening}
use Rattle.rules.specs.Refusals.{none, fault}
use Rattle.rules.specs.Opening.{opening_fault}
use Rattle.rules.specs.Capture.{capture_fault}
use Rattle.capture_cells.specs.declared.Cell.{Cell}
use Rattle.capture_cells.specs.Cells.{head}
use Rattle.capture_steps.specs.declared.types.Walk.{Walk}
use Rattle.capture_steps.specs.Format.{format_fault, whole_cells}
use Rattle.capture_steps.specs.State as walk
use Rattle.capture_steps.specs.Contract.{Gains, Level, Halts}
use Rattle.capture_steps.proofs.Use.{says-clear, clear-long, whole-few}
use Rattle.capture_units.specs.Units.{nine_in}
use Rattle.capture_units.proofs.Laws.{nine-level, on-nothing, on-shown, on-whole, on-cells, on-refused}
use Rattle.capture_counts.specs.declared.Tally.{Tally}
use Rattle.capture_counts.specs.Counts.{Counted, going, stopped as ended, Checked, fits, full, Checks}
use Rattle.capture_counts.specs.Counts.{Accounts, Runs}
use Rattle.capture.specs.State.{Live, Counting, stopped, live}

never : {k p : ℕ} → fault k p ≡ none → ⊥
never e = let z : ◌≡◌ {A = ℕ} 0 1 = cc in omega arith

-- a refusal that the bytes show now
stop : {table : List ℕ} {r : Tally} {o : Opening} {joined : List ℕ} → opening_fault o ≡ none →
    capture_fault o joined ≡ fault r.status r.place → 0 < r.status →
    Counting table r o joined
stop good e h = stopped (rw good e) h

-- the bytes allow no more cells than 32 bits count
few : (s : List ℕ) → format_fault s ≡ none → length (whole_cells s) < 4294967296
few s c = let a = clear-long s c in let b = whole-few s in omega arith

module _ {table : List ℕ} {t : Tally} {o : Opening} {before after : List ℕ} (v : Live table t o before) where
  pub take-nothing : Gains before after [] [] → Counting table t o after
  take-nothing g =
      live (record {
        good = v.good;
        clear = on-nothing o g v.clear;
        counts = rw (g.whole, append-nil (whole_cells before)) v.counts;
      })

  pub take-shown : {r : Tally} (c : Cell) → Checks t c r → c.place ≤ 268435456 → Gains before after (c ∷ []) [] →
      Level before → Counting table r o after
  take-shown {r} c ch small g l = go (ch table o.edition o.pid (whole_cells before) (omega arith) v.counts)
    where
      go : Checked t c r o.edition o.pid (whole_cells before) → Counting table r o after
      go (fits e n) = rw e (live
          (record {
            good = v.good;
            clear = on-shown o g l
                ∙ n;
            counts = rw (g.whole, append-nil (whole_cells before)) v.counts;
          }))
      go (full s) = stop v.good (on-shown o g l ∙ s.nine) s.some

  pub take_whole : {table' : List ℕ} {r : Tally} (c : Cell) → Accounts table t c table' r →
      Gains before after [] (c ∷ []) → Level after → Counting table' r o after
  take_whole c ac g l =
      let clear = on-whole o g v.clear in
      let n : nine_in o.edition o.pid (whole_cells before ++ c ∷ []) ≡ none =
      rw g.whole at (nine-level o after l clear) in
      let k : length (whole_cells before) < 4294967296 = let a = few after g.clear in let b = ap length g.whole
      ∙ length-append (whole_cells before) (c ∷ []) in omega arith in
      live (record {
        good = v.good;
        clear = clear;
        counts = rw g.whole (ac o.edition o.pid (whole_cells before) k n v.counts);
      })

  pub take_cells : {table' : List ℕ} {r : Tally} (cs : List Cell) → Runs table t cs table' r →
      Gains before after (map head cs) cs → Level before → Counting table' r o after
  take_cells {table'} {r} cs ru g l = go (ru o.edition o.pid (whole_cells before) k v.counts)
    where
      k : length (whole_cells before) + length cs < 4294967296
      k = let a = few after g.clear in let b =
          ap length g.whole ∙ length-append (whole_cells before) cs in omega arith

      go : Counted table' r o.edition o.pid (whole_cells before ++ cs) → Counting table' r o after
      go (going c) = live (record { good = v.good; clear = on-cells o g l ∙ c.nine; counts = rw g.whole c })
      go (ended s) = stop v.good (on-cells o g l ∙ s.nine) s.some

pub take-refused : {table : List ℕ} {t r : Tally} {o : Opening} {before : List ℕ} (kept chunk : List ℕ) (w : Walk) →
    Live table t o before → walk.Stands kept w (before ++ chunk) →
    format_fault (before ++ chunk) ≡ fault w.status w.place → Halts w before (before ++ chunk) →
    r.status ≡ w.status → r.place ≡ w.place →
    Counting table r o (before ++ chunk)
take-refused {o = o} {before = before} kept chunk w v st e h rs rp =
    let z : (w.status ≡ 0 → ⊥) = λ y. never (sym e ∙ says-clear y st) in
    stop v.good (rw (rs, rp) (on-refused o before chunk w v.clear e h)) (omega (arith, z))
