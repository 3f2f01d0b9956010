-- A cell more, and a run of cells.
use Rattle.std.proofs.Common.{◌≡◌, ℕ, zero, suc, ◌+◌, ◌-◌, ◌*◌, ◌%◌, ◌^◌, ◌<◌, ◌≤◌, Bool, true, false, not}
use Rattle.std.proofs.Common.{◌&&◌, eqb, ltb, List, [], ◌∷◌, ◌++◌, map, length, drop, sym, refl, ap, ◌∙◌, subst}
use Rattle.std.proofs.Common.{true≢false, append_assoc, append-nil, arith, length-append, length-drop}
use Rattle.std.proofs.Common.{eq-eqb, eqb-true}
use mathlib.Core.Bool.{false≢true}
use Rattle.rules.specs.Bytes.{pick, count, only}
use Rattle.rules.specs.Refusals.{none, fault}
use Rattle.rules.specs.Packets.{is_bad, is_damaged, packets_from}
use Rattle.rules.specs.Units as rule
use Rattle.rules.specs.Capture.{begins_at}
use Rattle.rules.proofs.Laws.Lists.{both, count-append, count-few}
use Rattle.capture_laws.proofs.Onward.{from-split}
use Rattle.capture_cells.specs.declared.Cell.{Cell}
use Rattle.capture_cells.specs.Cells.{cell_in, cell_of}
use Rattle.capture_steps.specs.Format.{cells_from}
use Rattle.capture_steps.proofs.Lists.{cells-more, from-cells, map-append}
use Rattle.capture_units.specs.declared.Units.{Units}
use Rattle.capture_units.specs.Units.{is_of, seen, all_of, from_sound, before_sound, of_pid, bad_in}
use Rattle.capture_units.specs.Units.{arrivals_after, arrivals}
use Rattle.capture_units.specs.Units.{beginnings, nine_in}
use Rattle.capture_units.specs.State as table
use Rattle.capture_units.specs.Contract as units
use Rattle.capture_units.proofs.More.{begins-nine, units-none, units-some}
use Rattle.capture_units.proofs.Steps.{none_yet}
use Rattle.capture_units.proofs.Laws.{all-few, all_append, from-append, from-none, before-some, before-none, nine-kept}
use Rattle.capture_counts.specs.declared.Tally.{Tally}
use Rattle.capture_counts.specs.Counts.{Counts, Counted, going, stopped, Checked, fits, full, Accounts}
use Rattle.capture_counts.specs.Counts.{Runs, Checks, Takes, with_bad, Included, as_bad, as_unit, passed_by}

-- ---- a cell more

few-nine : (e pid : ℕ) (cs : List Cell) → nine_in e pid cs ≡ none → length (beginnings (of_pid e pid cs)) ≤ 750
unfolding nine_in
few-nine e pid cs h = go (drop 750 (beginnings (of_pid e pid cs))) (length-drop 750 (beginnings (of_pid e pid cs))) h
  where
    go : (xs : List rule.Arrival) → length xs ≡ length (beginnings (of_pid e pid cs)) - 750 → begins_at xs ≡ none →
        length (beginnings (of_pid e pid cs)) ≤ 750
    go [] z n = omega arith
    go (x ∷ xs) z n = let y : ◌≡◌ {A = ℕ} 0 1 = cc in absurd (omega arith)

all_more : (e pid : ℕ) (cs : List Cell) (c : Cell) →
    all_of e pid (cs ++ c ∷ []) ≡ all_of e pid cs ++ pick (is_of pid c) (seen e c ∷ []) []
unfolding all_of only
all_more e pid cs c = all_append e pid cs (c ∷ []) ∙ ap (λ (x : List Cell). all_of e pid cs ++ x) (one (is_of pid c))
  where
    one : (t : Bool) → map (seen e) (pick t (c ∷ []) []) ≡ pick t (seen e c ∷ []) []
    one true = refl
    one false = refl

-- how a cell of the identifier comes: damaged before the first unit, or behind those that units are made of
data Comes (e pid : ℕ) (cs : List Cell) (c : Cell) : Type 0 where
  early : of_pid e pid cs ≡ [] → is_damaged (seen e c).condition ≡ true → of_pid e pid (cs ++ c ∷ []) ≡ [] →
      before_sound (all_of e pid (cs ++ c ∷ [])) ≡ before_sound (all_of e pid cs) + 1 → Comes e pid cs c
  joins : (of_pid e pid cs ≡ [] → is_damaged (seen e c).condition ≡ false) →
      of_pid e pid (cs ++ c ∷ []) ≡ of_pid e pid cs ++ seen e c ∷ [] →
      before_sound (all_of e pid (cs ++ c ∷ [])) ≡ before_sound (all_of e pid cs) → Comes e pid cs c

none_left : (xs : List Cell) → Dec (xs ≡ [])
none_left [] = yes refl
none_left (x ∷ xs) = no (λ e. let z : ◌≡◌ {A = ℕ} 0 1 = cc in omega arith)

comes : (e pid : ℕ) (cs : List Cell) (c : Cell) → is_of pid c ≡ true → Comes e pid cs c
unfolding of_pid
comes e pid cs c h = go (none_left (from_sound all)) (is_damaged (seen e c).condition) refl
  where
    all : List Cell
    all = all_of e pid cs

    more : all_of e pid (cs ++ c ∷ []) ≡ all ++ seen e c ∷ []
    more = all_more e pid cs c ∙ ap (λ (t : Bool). all ++ pick t (seen e c ∷ []) []) h

    go : Dec (from_sound all ≡ []) → (d : Bool) → is_damaged (seen e c).condition ≡ d → Comes e pid cs c
    go (yes n) true z =
        early n z
        (ap from_sound more ∙ from-none all (seen e c) n ∙ ap (λ (t : Bool). pick t [] (seen e c ∷ [])) z)
        (ap before_sound more ∙ before-none all (seen e c) n ∙ ap (λ (t : Bool). before_sound all + pick t 1 0) z)
    go (yes n) false z =
        joins (λ _. z)
        (ap from_sound more ∙ from-none all (seen e c) n ∙ ap (λ (t : Bool). pick t [] (seen e c ∷ [])) z
        ∙ ap (λ (x : List Cell). x ++ seen e c ∷ []) (sym n))
        (ap before_sound more ∙ before-none all (seen e c) n ∙ ap (λ (t : Bool). before_sound all + pick t 1 0) z
        ∙ omega arith)
    go (no n) d z =
        joins (λ m. absurd (n m)) (ap from_sound more ∙ from-append all (seen e c ∷ []) n)
        (ap before_sound more ∙ before-some all (seen e c ∷ []) n)

-- the table is of no unit exactly if no cell has come
none-if : {w : List ℕ} {s : Units} {ps : List Cell} → table.Stands w s ps → s.count ≡ 0 → ps ≡ []
none-if {ps = []} st z = refl
none-if {ps = x ∷ ps} st z = absurd (omega (arith, st.count, units-some x ps))

zero-if : {w : List ℕ} {s : Units} {ps : List Cell} → table.Stands w s ps → ps ≡ [] → s.count ≡ 0
zero-if {ps = []} st z = st.count ∙ ap length units-none
zero-if {ps = x ∷ ps} st z = let y : ◌≡◌ {A = ℕ} 0 1 = cc in absurd (omega arith)

-- bad cells
bad_more : (e pid : ℕ) (cs : List Cell) (c : Cell) (n : ℕ) →
    before_sound (all_of e pid (cs ++ c ∷ [])) ≡ before_sound (all_of e pid cs) + n →
    bad_in e pid (cs ++ c ∷ []) ≡ bad_in e pid cs + pick (is_bad c.condition) 1 0 + n
unfolding bad_in count
bad_more e pid cs c n h = let a = count-append (λ (x : Cell). is_bad x.condition) cs (c ∷ []) in omega arith

before-few : (xs : List Cell) → before_sound xs ≤ length xs
unfolding before_sound
before-few [] = omega arith
before-few (c ∷ cs) = go (is_damaged c.condition) (before-few cs)
  where
    go : (t : Bool) → before_sound cs ≤ length cs → pick t (suc (before_sound cs)) 0 ≤ suc (length cs)
    go true h = omega arith
    go false h = omega arith

bad-few : (e pid : ℕ) (cs : List Cell) → bad_in e pid cs ≤ 2 * length cs
unfolding bad_in
bad-few e pid cs =
    let a = count-few (λ (x : Cell). is_bad x.condition) cs in
    let b = before-few (all_of e pid cs) in
    let c = all-few e pid cs in
    omega arith

-- one of the identifier is not bad
not-bad : (pid : ℕ) (c : Cell) → is_of pid c ≡ true → ◌≡◌ {A = ℕ} (pick (is_bad c.condition) 1 0) 0
not-bad pid c h = go (is_bad c.condition) (eqb c.identifier pid) h
  where
    go : (x y : Bool) → not x && y ≡ true → ◌≡◌ {A = ℕ} (pick x 1 0) 0
    go true y z = absurd (false≢true z)
    go false y z = refl

module _ (t : Tally) (c : Cell) (b : Bool) (be : b ≡ is_of t.pid c) where
  is-of : {w : List ℕ} {e pid : ℕ} {cs : List Cell} → Counts w t e pid cs → is_of pid c ≡ b
  is-of k = ap (λ (n : ℕ). is_of n c) (sym k.own) ∙ sym be

  -- one of another identifier, or a bad one
  module _ (f : b ≡ false) {w : List ℕ} (e pid : ℕ) (cs : List Cell) (k : Counts w t e pid cs) where
    all-no : all_of e pid (cs ++ c ∷ []) ≡ all_of e pid cs
    all-no = all_more e pid cs c ∙ rw (is-of k, f) (append-nil (all_of e pid cs))

    of-no : of_pid e pid (cs ++ c ∷ []) ≡ of_pid e pid cs
    of-no = unfold of_pid in ap from_sound all-no

    nine-no : nine_in e pid (cs ++ c ∷ []) ≡ none
    nine-no = unfold nine_in in rw of-no (unfold nine_in in k.nine)

  pub check-other : b ≡ false → (w : List ℕ) (e pid : ℕ) (cs : List Cell) → c.place + 3 < 18446744073709551616 →
      Counts w t e pid cs → Checked t c t e pid cs
  check-other f w e pid cs h k = fits refl (nine-no f e pid cs k)

  -- one of the identifier, d as it is seen
  module _ {d : Cell} (de : d ≡ seen t.edition c) (f : b ≡ true) where
    seen-is : {w : List ℕ} {e pid : ℕ} {cs : List Cell} → Counts w t e pid cs → d ≡ seen e c
    seen-is k = de ∙ ap (λ (n : ℕ). seen n c) k.edition

    module _ {g : Bool} (fu : units.Full t.units d g) where
      nine-is : (w : List ℕ) (e pid : ℕ) (cs : List Cell) → Counts w t e pid cs →
          nine_in e pid (cs ++ c ∷ []) ≡ pick g (fault 9 (c.place + 3)) none
      nine-is w e pid cs k = go (comes e pid cs c (is-of k ∙ f))
        where
          told : g ≡ ltb 750 (length (beginnings (of_pid e pid cs ++ seen e c ∷ [])))
          told = fu w (of_pid e pid cs) k.table
              ∙ ap (λ (x : Cell). ltb 750 (length (beginnings (of_pid e pid cs ++ x ∷ [])))) (seen-is k)

          go : Comes e pid cs c → nine_in e pid (cs ++ c ∷ []) ≡ pick g (fault 9 (c.place + 3)) none
          go (early n z o m) =
              let q : g ≡ false = told ∙ ap (λ (x : List Cell). ltb 750 (length (beginnings (x ++ seen e c ∷ [])))) n
              ∙ (unfold beginnings arrivals arrivals_after only in refl) in
              rw q (unfold nine_in in rw o (unfold beginnings arrivals only in refl))
          go (joins n o m) = unfold nine_in in
              rw o (begins-nine (of_pid e pid cs) (seen e c) (few-nine e pid cs k.nine) ∙ rw (← told))

      pub check-room : g ≡ false → (w : List ℕ) (e pid : ℕ) (cs : List Cell) → c.place + 3 < 18446744073709551616 →
          Counts w t e pid cs → Checked t c t e pid cs
      check-room n w e pid cs h k = fits refl (nine-is w e pid cs k ∙ rw n)

      pub check-full : (r : Tally) → g ≡ true → r.status ≡ 9 → r.place ≡ (c.place + 3) % 2 ^ 64 →
          (w : List ℕ) (e pid : ℕ) (cs : List Cell) → c.place + 3 < 18446744073709551616 →
          Counts w t e pid cs → Checked t c r e pid cs
      check-full r n rs rp w e pid cs h k =
          let p : r.place ≡ c.place + 3 = omega arith in
          full (record { some = omega arith; nine = rw (rs, p) (nine-is w e pid cs k ∙ rw n) })

    -- it is counted: as a bad cell, where it is damaged before the first unit
    module _ {y : Bool} (ye : y ≡ eqb t.units.count 0 && is_damaged d.condition) where
      zero-first : y ≡ true → (t.units.count ≡ 0) × (is_damaged d.condition ≡ true)
      zero-first z = let x = both (eqb t.units.count 0) (is_damaged d.condition) (sym ye ∙ z) in
          (eqb-true t.units.count 0 x.0, x.1)

      pub account-early : {w : List ℕ} → y ≡ true → Accounts w t c w (with_bad t)
      account-early {w} z e pid cs l n k = go (comes e pid cs c (is-of k ∙ f))
        where
          go : Comes e pid cs c → Counts w (with_bad t) e pid (cs ++ c ∷ [])
          go (early nothing broken o m) =
              record {
                status = k.status;
                own = k.own;
                edition = k.edition;
                bad =
                    let a = bad_more e pid cs c 1 m in
                    let v = bad-few e pid cs in
                    let x = k.bad in
                    let w = not-bad pid c (is-of k ∙ f) in
                    omega arith;
                table = rw (o ∙ sym nothing) k.table;
                nine = n;
              }
          go (joins clean o m) =
              absurd (true≢false (sym (zero-first z).1 ∙ ap (λ (x : Cell). is_damaged x.condition) (seen-is k)
              ∙ clean (none-if k.table (zero-first z).0)))

      pub account-wanted : {w w' : List ℕ} (r : Tally) → y ≡ false → units.Added w t.units d r.units w' →
          r.status ≡ t.status → r.pid ≡ t.pid → r.edition ≡ t.edition → r.bad ≡ t.bad → Accounts w t c w' r
      account-wanted {w} {w'} r z ad rs rp re rb e pid cs l n k = go (comes e pid cs c (is-of k ∙ f))
        where
          go : Comes e pid cs c → Counts w' r e pid (cs ++ c ∷ [])
          go (early nothing broken o m) =
              let y' =
              ye
              ∙ ap (λ (q : Bool). q && is_damaged d.condition)
              (eq-eqb t.units.count 0 (zero-if k.table nothing))
              ∙ ap (λ (x : Cell). is_damaged x.condition) (seen-is k)
              ∙ broken in
              absurd (true≢false (sym y' ∙ z))
          go (joins clean o m) =
              let q = few-nine e pid (cs ++ c ∷ []) n in
              record {
                status = rs ∙ k.status;
                own = rp ∙ k.own;
                edition = re ∙ k.edition;
                bad =
                    let a = bad_more e pid cs c 0 (m ∙ omega arith) in
                    let x = k.bad in
                    let w = not-bad pid c (is-of k ∙ f) in
                    omega arith;
                table =
                    let added = subst (λ (x : Cell). units.Added w t.units x r.units w') (seen-is k) ad in
                    rw o (added (of_pid e pid cs) k.table (rw o at q));
                nine = n;
              }

  -- one that is not of the identifier: it is bad, or nothing changes
  module _ (f : b ≡ false) {g : Bool} (ge : g ≡ is_bad c.condition) where
    other-bad : {w : List ℕ} {e pid : ℕ} {cs : List Cell} → Counts w t e pid cs →
        bad_in e pid (cs ++ c ∷ []) ≡ bad_in e pid cs + pick g 1 0
    other-bad {e = e} {pid = pid} {cs = cs} k =
        bad_more e pid cs c 0 (ap before_sound (all-no f e pid cs k) ∙ omega arith)
        ∙ ap (λ (x : Bool). bad_in e pid cs + pick x 1 0 + 0) (sym ge) ∙ omega arith

    pub account-bad : {w : List ℕ} → g ≡ true → Accounts w t c w (with_bad t)
    account-bad z e pid cs l n k =
        record {
          status = k.status;
          own = k.own;
          edition = k.edition;
          bad = let a = other-bad k in let v = bad-few e pid cs in let x = k.bad in let y = one z in omega arith;
          table = rw (of-no f e pid cs k) k.table;
          nine = n;
        }
      where
        one : g ≡ true → ◌≡◌ {A = ℕ} (pick g 1 0) 1
        one z = ap (λ (x : Bool). pick x 1 0) z

    pub account-same : {w : List ℕ} → g ≡ false → Accounts w t c w t
    account-same z e pid cs l n k =
        record {
          status = k.status;
          own = k.own;
          edition = k.edition;
          bad = let a = other-bad k in let x = k.bad in let y = one z in omega arith;
          table = rw (of-no f e pid cs k) k.table;
          nine = n;
        }
      where
        one : g ≡ false → ◌≡◌ {A = ℕ} (pick g 1 0) 0
        one z = ap (λ (x : Bool). pick x 1 0) z

-- ---- shown and whole

-- of the identifier
pub account-in : (t : Tally) (c : Cell) (b : Bool) → b ≡ is_of t.pid c → {d : Cell} → d ≡ seen t.edition c →
    b ≡ true → {w w' : List ℕ} {r : Tally} → Included w t d w' r → Accounts w t c w' r
account-in t c b be de f (as_bad y z s) = rw (z, s) (account-early t c b be de f (sym y) refl)
account-in t c b be de f {r = r} (as_unit u y ad s) =
    rw s (account-wanted t c b be de f (sym y) _ refl ad refl refl refl refl)

-- not of it
pub account-out : (t : Tally) (c : Cell) (b : Bool) → b ≡ is_of t.pid c → b ≡ false → {w : List ℕ} →
    Accounts w t c w (passed_by t c)
account-out t c b be f {w} = go (is_bad c.condition) refl
  where
    go : (g : Bool) → g ≡ is_bad c.condition → Accounts w t c w (pick g (with_bad t) t)
    go true z = account-bad t c b be f z refl
    go false z = account-same t c b be f z refl

-- a cell that is refused when it is shown, and one that is not
pub takes_none : {w w' : List ℕ} {t r : Tally} {c : Cell} → Checks t c r → (r.status ≡ 0 → ⊥) → Takes w t c w' r
takes_none {w} {w'} {t} {r} {c} ch z e pid cs p l k = go (ch w e pid cs p k)
  where
    go : Checked t c r e pid cs → Counted w' r e pid (cs ++ c ∷ [])
    go (fits y f) = absurd (z (ap (λ (x : Tally). x.status) y ∙ k.status))
    go (full s) = stopped s

pub takes_one : {w w' : List ℕ} {t r : Tally} {c : Cell} → Checks t c t → Accounts w t c w' r → Takes w t c w' r
takes_one {w} {w'} {t} {r} {c} ch ac e pid cs p l k = go (ch w e pid cs p k)
  where
    go : Checked t c t e pid cs → Counted w' r e pid (cs ++ c ∷ [])
    go (fits y f) = going (ac e pid cs l f k)
    go (full s) = let y = s.some in let z = k.status in absurd (omega arith)

-- no cell yet
pub counts-none : (w : List ℕ) (pid edition : ℕ) → length w ≡ 3750 →
    Counts w
    (record {
      status = 0;
      place = 0;
      pid = pid;
      bad = 0;
      units = record { count = 0; previous = 0; packets = 0; lost = 0 };
      edition = edition;
    })
    edition pid []
counts-none w pid edition h =
    record {
      status = refl;
      own = refl;
      edition = refl;
      bad = unfold bad_in count all_of only before_sound in refl;
      table = unfold of_pid all_of only from_sound in none_yet w h;
      nine = unfold nine_in of_pid all_of only from_sound beginnings arrivals in refl;
    }

-- ---- a run

length-cells : (n time place : ℕ) (s : List ℕ) → length (cells_from n time place s) ≡ n
unfolding cells_from
length-cells zero time place s = refl
length-cells (suc n) time place s = ap suc (length-cells n time (place + 188) (drop 188 s))

cells-split : (a b time place : ℕ) (s : List ℕ) → cells_from (a + b) time place s ≡ cells_from a time place s
    ++ cells_from b time (place + 188 * a) (drop (188 * a) s)
cells-split a b time place s =
    sym (from-cells (a + b) time place s)
    ∙ ap (map cell_of) (from-split a b time place s)
    ∙ map-append cell_of (packets_from a time place s) (packets_from b time (place + 188 * a) (drop (188 * a) s))
    ∙ rw (from-cells a time place s, from-cells b time (place + 188 * a) (drop (188 * a) s))

-- the first k cells are in
pub record Going (w : List ℕ) (t : Tally) (ds : List Cell) (w' : List ℕ) (r : Tally) : Type 0 where
  pub goes : (e pid : ℕ) (cs : List Cell) → length cs + length ds < 4294967296 → Counts w t e pid cs →
      Counts w' r e pid (cs ++ ds)

pub going-none : (w : List ℕ) (t : Tally) (time place : ℕ) (s : List ℕ) → Going w t (cells_from 0 time place s) w t
going-none w t time place s = record { goes = λ e pid cs l k. unfold cells_from in rw (append-nil cs) k }

pub going-all : {w w' : List ℕ} {t r : Tally} (k n time place : ℕ) (s : List ℕ) → k ≡ n →
    Going w t (cells_from k time place s) w' r → Runs w t (cells_from n time place s) w' r
going-all k n time place s y g e pid cs l c = going (rw y at (g.goes e pid cs (rw y l) c))

module _ {w w' w'' : List ℕ} {t d r : Tally} (k time place : ℕ) (s : List ℕ) (c : Cell)
    (g : Going w t (cells_from k time place s) w' d) (small : place + 188 * k ≤ 268435456)
    (ce : c ≡ cell_in time (place + 188 * k) (drop (188 * k) s)) (ta : Takes w' d c w'' r) where
  abbrev ds : List Cell
  ds = cells_from k time place s

  here : c.place + 3 < 18446744073709551616
  here = let p : c.place ≡ place + 188 * k = rw ce (unfold cell_in in refl) in omega arith

  one_more : cells_from (k + 1) time place s ≡ ds ++ c ∷ []
  one_more = cells-more k time place s ∙ rw (← ce)

  -- one cell more is in, or shows 9
  more : (n : ℕ) → k < n → (e pid : ℕ) (cs : List Cell) →
      length cs + length (cells_from n time place s) < 4294967296 → Counts w t e pid cs →
      Counted w'' r e pid (cs ++ ds ++ c ∷ [])
  more n h e pid cs l q =
      let a = length-cells n time place s in
      let b = length-cells k time place s in
      let f = length-append cs ds in
      ta e pid (cs ++ ds) here (omega arith) (g.goes e pid cs (omega arith) q)

  -- a cell that shows 9 ends it
  pub going-stops : (n : ℕ) → k < n → (r.status ≡ 0 → ⊥) → Runs w t (cells_from n time place s) w'' r
  going-stops n h z e pid cs l q = go (more n h e pid cs l q)
    where
      rest : List Cell
      rest = cells_from (n - (k + 1)) time (place + 188 * (k + 1)) (drop (188 * (k + 1)) s)

      all : cells_from n time place s ≡ ds ++ c ∷ [] ++ rest
      all =
          let y : n ≡ k + 1 + (n - (k + 1)) = omega arith in
          ap (λ (x : ℕ). cells_from x time place s) y
          ∙ cells-split (k + 1) (n - (k + 1)) time place s
          ∙ ap (λ (x : List Cell). x ++ rest) one_more

      go : Counted w'' r e pid (cs ++ ds ++ c ∷ []) →
          Counted w'' r e pid (cs ++ cells_from n time place s)
      go (going x) = absurd (z x.status)
      go (stopped st) =
          let y : cs ++ cells_from n time place s ≡ cs ++ ds ++ c ∷ [] ++ rest =
          ap (λ (x : List Cell). cs ++ x) all ∙ simp append_assoc in
          stopped (record {
            some = st.some;
            nine = rw y (nine-kept e pid (cs ++ ds ++ c ∷ []) rest r.status r.place st.nine);
          })

  -- one that does not is counted
  pub going_more : r.status ≡ 0 → Going w t (cells_from (k + 1) time place s) w'' r
  going_more z = record { goes = λ e pid cs l q. go e pid cs (more (k + 1) (omega arith) e pid cs l q) }
    where
      go : (e pid : ℕ) (cs : List Cell) → Counted w'' r e pid (cs ++ ds ++ c ∷ []) →
          Counts w'' r e pid (cs ++ cells_from (k + 1) time place s)
      go e pid cs (going x) = rw (one_more, ← append_assoc cs ds (c ∷ [])) x
      go e pid cs (stopped st) = let y = st.some in absurd (omega arith)
