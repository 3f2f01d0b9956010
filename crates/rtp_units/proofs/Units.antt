-- Units that are made row by row.
use Prim.Native.Nat.{ℕ, zero, suc, ◌+◌, ◌-◌, ◌*◌, ◌≤◌, ◌<◌, min, max}
use native.Mathlib.Omega.{arith}
use native.Mathlib.Nat.{sub-zero, add-zero}
use native.Mathlib.Numerals.{add-one}
use mathlib.Core.Path.{◌≡◌, refl, sym, ap, ◌∙◌}
use mathlib.Core.Bool.{Bool, true, false}
use mathlib.Core.List.{List, [], ◌∷◌, ◌++◌, map, append_assoc, append-nil}
use lib.ListN.{length, take, get_or, length-append, take-append-drop}
use lib.Dec.{eqb}
use borrow.Author.Tests.{eq-eqb, ne_eqb}
use Rattle.rules.specs.declared.UnitRow.{UnitRow}
use Rattle.rules.specs.Bytes.{pick, smaller, larger, total, greatest_of, least_of, table, All, empty, and}
use Rattle.rules.specs.Bytes.{end_to_end}
use Rattle.rules.specs.Record.{unit_bytes}
use Rattle.record_laws.proofs.Record.{length-unit}
use Rattle.words.specs.Written.{written}
use Rattle.words.proofs.Laws.{written-append}
use Rattle.rules.proofs.Laws.Lists.{smaller-min, larger-max}
use Rattle.rules.specs.Rtp.{RtpRow, RtpLists, place_of, arrival_of, missing_at, rtp_row_at, rtp_rows, rtp_into_first}
use Rattle.rules.specs.Rtp.{rtp_groups, rtp_least, rtp_unit, rtp_units_in}
use Rattle.rtp_order.specs.Order.{Rises, nothing, before, Stayed}
use Rattle.rtp_units.specs.Units.{no_unit, joined, ends_at, rows_bytes}
use Rattle.rtp_order.proofs.Order.{Side, low, high, side}

-- ---- one row more

smaller-assoc : (a b c : ℕ) → smaller a (smaller b c) ≡ smaller (smaller a b) c
smaller-assoc a b c =
    let e : min a (min b c) ≡ min (min a b) c = omega arith in
    smaller-min a (smaller b c) ∙ ap (min a) (smaller-min b c) ∙ e
    ∙ sym (smaller-min (smaller a b) c ∙ ap (λ (x : ℕ). min x c) (smaller-min a b))

least-snoc : (x : ℕ) (g : List RtpRow) (p : RtpRow) →
    least_of x (map (λ y. y.time) (g ++ (p ∷ []))) ≡ smaller (least_of x (map (λ y. y.time) g)) p.time
unfolding least_of
least-snoc x [] p = refl
least-snoc x (y ∷ g) p =
    rw (least-snoc y.time g p) (smaller-assoc x (least_of y.time (map (λ z. z.time) g)) p.time)

greatest-snoc : (g : List RtpRow) (p : RtpRow) →
    greatest_of (map (λ y. y.time) (g ++ (p ∷ []))) ≡ larger (greatest_of (map (λ y. y.time) g)) p.time
unfolding greatest_of
greatest-snoc [] p =
    let e : max p.time 0 ≡ max 0 p.time = omega arith in
    larger-max p.time 0 ∙ e ∙ sym (larger-max 0 p.time)
greatest-snoc (y ∷ g) p =
    let m = greatest_of (map (λ z. z.time) g) in
    let e : max y.time (max m p.time) ≡ max (max y.time m) p.time = omega arith in
    ap (larger y.time) (greatest-snoc g p)
    ∙ (larger-max y.time (larger m p.time) ∙ ap (max y.time) (larger-max m p.time) ∙ e
    ∙ sym (larger-max (larger y.time m) p.time ∙ ap (λ (x : ℕ). max x p.time) (larger-max y.time m)))

total-snoc : (f : RtpRow → ℕ) (g : List RtpRow) (p : RtpRow) → total (map f (g ++ (p ∷ []))) ≡ total (map f g) + f p
unfolding total
total-snoc f [] p = omega arith
total-snoc f (y ∷ g) p = omega (arith, total-snoc f g p)

abbrev pub with : UnitRow → RtpRow → UnitRow
with u p = joined u p.time p.size p.missing

least_more : (g : List RtpRow) (p : RtpRow) →
    rtp_least (g ++ (p ∷ [])) ≡ pick (eqb (length g) 0) p.time (smaller (rtp_least g) p.time)
unfolding rtp_least least_of
least_more [] p = refl
least_more (y ∷ g) p = rw (ne_eqb (suc (length g)) 0 (λ e. omega arith)) (least-snoc y.time g p)

length_more : (g : List RtpRow) (p : RtpRow) → length (g ++ (p ∷ [])) ≡ length g + 1
length_more g p = length-append g (p ∷ [])

unit-snoc : (g : List RtpRow) (p : RtpRow) → rtp_unit (g ++ (p ∷ [])) ≡ with (rtp_unit g) p
unfolding rtp_unit
unit-snoc g p =
    rw (
      least_more g p,
      greatest-snoc g p,
      total-snoc (λ x. x.size) g p,
      length_more g p,
      total-snoc
          (λ x. x.missing) g p,
    )

-- ---- units onto a unit that is being made

-- a row ends a unit by its marker, or as the last
ends_here : RtpRow → List RtpRow → Bool
ends_here p [] = true
ends_here p (q ∷ ps) = p.marked

pub units_onto : UnitRow → List RtpRow → List UnitRow
units_onto u [] = []
units_onto u (p ∷ ps) = pick (ends_here p ps) (with u p ∷ units_onto no_unit ps) (units_onto (with u p) ps)

-- the first group with some rows in front
prefixed : List RtpRow → List (List RtpRow) → List (List RtpRow)
prefixed g [] = []
prefixed g (h ∷ hs) = (g ++ h) ∷ hs

prefixed-none : (gs : List (List RtpRow)) → prefixed [] gs ≡ gs
unfolding prefixed
prefixed-none [] = refl
prefixed-none (h ∷ hs) = refl

-- some rows have some group
data Some : List (List RtpRow) → Type 0 where
  some : (h : List RtpRow) (hs : List (List RtpRow)) → Some (h ∷ hs)

groups-some : (p : RtpRow) (ps : List RtpRow) → Some (rtp_groups (p ∷ ps))
unfolding rtp_groups
groups-some p ps = go p.marked (rtp_groups ps)
  where
    go : (b : Bool) (more : List (List RtpRow)) → Some (pick b ((p ∷ []) ∷ more) (rtp_into_first p more))
    go true more = some (p ∷ []) more
    go false [] = some (p ∷ []) []
    go false (h ∷ hs) = some (p ∷ h) hs

into-prefixed : (g : List RtpRow) (p : RtpRow) (gs : List (List RtpRow)) → Some gs →
    prefixed g (rtp_into_first p gs) ≡ prefixed (g ++ (p ∷ [])) gs
unfolding prefixed
into-prefixed g p _ (some h hs) = ap (λ (x : List RtpRow). x ∷ hs) (sym (append_assoc g (p ∷ []) h))

unit-none : rtp_unit [] ≡ no_unit
unfolding rtp_unit rtp_least greatest_of total
unit-none = refl

from-none : (ps : List RtpRow) → units_onto (rtp_unit []) ps ≡ map rtp_unit (prefixed [] (rtp_groups ps)) →
    units_onto no_unit ps ≡ map rtp_unit (rtp_groups ps)
from-none ps e =
    ap (λ (u : UnitRow). units_onto u ps) (sym unit-none) ∙ (e ∙ ap (map rtp_unit) (prefixed-none (rtp_groups ps)))

onto-groups : (g ps : List RtpRow) → units_onto (rtp_unit g) ps ≡ map rtp_unit (prefixed g (rtp_groups ps))
unfolding units_onto ends_here rtp_groups prefixed
onto-groups g [] = refl
onto-groups g (p ∷ []) = go p.marked
  where
    go : (b : Bool) → with (rtp_unit g) p ∷ [] ≡ map rtp_unit (prefixed g (pick b ((p ∷ []) ∷ []) ((p ∷ []) ∷ [])))
    go true = ap (λ (u : UnitRow). u ∷ []) (sym (unit-snoc g p))
    go false = ap (λ (u : UnitRow). u ∷ []) (sym (unit-snoc g p))
onto-groups g (p ∷ q ∷ ps) =
    go p.marked (from-none (q ∷ ps) (onto-groups [] (q ∷ ps))) (onto-groups (g ++ (p ∷ [])) (q ∷ ps))
  where
    go : (b : Bool) → units_onto no_unit (q ∷ ps) ≡ map rtp_unit (rtp_groups (q ∷ ps)) →
        units_onto (rtp_unit (g ++ (p ∷ []))) (q ∷ ps)
        ≡ map rtp_unit (prefixed (g ++ (p ∷ [])) (rtp_groups (q ∷ ps))) →
        pick b (with (rtp_unit g) p ∷ units_onto no_unit (q ∷ ps)) (units_onto (with (rtp_unit g) p) (q ∷ ps))
        ≡ map rtp_unit (prefixed g (pick b ((p ∷ []) ∷ rtp_groups (q ∷ ps)) (rtp_into_first p (rtp_groups (q ∷ ps)))))
    go true e f = cc (unit-snoc g p, e)
    go false e f =
        ap (λ (u : UnitRow). units_onto u (q ∷ ps)) (sym (unit-snoc g p)) ∙ f
        ∙ ap (map rtp_unit) (sym (into-prefixed g p (rtp_groups (q ∷ ps)) (groups-some q ps)))

-- ---- the rows in order, one by one

module _ (l : RtpLists) (rows : List ℕ) where
  -- the rows from row i on
  abbrev pub from : ℕ → List RtpRow
  from i = table (length rows - i) i (rtp_row_at l rows)

  pub onto-units : units_onto no_unit (from 0) ≡ rtp_units_in l rows
  unfolding rtp_units_in rtp_rows
  onto-units = rw (sub-zero (length rows)) (from-none (rtp_rows l rows) (onto-groups [] (rtp_rows l rows)))

  from-none-left : (i : ℕ) → length rows ≤ i → from i ≡ []
  unfolding table
  from-none-left i h = let z : length rows - i ≡ 0 = omega arith in rw z

  from_next : (i : ℕ) → i < length rows → from i ≡ rtp_row_at l rows i ∷ from (i + 1)
  unfolding table
  from_next i h =
      let more : length rows - i ≡ suc (length rows - (i + 1)) = omega arith in
      rw (more, add-one i)

  pub onto-none : (i : ℕ) (u : UnitRow) → length rows ≤ i → units_onto u (from i) ≡ []
  unfolding units_onto
  onto-none i u h = rw (from-none-left i h)

  ends-here : (i : ℕ) → i < length rows → ends_here (rtp_row_at l rows i) (from (i + 1)) ≡ ends_at l.marker rows i
  unfolding ends_here
  ends-here i h = go (side (length rows) (i + 1))
    where
      last : (m : Bool) → true ≡ pick m true true
      last true = refl
      last false = refl

      inner : (m : Bool) → m ≡ pick m true false
      inner true = refl
      inner false = refl

      go : Side (length rows) (i + 1) → ends_here (rtp_row_at l rows i) (from (i + 1)) ≡ ends_at l.marker rows i
      go (low k) =
          rw (from-none-left (i + 1) k, eq-eqb (i + 1) (length rows) (omega arith))
          (last (rtp_row_at l rows i).marked)
      go (high k) =
          rw (from_next (i + 1) k, ne_eqb (i + 1) (length rows) (λ e. omega arith))
          (inner (rtp_row_at l rows i).marked)

  module _ (i : ℕ) (h : i < length rows) (u : UnitRow) where
    pub onto-ended : ends_at l.marker rows i ≡ true →
        units_onto u (from i) ≡ with u (rtp_row_at l rows i) ∷ units_onto no_unit (from (i + 1))
    unfolding units_onto
    onto-ended e = rw (from_next i h, ends-here i h, e)

    pub onto-more : ends_at l.marker rows i ≡ false →
        units_onto u (from i) ≡ units_onto (with u (rtp_row_at l rows i)) (from (i + 1))
    unfolding units_onto
    onto-more e = rw (from_next i h, ends-here i h, e)

-- how many they are does not depend on the unit that is being made
pub onto-length : (u v : UnitRow) (ps : List RtpRow) → length (units_onto u ps) ≡ length (units_onto v ps)
unfolding units_onto
onto-length u v [] = refl
onto-length u v (p ∷ ps) = go (ends_here p ps) (onto-length (with u p) (with v p) ps)
  where
    go : (b : Bool) → length (units_onto (with u p) ps) ≡ length (units_onto (with v p) ps) →
        length (pick b (with u p ∷ units_onto no_unit ps) (units_onto (with u p) ps))
        ≡ length (pick b (with v p ∷ units_onto no_unit ps) (units_onto (with v p) ps))
    go true e = refl
    go false e = e

-- ---- units, counted

module _ (l : RtpLists) (rows : List ℕ) (i units all : ℕ)
    (rest : units + length (units_onto no_unit (from l rows i)) ≡ all) where
  pub counted : i < length rows → ends_at l.marker rows i ≡ true →
      units + 1 + length (units_onto no_unit (from l rows (i + 1))) ≡ all
  counted h e = omega (arith, rest, ap length (onto-ended l rows i h no_unit e))

  pub not-counted : i < length rows → ends_at l.marker rows i ≡ false →
      units + length (units_onto no_unit (from l rows (i + 1))) ≡ all
  not-counted h e =
      omega (
        arith,
        rest,
        ap length (onto-more l rows i h no_unit e),
        onto-length
            (with no_unit (rtp_row_at l rows i)) no_unit (from l rows (i + 1)),
      )

  pub all-counted : length rows ≤ i → units ≡ all
  all-counted h = omega (arith, rest, ap length (onto-none l rows i no_unit h))

-- ---- rows in order, at a place

pub all-at : {P : ℕ → Type 0} (xs : List ℕ) (i : ℕ) → All P xs → i < length xs → P (get_or xs i 0)
all-at [] i empty h = absurd (omega arith)
all-at (x ∷ xs) zero (and k ks) h = k
all-at (x ∷ xs) (suc i) (and k ks) h = all-at xs i ks (omega arith)

pub rises-at : (xs : List ℕ) (i : ℕ) → Rises xs → i + 1 < length xs → get_or xs i 0 ≤ get_or xs (i + 1) 0
rises-at xs i r h = rw (add-one i) (go xs i r (omega arith))
  where
    go : (xs : List ℕ) (i : ℕ) → Rises xs → suc i < length xs → get_or xs i 0 ≤ get_or xs (suc i) 0
    go [] i nothing h = absurd (omega arith)
    go (x ∷ xs) zero (before k r) h = all-at xs zero k (omega arith)
    go (x ∷ xs) (suc i) (before k r) h = go xs i r (omega arith)

-- ---- missing places

pub missing-first : (rows : List ℕ) (i : ℕ) → i ≡ 0 → missing_at rows i ≡ 0
unfolding missing_at
missing-first rows i e = rw (eq-eqb i 0 e)

pub missing-behind : (rows : List ℕ) (i : ℕ) → (i ≡ 0 → ⊥) →
    missing_at rows i ≡ place_of (get_or rows i 0) - place_of (get_or rows (i - 1) 0) - 1
unfolding missing_at
missing-behind rows i h = rw (ne_eqb i 0 h)

table_none : (f : ℕ → ℕ) → total (table 0 0 f) ≡ 0
unfolding total table
table_none f = refl

table-first : (f : ℕ → ℕ) (m : ℕ) → total (table (suc m) 0 f) ≡ f 0 + total (table m (0 + 1) f)
unfolding total table
table-first f m = refl

-- the sum of what is missing from row i on
pub missing-step : (rows : List ℕ) (i : ℕ) → i < length rows →
    total (table (length rows - i) i (missing_at rows))
    ≡ missing_at rows i + total (table (length rows - (i + 1)) (i + 1) (missing_at rows))
unfolding total table
missing-step rows i h =
    let more : length rows - i ≡ suc (length rows - (i + 1)) = omega arith in
    rw (more, add-one i)

missing-next : (rows : List ℕ) (i : ℕ) → Rises rows → i + 1 < length rows →
    missing_at rows (i + 1) + place_of (get_or rows i 0) ≤ place_of (get_or rows (i + 1) 0)
unfolding missing_at
missing-next rows i r h =
    let e : i + 1 - 1 ≡ i = omega arith in
    let k = rises-at rows i r h in
    rw (ne_eqb (i + 1) 0 (λ z. omega arith), e) (omega arith)

missing-total : (rows : List ℕ) (k i : ℕ) → Rises rows → i + k < length rows →
    total (table k (i + 1) (missing_at rows)) + place_of (get_or rows i 0) ≤ place_of (get_or rows (i + k) 0)
unfolding total table
missing-total rows zero i r h = rw (add-zero i) (omega arith)
missing-total rows (suc k) i r h =
    let next : i + suc k ≡ i + 1 + k = omega arith in
    let more = missing-total rows k (i + 1) r (omega arith) in
    rw (next, ← add-one (i + 1)) (omega (arith, more, missing-next rows i r (omega arith)))

-- all missing places together
pub missing-most : (n : ℕ) (rows : List ℕ) → Stayed n rows →
    total (table (length rows - 0) 0 (missing_at rows)) < 536870912
missing-most n rows w = rw (sub-zero (length rows)) (go (length rows) refl)
  where
    first : missing_at rows 0 ≡ 0
    first = missing-first rows 0 refl

    none : total (table 0 0 (missing_at rows)) ≡ 0
    none = table_none (missing_at rows)

    go : (m : ℕ) → length rows ≡ m → total (table m 0 (missing_at rows)) < 536870912
    go zero e = omega (arith, none)
    go (suc m) e =
        let k = missing-total rows m 0 w.rises (omega arith) in
        let p = (all-at rows (0 + m) w.each (omega arith)).place in
        omega (arith, k, p, first, table-first (missing_at rows) m)

-- ---- the end of a unit

module _ (marker rows : List ℕ) (i k : ℕ) (is-k : k ≡ arrival_of (get_or rows i 0)) where
  pub ends-marked : (get_or marker k 0 ≡ 0 → ⊥) → true ≡ ends_at marker rows i
  ends-marked h = rw (← is-k, ne_eqb (get_or marker k 0) 0 h)

  pub ends_last : get_or marker k 0 ≡ 0 → eqb (i + 1) (length rows) ≡ ends_at marker rows i
  ends_last h = rw (← is-k, eq-eqb (get_or marker k 0) 0 h)

-- ---- unit rows in the buffer, one behind the other

written_none : (at : ℕ) (s : List ℕ) → written at [] s ≡ s
unfolding written
written_none at s = rw (append-nil (take at s), add-zero at) (take-append-drop at s)

module _ (l : RtpLists) (rows : List ℕ) (i : ℕ) (u : UnitRow) (j : ℕ) (s all : List ℕ)
    (room : 32 * j + 32 * length (units_onto u (from l rows i)) ≤ length s)
    (rest : written (32 * j) (rows_bytes (units_onto u (from l rows i))) s ≡ all) where
  module _ (h : i < length rows) where
    module _ (e : ends_at l.marker rows i ≡ true) where
      here : units_onto u (from l rows i) ≡ with u (rtp_row_at l rows i) ∷ units_onto no_unit (from l rows (i + 1))
      here = onto-ended l rows i h u e

      pub room-put : 32 * (j + 1) + 32 * length (units_onto no_unit (from l rows (i + 1))) ≤ length s
      room-put = omega (arith, room, ap length here)

      pub rows-put : (t : List ℕ) → t ≡ written (32 * j) (unit_bytes (with u (rtp_row_at l rows i))) s →
          written (32 * (j + 1)) (rows_bytes (units_onto no_unit (from l rows (i + 1)))) t ≡ all
      unfolding end_to_end
      rows-put t k =
          let v = unit_bytes (with u (rtp_row_at l rows i)) in
          let more = rows_bytes (units_onto no_unit (from l rows (i + 1))) in
          let at : 32 * (j + 1) ≡ 32 * j + length v = omega (arith, length-unit (with u (rtp_row_at l rows i))) in
          let fits : 32 * j + length v ≤ length s =
          omega (arith, room-put, length-unit (with u (rtp_row_at l rows i))) in
          let now : written (32 * j) (v ++ more) s ≡ all = rw here at rest in
          rw (k, at) (written-append (32 * j) v s fits more ∙ now)

    module _ (e : ends_at l.marker rows i ≡ false) where
      pub room-more : 32 * j + 32 * length (units_onto (with u (rtp_row_at l rows i)) (from l rows (i + 1)))
          ≤ length s
      room-more = omega (arith, room, ap length (onto-more l rows i h u e))

      pub rows_more : written (32 * j)
          (rows_bytes (units_onto (with u (rtp_row_at l rows i)) (from l rows (i + 1)))) s
          ≡ all
      rows_more = rw (onto-more l rows i h u e) at rest

  pub rows_written : length rows ≤ i → s ≡ all
  unfolding end_to_end
  rows_written h =
      let now : written (32 * j) [] s ≡ all = rw (onto-none l rows i u h) at rest in
      sym (written_none (32 * j) s) ∙ now
