-- Rows that stayed, in order: the order is a permutation of them, their places climb, and cells and lost over all
-- units are the span of places.
use Prim.Native.Nat.{ℕ, zero, suc, ◌+◌, ◌-◌, ◌≤◌, ◌<◌}
use native.Mathlib.Omega.{arith}
use native.Mathlib.Nat.{add-zero}
use native.Mathlib.Numerals.{add-one}
use mathlib.Core.Path.{◌≡◌, refl, ap, ◌∙◌}
use mathlib.Core.Bool.{Bool, true, false}
use mathlib.Core.List.{List, [], ◌∷◌, map}
use lib.ListN.{length, get_or}
use lib.Dec.{eqb}
use borrow.Author.Tests.{eqb-false, ne_eqb}
use Rattle.rules.specs.declared.UnitRow.{UnitRow}
use Rattle.rules.specs.Bytes.{pick, total, count, table, All, empty, and}
use Rattle.rules.specs.Cuts.{insert, sorted}
use Rattle.rules.specs.Rtp.{RtpRow, RtpLists, place_of, places, rows_from, firsts, ordered, missing_at, rtp_row_at}
use Rattle.rules.specs.Rtp.{rtp_rows, rtp_into_first, rtp_groups, rtp_unit, rtp_units_in, rtp_units, OrderKeepsRows}
use Rattle.rules.specs.Rtp.{SpanIsWhole}
use Rattle.rtp_order.specs.Order.{Rises, nothing, before, new_places}
use Rattle.rtp_order.proofs.Order.{Side, low, high, side, insert-low, insert-high, rises_sorted}
use Rattle.rtp_order.proofs.Firsts.{new-ordered}

-- ---- each row stands in the order as often as among those that stayed

insert-count : (x y : ℕ) (l : List ℕ) → count (eqb x) (insert y l) ≡ count (eqb x) (y ∷ l)
unfolding insert count
insert-count x y [] = refl
insert-count x y (z ∷ l) = go (side y z) (insert-count x y l)
  where
    go : Side y z → count (eqb x) (insert y l) ≡ count (eqb x) (y ∷ l) →
        count (eqb x) (insert y (z ∷ l)) ≡ count (eqb x) (y ∷ z ∷ l)
    go (low h) e = rw (insert-low y z l h)
    go (high h) e = rw (insert-high y z l h, e) (omega arith)

sorted-count : (x : ℕ) (l : List ℕ) → count (eqb x) (sorted l) ≡ count (eqb x) l
unfolding sorted count
sorted-count x [] = refl
sorted-count x (y ∷ l) = insert-count x y (sorted l) ∙ ap (λ (k : ℕ). pick (eqb x y) 1 0 + k) (sorted-count x l)

pub order-keeps : OrderKeepsRows
unfolding ordered
order-keeps s x = sorted-count x (firsts (rows_from 0 (places s)))

-- ---- their places climb

-- each place above the one before, the first above p
data Climbs : ℕ → List ℕ → Type 0 where
  top : {p : ℕ} → Climbs p []
  above : {p r : ℕ} {rs : List ℕ} → p < place_of r → Climbs (place_of r) rs → Climbs p (r ∷ rs)

new-climb : (p : ℕ) (l : List ℕ) → Rises l → All (λ (r : ℕ). p ≤ place_of r) l → Climbs p (new_places p l)
unfolding new_places
new-climb p [] nothing empty = top
new-climb p (r ∷ rs) (before lows rest) (and h hs) =
    go (eqb (place_of r) p) refl (new-climb p rs rest hs) (new-climb (place_of r) rs rest (higher rs lows))
  where
    higher : (l : List ℕ) → All (λ (y : ℕ). r ≤ y) l → All (λ (y : ℕ). place_of r ≤ place_of y) l
    higher [] empty = empty
    higher (y ∷ l) (and k ks) = and {x = y} (omega arith) (higher l ks)

    go : (b : Bool) → eqb (place_of r) p ≡ b → Climbs p (new_places p rs) →
        Climbs (place_of r) (new_places (place_of r) rs) →
        Climbs p (pick b (new_places p rs) (r ∷ new_places (place_of r) rs))
    go true e f g = f
    go false e f g = let apart : place_of r ≡ p → ⊥ = eqb-false (place_of r) p e in
        above {p = p} {r = r} (omega arith) g

none_below : (l : List ℕ) → All (λ (r : ℕ). 0 ≤ place_of r) l
none_below [] = empty
none_below (r ∷ l) = and {x = r} (omega arith) (none_below l)

ordered-climb : (s : List ℕ) → length s ≤ 4096 → Climbs 0 (ordered s)
ordered-climb s h =
    let rows = sorted (rows_from 0 (places s)) in
    rw (← new-ordered s h) (new-climb 0 rows (rises_sorted (rows_from 0 (places s))) (none_below rows))

climbs-at : {p : ℕ} {rows : List ℕ} → Climbs p rows → (i : ℕ) → i + 1 < length rows →
    place_of (get_or rows i 0) < place_of (get_or rows (i + 1) 0)
climbs-at top i h = absurd (omega arith)
climbs-at (above f top) i h = absurd (omega arith)
climbs-at (above f (above g c)) zero h = g
climbs-at (above f (above g c)) (suc i) h =
    let next : suc i + 1 ≡ suc (i + 1) = omega arith in
    rw next (climbs-at (above g c) i (omega arith))

-- ---- missing places and rows fill the span

module _ (rows : List ℕ) (climb : Climbs 0 rows) where
  next_place : (i : ℕ) → i + 1 < length rows →
      missing_at rows (i + 1) + 1 + place_of (get_or rows i 0) ≡ place_of (get_or rows (i + 1) 0)
  unfolding missing_at
  next_place i h =
      let e : i + 1 - 1 ≡ i = omega arith in
      let k = climbs-at climb i h in
      rw (ne_eqb (i + 1) 0 (λ z. omega arith), e) (omega arith)

  filled : (k i : ℕ) → i + k < length rows →
      total (table k (i + 1) (missing_at rows)) + k + place_of (get_or rows i 0) ≡ place_of (get_or rows (i + k) 0)
  unfolding total table
  filled zero i h = rw (add-zero i) (omega arith)
  filled (suc k) i h =
      let next : i + suc k ≡ i + 1 + k = omega arith in
      rw (next, ← add-one (i + 1)) (omega (arith, filled k (i + 1) (omega arith), next_place i (omega arith)))

-- nothing is missing before the first row
missing-rest : (rows : List ℕ) (m : ℕ) →
    total (table (suc m) 0 (missing_at rows)) ≡ total (table m (0 + 1) (missing_at rows))
unfolding total table missing_at
missing-rest rows m = omega arith

-- ---- units add up to their rows

weight : RtpRow → ℕ
weight p = 1 + p.missing

unit-weight : (g : List RtpRow) → (rtp_unit g).packets + (rtp_unit g).lost ≡ total (map weight g)
unfolding rtp_unit total weight
unit-weight [] = refl
unit-weight (p ∷ g) = omega (arith, unit-weight g)

into_total : (p : RtpRow) (gs : List (List RtpRow)) →
    total (map (λ g. total (map weight g)) (rtp_into_first p gs))
    ≡ weight p + total (map (λ g. total (map weight g)) gs)
unfolding total
into_total p [] = omega arith
into_total p (g ∷ gs) = omega arith

groups-total : (ps : List RtpRow) → total (map (λ g. total (map weight g)) (rtp_groups ps)) ≡ total (map weight ps)
unfolding rtp_groups total
groups-total [] = refl
groups-total (p ∷ ps) = go p.marked (groups-total ps)
  where
    go : (b : Bool) → total (map (λ g. total (map weight g)) (rtp_groups ps)) ≡ total (map weight ps) →
        total (map (λ g. total (map weight g)) (pick b ((p ∷ []) ∷ rtp_groups ps) (rtp_into_first p (rtp_groups ps))))
        ≡ weight p + total (map weight ps)
    go true e = omega (arith, e)
    go false e = omega (arith, e, into_total p (rtp_groups ps))

units-total : (gs : List (List RtpRow)) →
    total (map (λ (u : UnitRow). u.packets + u.lost) (map rtp_unit gs)) ≡ total (map (λ g. total (map weight g)) gs)
unfolding total
units-total [] = refl
units-total (g ∷ gs) = omega (arith, unit-weight g, units-total gs)

rows-total : (l : RtpLists) (rows : List ℕ) (n i : ℕ) →
    total (map weight (table n i (rtp_row_at l rows))) ≡ n + total (table n i (missing_at rows))
unfolding total table weight
rows-total l rows zero i = refl
rows-total l rows (suc n) i = omega (arith, rows-total l rows n (suc i))

pub span-is-whole : SpanIsWhole
unfolding rtp_units rtp_units_in rtp_rows
span-is-whole s l h some =
    let rows = ordered s in
    units-total (rtp_groups (table (length rows) 0 (rtp_row_at l rows)))
    ∙ groups-total (table (length rows) 0 (rtp_row_at l rows))
    ∙ rows-total l rows (length rows) 0
    ∙ go (length rows) refl
  where
    go : (n : ℕ) → length (ordered s) ≡ n →
        n + total (table n 0 (missing_at (ordered s)))
        ≡ place_of (get_or (ordered s) (n - 1) 0) + 1 - place_of (get_or (ordered s) 0 0)
    go zero e = absurd (omega arith)
    go (suc n) e =
        let rows = ordered s in
        let last : suc n - 1 ≡ 0 + n = omega arith in
        let span = filled rows (ordered-climb s h) n 0 (omega arith) in
        rw last (omega (arith, span, missing-rest rows n))
