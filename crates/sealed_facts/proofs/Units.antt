-- Each unit row of a sample is sound.
use Prim.Native.Nat.{ℕ, zero, suc, ◌+◌, ◌-◌, ◌*◌, ◌≤◌, ◌<◌}
use native.Mathlib.Omega.{arith}
use mathlib.Core.Path.{◌≡◌, refl}
use mathlib.Core.List.{List, [], ◌∷◌, map}
use mathlib.Core.Bool.{Bool, true, false, not, ◌&&◌}
use lib.ListN.{length, get_or}
use borrow.Author.Tests.{ne_eqb}
use Rattle.rules.specs.declared.Opening.{Opening}
use Rattle.rules.specs.declared.UnitRow.{UnitRow}
use Rattle.rules.specs.Bytes.{pick, total, only, All, and, empty, Bytes}
use Rattle.rules.specs.Editions.{heeds_splices, knows_damage}
use Rattle.rules.specs.Packets.{Packet, counter, splice_mark}
use Rattle.rules.specs.Units.{Arrival, loss_between, set_apart, first_arrival, damaged_arrival, later_arrival}
use Rattle.rules.specs.Units.{arrivals_after, arrivals, into_first, groups, cells_of, unit_of, units_of}
use Rattle.rules.specs.Capture.{units, whole_wanted}
use Rattle.capture_laws.proofs.UnitsMore.{gap-small}
use Rattle.record_laws.proofs.Record.{Each, each_at}
use Rattle.record_laws.proofs.Ranges.{Sealable, UnitRange, unit-ranges}
use Rattle.record_verify.specs.Marks.{in_first}
use Rattle.sealed_facts.specs.Facts.{SoundUnit}

-- ---- a packet has at most 14 lost before it, a damaged one none

abbrev Gap : Arrival → Type 0
Gap a = a.lost ≤ pick a.damaged 0 14

between-gap : (heeded : Bool) (q p : Packet) → loss_between heeded q p ≤ 14
unfolding loss_between
between-gap heeded q p = go (heeded && splice_mark p.bytes) (gap-small (counter q.bytes) (counter p.bytes))
  where
    go : {n : ℕ} (b : Bool) → n ≤ 14 → pick b 0 n ≤ 14
    go true h = omega arith
    go false h = h

after-gaps : (heeded known : Bool) (q : Packet) (ps : List Packet) → All Gap (arrivals_after heeded known q ps)
unfolding arrivals_after
after-gaps heeded known q [] = empty
after-gaps heeded known q (p ∷ ps) =
    go (set_apart known p) (after-gaps heeded known q ps) (after-gaps heeded known p ps)
  where
    go : (t : Bool) → All Gap (arrivals_after heeded known q ps) → All Gap (arrivals_after heeded known p ps) →
        All Gap (pick t (damaged_arrival p ∷ arrivals_after heeded known q ps)
        (later_arrival heeded q p ∷ arrivals_after heeded known p ps))
    go true d e = and {x = damaged_arrival p} (omega arith) d
    go false d e = and (between-gap heeded q p) e

all-gaps : (heeded known : Bool) (ps : List Packet) → All Gap (arrivals heeded known ps)
unfolding arrivals
all-gaps heeded known [] = empty
all-gaps heeded known (p ∷ ps) = go (set_apart known p) (all-gaps heeded known ps)
  where
    go : (t : Bool) → All Gap (arrivals heeded known ps) →
        All Gap (pick t (arrivals heeded known ps) (first_arrival p ∷ arrivals_after heeded known p ps))
    go true d = d
    go false d = and {x = first_arrival p} (omega arith) (after-gaps heeded known p ps)

into-gaps : (a : Arrival) {gs : List (List Arrival)} → Gap a → All (All Gap) gs → All (All Gap) (into_first a gs)
into-gaps a h empty = and (and h empty) empty
into-gaps a h (and g gs) = and (and h g) gs

groups-gaps : (xs : List Arrival) → All Gap xs → All (All Gap) (groups xs)
unfolding groups
groups-gaps [] h = empty
groups-gaps (a ∷ []) h = and h empty
groups-gaps (a ∷ b ∷ xs) (and h hs) = go b.begins (groups-gaps (b ∷ xs) hs)
  where
    go : (t : Bool) → All (All Gap) (groups (b ∷ xs)) →
        All (All Gap) (pick t ((a ∷ []) ∷ groups (b ∷ xs)) (into_first a (groups (b ∷ xs))))
    go true r = and (and h empty) r
    go false r = into-gaps a h r

group-lost : {g : List Arrival} → All Gap g → total (map (λ (a : Arrival). a.lost) g) ≤ 14 * length (cells_of g)
unfolding total cells_of only
group-lost empty = omega arith
group-lost (and {x} {xs} h hs) = go x.damaged h (group-lost hs)
  where
    go : (t : Bool) → x.lost ≤ pick t 0 14 →
        total (map (λ (a : Arrival). a.lost) xs) ≤ 14 * length (cells_of xs) →
        x.lost + total (map (λ (a : Arrival). a.lost) xs)
        ≤ 14 * length (pick (not t) (x ∷ cells_of xs) (cells_of xs))
    go true e f = omega arith
    go false e f = omega arith

-- ---- the first unit: nothing is lost before the first packet

record Begun (a : Arrival) (gs : List (List Arrival)) : Type 0 where
  group : List Arrival
  more : List (List Arrival)
  is : gs ≡ (a ∷ group) ∷ more

groups-begun : (a : Arrival) (xs : List Arrival) → Begun a (groups (a ∷ xs))
unfolding groups
groups-begun a [] = record { group = []; more = []; is = refl }
groups-begun a (b ∷ xs) = go b.begins (groups-begun b xs)
  where
    go : (t : Bool) → Begun b (groups (b ∷ xs)) →
        Begun a (pick t ((a ∷ []) ∷ groups (b ∷ xs)) (into_first a (groups (b ∷ xs))))
    go true g = record { group = []; more = groups (b ∷ xs); is = refl }
    go false g = record { group = b ∷ g.group; more = g.more; is = rw g.is }

-- of some packets, each with what is lost before it, that begin with one that has lost nothing
first-lost : (a : Arrival) (xs : List Arrival) → a.lost ≡ 0 → a.damaged ≡ false → All Gap (a ∷ xs) → (z : UnitRow) →
    let u = get_or (map unit_of (groups (a ∷ xs))) 0 z in
    u.lost ≤ 14 * (u.packets - 1)
first-lost a xs none sound gaps z =
    let b = groups-begun a xs in
    rw b.is (few b.group b.more (rw b.is at (groups-gaps (a ∷ xs) gaps)))
  where
    few : (g : List Arrival) (gs : List (List Arrival)) → All (All Gap) ((a ∷ g) ∷ gs) →
        (unit_of (a ∷ g)).lost ≤ 14 * ((unit_of (a ∷ g)).packets - 1)
    few g gs (and (and x h) hs) = of-group g (group-lost h)
      where
        of-group : (g : List Arrival) → total (map (λ (x : Arrival). x.lost) g) ≤ 14 * length (cells_of g) →
            (unit_of (a ∷ g)).lost ≤ 14 * ((unit_of (a ∷ g)).packets - 1)
        of-group g h = unfold unit_of total cells_of only in rw sound (omega arith)

first-unit : (heeded known : Bool) (ps : List Packet) (z : UnitRow) →
    let us = map unit_of (groups (arrivals heeded known ps)) in
    1 ≤ length us → (get_or us 0 z).lost ≤ 14 * ((get_or us 0 z).packets - 1)
unfolding arrivals
first-unit heeded known [] z h = unfold groups in absurd (omega arith)
first-unit heeded known (p ∷ ps) z h = go (set_apart known p) (first-unit heeded known ps z) h
  where
    go : (t : Bool) →
        (1 ≤ length (map unit_of (groups (arrivals heeded known ps))) →
        (get_or (map unit_of (groups (arrivals heeded known ps))) 0 z).lost
        ≤ 14 * ((get_or (map unit_of (groups (arrivals heeded known ps))) 0 z).packets - 1)) →
        let xs = pick t (arrivals heeded known ps) (first_arrival p ∷ arrivals_after heeded known p ps) in
        1 ≤ length (map unit_of (groups xs)) →
        (get_or (map unit_of (groups xs)) 0 z).lost ≤ 14 * ((get_or (map unit_of (groups xs)) 0 z).packets - 1)
    go true ih h = ih h
    go false ih h =
        first-lost (first_arrival p) (arrivals_after heeded known p ps) refl refl
        (and {x = first_arrival p} (omega arith) (after-gaps heeded known p ps)) z

-- ---- all of them

rows-lost : {gs : List (List Arrival)} → All (All Gap) gs → Each (λ u. u.lost ≤ 14 * u.packets) (map unit_of gs)
unfolding unit_of
rows-lost empty = tt
rows-lost (and h hs) = (group-lost h, rows-lost hs)

-- 1 for the first row alone
pub in-later : (j : ℕ) → 1 ≤ j → in_first j ≡ 0
unfolding in_first
in-later j h = rw (ne_eqb j 0 (λ e. omega (arith, e)))

module _ (o : Opening) (capture luma : List ℕ) (w : Sealable o capture luma) (bc : Bytes capture) where
  each-lost : Each (λ (u : UnitRow). u.lost ≤ 14 * u.packets) (units o capture)
  unfolding units units_of
  each-lost =
      let heeded = heeds_splices o.edition in
      let known = knows_damage o.edition in
      let ps = whole_wanted o capture in
      rows-lost (groups-gaps (arrivals heeded known ps) (all-gaps heeded known ps))

  lost-at : (j : ℕ) (z : UnitRow) → j < length (units o capture) →
      (get_or (units o capture) j z).lost ≤ 14 * ((get_or (units o capture) j z).packets - in_first j)
  unfolding units units_of in_first
  lost-at zero z h =
      first-unit (heeds_splices o.edition) (knows_damage o.edition) (whole_wanted o capture) z (omega arith)
  lost-at (suc j) z h =
      let e = each_at (λ (u : UnitRow). u.lost ≤ 14 * u.packets) (units o capture) (suc j) z each-lost h in
      rw (in-later (suc j) (omega arith)) (omega arith)

  pub sound-unit : (j : ℕ) (z : UnitRow) → j < length (units o capture) → SoundUnit j (get_or (units o capture) j z)
  sound-unit j z h =
      let r = each_at (UnitRange (length capture)) (units o capture) j z (unit-ranges o capture luma w bc) h in
      record { lost = lost-at j z h; time = omega (arith, r.time) }
