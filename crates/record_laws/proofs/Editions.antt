-- The laws of editions: edition 1 is document 01's, what a splice mark does from edition 2 on, that edition 3 differs
-- from 2 in the changes alone, and 4 from 3 in the units and bad cells alone; and what a reader of edition 1 answers.
use Prim.Native.Nat.{ℕ, ◌≤◌}
use mathlib.Core.Path.{◌≡◌, refl, ap, ◌∙◌}
use mathlib.Core.List.{List, [], ◌∷◌, map}
use mathlib.Core.Bool.{true, false}
use lib.ListN.{length}
use lib.Dec.{leb, eqb}
use borrow.Author.Tests.{le-leb, ne_eqb}
use Rattle.rules.specs.declared.UnitRow.{UnitRow}
use Rattle.rules.specs.Bytes.{word32}
use Rattle.rules.specs.Refusals.{Fault, fault, unless, ◌or_else◌}
use Rattle.rules.specs.Reading.{allowed, reading_fault}
use Rattle.rules.specs.Editions.{is_edition, heeds_splices, rounds_to_nearest, knows_damage}
use Rattle.rules.specs.Packets.{Packet, start_mark, counter, splice_mark}
use Rattle.rules.specs.Changes.{spread, root, nearest, change_from, change, changes_after, changes}
use Rattle.rules.specs.Units.{Arrival, gap_loss, loss_between, set_apart, arrivals_after, arrivals, groups, units_of}
use Rattle.capture_laws.proofs.Damage.{plain_unit, plain-units}

-- document 01's arrivals and units, as they stood before there were editions: every gap counts, and so does every
-- cell
first_after : Packet → List Packet → List Arrival
first_after q [] = []
first_after q (p ∷ ps) =
    record {
      time = p.time;
      place = p.place;
      begins = start_mark p.bytes;
      lost = gap_loss (counter q.bytes) (counter p.bytes);
      damaged = false;
    }
    ∷ first_after p ps

first_arrivals : List Packet → List Arrival
first_arrivals [] = []
first_arrivals (p ∷ ps) =
    record { time = p.time; place = p.place; begins = true; lost = 0; damaged = false } ∷ first_after p ps

pub first_units : List Packet → List UnitRow
first_units ps = map plain_unit (groups (first_arrivals ps))

after_first : (q : Packet) (ps : List Packet) → arrivals_after false false q ps ≡ first_after q ps
unfolding arrivals_after set_apart loss_between first_after
after_first q [] = refl
after_first q (p ∷ ps) = rw (after_first p ps)

arrivals-first : (ps : List Packet) → arrivals false false ps ≡ first_arrivals ps
unfolding arrivals set_apart first_arrivals
arrivals-first [] = refl
arrivals-first (p ∷ ps) = rw (after_first p ps)

-- edition 1 has document 01's units
pub edition-one : (ps : List Packet) → units_of 1 ps ≡ first_units ps
unfolding heeds_splices knows_damage first_units
edition-one ps = plain-units 1 ps refl ∙ ap (λ (xs : List Arrival). map plain_unit (groups xs)) (arrivals-first ps)

-- where splice marks are heeded, a packet that has one loses nothing by its own gap, and any other what its gap says.
-- Whichever it is, the packet behind it is measured from its counter: `arrivals_after` goes on from it
pub spliced : (q p : Packet) → splice_mark p.bytes ≡ true → loss_between true q p ≡ 0
unfolding loss_between
spliced q p h = rw h

pub unspliced : (q p : Packet) → splice_mark p.bytes ≡ false →
    loss_between true q p ≡ gap_loss (counter q.bytes) (counter p.bytes)
unfolding loss_between
unspliced q p h = rw h

-- ---- changes

-- document 01's changes, as they stood before there were editions: every q is cut off
cut_after : List ℕ → List (List ℕ) → List ℕ
cut_after before [] = []
cut_after before (px ∷ pxs) = root (spread before px) (length px) ∷ cut_after px pxs

pub first_changes : List (List ℕ) → List ℕ
first_changes [] = []
first_changes (px ∷ pxs) = 0 ∷ cut_after px pxs

after-cut : (before : List ℕ) (pxs : List (List ℕ)) → changes_after false before pxs ≡ cut_after before pxs
unfolding changes_after change change_from cut_after
after-cut before [] = refl
after-cut before (px ∷ pxs) = rw (after-cut px pxs)

changes-cut : (pxs : List (List ℕ)) → changes false pxs ≡ first_changes pxs
unfolding changes first_changes
changes-cut [] = refl
changes-cut (px ∷ pxs) = rw (after-cut px pxs)

-- editions 1 and 2 have document 01's changes
pub changes-one : (pxs : List (List ℕ)) → changes (rounds_to_nearest 1) pxs ≡ first_changes pxs
unfolding rounds_to_nearest
changes-one pxs = changes-cut pxs

pub changes-two : (pxs : List (List ℕ)) → changes (rounds_to_nearest 2) pxs ≡ first_changes pxs
unfolding rounds_to_nearest
changes-two pxs = changes-cut pxs

-- by edition 3 a picture's is rounded to the nearest
pub change-three : (before px : List ℕ) →
    change (rounds_to_nearest 3) before px ≡ nearest (spread before px) (length px)
unfolding rounds_to_nearest change change_from
change-three before px = refl

-- edition 3 has edition 2's units
pub units-three : (ps : List Packet) → units_of 3 ps ≡ units_of 2 ps
unfolding units_of heeds_splices knows_damage
units-three ps = refl

-- edition 4 has edition 3's changes; what it does to units, capture_laws/Damage says
pub changes-four : (pxs : List (List ℕ)) → changes (rounds_to_nearest 4) pxs ≡ changes (rounds_to_nearest 3) pxs
unfolding rounds_to_nearest
changes-four pxs = refl

-- ---- readers

-- what a reader of document 01 answers, which knows edition 1 alone
pub first_reader : List ℕ → Fault
first_reader r = unless (leb 64 (length r)) 16 or_else unless (eqb (word32 r 0) 1) 17 or_else unless (allowed r) 18

-- it gives 17 to every record of another edition
pub edition-unknown : (r : List ℕ) → 64 ≤ length r → (word32 r 0 ≡ 1 → ⊥) → first_reader r ≡ fault 17 0
unfolding first_reader
edition-unknown r h n = rw (le-leb 64 (length r) h, ne_eqb (word32 r 0) 1 n)

-- and reads those of edition 1 as today's reader does
pub edition-known : (r : List ℕ) → word32 r 0 ≡ 1 → first_reader r ≡ reading_fault r
unfolding first_reader reading_fault is_edition
edition-known r e = rw e
