-- Small-screen streams (document 02, R-11): RTP packets as rows in arrival order, each with a sequence number, a
-- marker, a time and a length. Their places, their order, and their units.
use Rattle.std.specs.Prelude.{ℕ, ◌+◌, ◌-◌, ◌*◌, ◌/◌, ◌%◌, ◌≤◌, ◌≡◌, List, [], ◌∷◌, map, Bool, ◌&&◌, not, length}
use Rattle.std.specs.Prelude.{get_or, ltb, eqb, ℤ, pos, ◌+ℤ◌, ◌-ℤ◌}
use Rattle.rules.specs.declared.UnitRow.{UnitRow}
use Rattle.rules.specs.Refusals.{Answer, Fault, unless, ◌or_else◌, answer}
use Rattle.rules.specs.Bytes.{pick, within, total, greatest_of, least_of, count, only, table, end_to_end}
use Rattle.rules.specs.Cuts.{sorted}
use Rattle.rules.specs.Record.{unit_bytes}
use Rattle.rules.specs.Seal.{no_room, over, if_done}

-- ---- places

-- the wrapped difference of two sequence numbers, 0 to 65,535, the later one first
abbrev pub wrapped : ℕ → ℕ → ℕ
wrapped now before = (now + 65536 - before) % 65536

-- a place moved by such a difference, which reads as -32,768 to 32,767
abbrev pub moved : ℕ → ℕ → ℕ
moved place d = pick (ltb d 32768) (place + d) (place - (65536 - d))

-- Places are counted from 4,096 × 32,768 below 0, so that none of 4,096 rows lies below; only differences of places
-- are told. Document 02's own places, which may lie below 0, are `signed_places`, and `PlacesAreSigned` ties the two
abbrev pub origin : ℕ
origin = 134217728

-- the places of the rows behind a row of this place and sequence number
unfoldable pub places_after : ℕ → ℕ → List ℕ → List ℕ
places_after place before [] = []
places_after place before (s ∷ ss) = let here = moved place (wrapped s before) in here ∷ places_after here s ss

-- the first row's place is its sequence number, each later one the place before plus the wrapped difference
unfoldable pub places : List ℕ → List ℕ
places [] = []
places (s ∷ ss) = (origin + s) ∷ places_after (origin + s) s ss

-- ---- the rows that stay, in their order

-- A row is its place and its number in arrival order, as one number.
-- So rows are ordered as their places are, and at one place as they arrived.
abbrev pub row_at : ℕ → ℕ → ℕ
row_at place i = 4096 * place + i

abbrev pub place_of : ℕ → ℕ
place_of row = row / 4096

abbrev pub arrival_of : ℕ → ℕ
arrival_of row = row % 4096

-- the rows in arrival order, the first of which has number i
unfoldable pub rows_from : ℕ → List ℕ → List ℕ
rows_from i [] = []
rows_from i (p ∷ ps) = row_at p i ∷ rows_from (i + 1) ps

-- of rows with one place the first
unfoldable pub firsts : List ℕ → List ℕ
firsts [] = []
firsts (r ∷ rs) = r ∷ only (λ (x : ℕ). not (eqb (place_of x) (place_of r))) (firsts rs)

-- the rows that stay, by place
unfoldable pub ordered : List ℕ → List ℕ
ordered sequence = sorted (firsts (rows_from 0 (places sequence)))

-- ---- units

-- a row that stayed: its time and length, whether it has the marker, and the places that are missing just before it
pub record RtpRow : Type 0 where
  pub time : ℕ
  pub size : ℕ
  pub marked : Bool
  pub missing : ℕ

-- marker, time and length as lists in arrival order
pub record RtpLists : Type 0 where
  pub marker : List ℕ
  pub time : List ℕ
  pub size : List ℕ

abbrev pub rtp_lists : List ℕ → List ℕ → List ℕ → RtpLists
rtp_lists marker time size = record { marker = marker; time = time; size = size }

abbrev pub rtp_row : RtpLists → ℕ → ℕ → RtpRow
rtp_row l missing r =
    record {
      time = get_or l.time (arrival_of r) 0;
      size = get_or l.size (arrival_of r) 0;
      marked = not (eqb (get_or l.marker (arrival_of r) 0) 0);
      missing = missing;
    }

-- the places between row i, in order, and the one before; before the lowest place of all none is missing
unfoldable pub missing_at : List ℕ → ℕ → ℕ
missing_at rows i = pick (eqb i 0) 0 (place_of (get_or rows i 0) - place_of (get_or rows (i - 1) 0) - 1)

abbrev pub rtp_row_at : RtpLists → List ℕ → ℕ → RtpRow
rtp_row_at l rows i = rtp_row l (missing_at rows i) (get_or rows i 0)

-- the rows that stayed, in order
unfoldable pub rtp_rows : RtpLists → List ℕ → List RtpRow
rtp_rows l rows = table (length rows) 0 (rtp_row_at l rows)

-- a row put into the first of some units, at its front
abbrev pub rtp_into_first : RtpRow → List (List RtpRow) → List (List RtpRow)
rtp_into_first p [] = (p ∷ []) ∷ []
rtp_into_first p (g ∷ gs) = (p ∷ g) ∷ gs

-- the rows that stayed, cut behind each marker: a unit ends at a marker or the last row
unfoldable pub rtp_groups : List RtpRow → List (List RtpRow)
rtp_groups [] = []
rtp_groups (p ∷ ps) = let more = rtp_groups ps in pick p.marked ((p ∷ []) ∷ more) (rtp_into_first p more)

unfoldable pub rtp_least : List RtpRow → ℕ
rtp_least [] = 0
rtp_least (p ∷ ps) = least_of p.time (map (λ x. x.time) ps)

-- a unit's figures: least and greatest time, size (its rows' lengths), cells (its rows), lost (the places missing)
unfoldable pub rtp_unit : List RtpRow → UnitRow
rtp_unit group =
    record {
      least = rtp_least group;
      greatest = greatest_of (map (λ x. x.time) group);
      size = total (map (λ x. x.size) group);
      packets = length group;
      lost = total (map (λ x. x.missing) group);
      damaged = 0;
    }

-- the units of rows in order
unfoldable pub rtp_units_in : RtpLists → List ℕ → List UnitRow
rtp_units_in l rows = map rtp_unit (rtp_groups (rtp_rows l rows))

-- the units of rows in arrival order
unfoldable pub rtp_units : List ℕ → RtpLists → List UnitRow
rtp_units sequence l = rtp_units_in l (ordered sequence)

-- ---- refusals: 25 no rows, above 4,096, or unequal lists; then 15 a buffer too short, at the length needed

unfoldable pub good_lists : List ℕ → RtpLists → Bool
good_lists sequence l =
    let n = length sequence in
    within 1 4096 n && eqb (length l.marker) n && eqb (length l.time) n && eqb (length l.size) n

unfoldable pub rtp_fault : List ℕ → RtpLists → ℕ → Fault
rtp_fault sequence l room =
    let full = no_room room (32 * length (rtp_units sequence l)) in
    unless (good_lists sequence l) 25 or_else full

-- ---- the answer is the number of unit rows, which stand at the buffer's front; a refusal leaves it as it was

abbrev pub answer_of : Fault → List UnitRow → Answer ℕ
answer_of f us = answer f (length us)

abbrev pub buffer_of : Fault → List UnitRow → List ℕ → List ℕ
buffer_of f us buffer = if_done (answer_of f us) (over (end_to_end (map unit_bytes us)) buffer) buffer

unfoldable pub rtp_answer : List ℕ → RtpLists → ℕ → Answer ℕ
rtp_answer sequence l room = answer_of (rtp_fault sequence l room) (rtp_units sequence l)

unfoldable pub rtp_buffer : List ℕ → RtpLists → List ℕ → List ℕ
rtp_buffer sequence l buffer = buffer_of (rtp_fault sequence l (length buffer)) (rtp_units sequence l) buffer

-- r is answered, and `after` is what the buffer holds then
pub record Read (sequence : List ℕ) (l : RtpLists) (buffer : List ℕ) (r : Answer ℕ) (after : List ℕ) : Type 0 where
  pub told : r ≡ rtp_answer sequence l (length buffer)
  pub left : after ≡ rtp_buffer sequence l buffer

-- ---- what the laws say

-- a wrapped difference, read as -32,768 to 32,767
abbrev pub signed : ℕ → ℤ
signed d = pick (ltb d 32768) (pos d) (pos d -ℤ pos 65536)

-- each later place is the place before plus that difference
unfoldable pub signed_after : ℤ → ℕ → List ℕ → List ℤ
signed_after place before [] = []
signed_after place before (s ∷ ss) = let here = place +ℤ signed (wrapped s before) in here ∷ signed_after here s ss

-- the first row's place is its sequence number
unfoldable pub signed_places : List ℕ → List ℤ
signed_places [] = []
signed_places (s ∷ ss) = pos s ∷ signed_after (pos s) s ss

-- the rule's places are these, with `origin` added: of at most 4,096 rows none is cut off at 0
abbrev pub PlacesAreSigned : Type 0
PlacesAreSigned =
    (sequence : List ℕ) → length sequence ≤ 4096 →
    map (λ (x : ℕ). pos x -ℤ pos origin) (places sequence) ≡ signed_places sequence

-- the order is a permutation of the rows that stay: each stands in it as often as among them
abbrev pub OrderKeepsRows : Type 0
OrderKeepsRows =
    (sequence : List ℕ) (row : ℕ) →
    count (eqb row) (ordered sequence) ≡ count (eqb row) (firsts (rows_from 0 (places sequence)))

-- cells and lost over all units are the span of places, from the lowest to the highest
abbrev pub SpanIsWhole : Type 0
SpanIsWhole =
    (sequence : List ℕ) (l : RtpLists) → length sequence ≤ 4096 → 1 ≤ length (ordered sequence) →
    let rows = ordered sequence in
    total (map (λ (u : UnitRow). u.packets + u.lost) (rtp_units sequence l)) ≡
    place_of (get_or rows (length rows - 1) 0) + 1 - place_of (get_or rows 0 0)
