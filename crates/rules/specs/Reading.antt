-- Record: what the reader allows and gives, and refusals 16 to 19.
use Rattle.std.specs.Prelude.{ℕ, zero, suc, ◌+◌, ◌*◌, List, Bool, true, false, ◌&&◌, ◌||◌, length, drop, leb, ltb}
use Rattle.std.specs.Prelude.{eqb}
use Rattle.rules.specs.declared.Header.{Header}
use Rattle.rules.specs.declared.UnitRow.{UnitRow}
use Rattle.rules.specs.declared.SceneRow.{SceneRow}
use Rattle.rules.specs.Bytes.{pick, within, word32, word64}
use Rattle.rules.specs.Refusals.{Fault, unless, ◌or_else◌, Answer, answer}
use Rattle.rules.specs.Editions.{is_edition, knows_damage}
use Rattle.rules.specs.Opening.{good_size, good_time, good_pid}
use Rattle.rules.specs.Record.{record_length, scene_offset}

-- the header's figures
unfoldable pub header_of : List ℕ → Header
header_of r =
    record {
      edition = word32 r 0;
      units = word32 r 8;
      scenes = word32 r 16;
      width = word32 r 24;
      height = word32 r 28;
      time = word32 r 32;
      pid = word32 r 36;
      pictures = word32 r 40;
      frames = word32 r 44;
      skipped = word32 r 48;
      bad = word32 r 52;
      index = word64 r 56;
    }

-- where unit row j and scene row j stand
unfoldable pub unit_place : ℕ → ℕ
unit_place j = 64 + 32 * j

unfoldable pub scene_place : List ℕ → ℕ → ℕ
scene_place r j = scene_offset (word32 r 8) + 32 * j

-- the figures of a row, of its bytes
unfoldable pub unit_in : List ℕ → UnitRow
unit_in b =
    record {
      least = word64 b 0;
      greatest = word64 b 8;
      size = word32 b 16;
      packets = word32 b 20;
      lost = word32 b 24;
      damaged = word32 b 28;
    }

unfoldable pub scene_in : List ℕ → SceneRow
scene_in b =
    record {
      first = word32 b 0;
      pictures = word32 b 4;
      repeated = word32 b 8;
      longest = word32 b 12;
      score = word32 b 16;
      peak = word32 b 20;
      change = word32 b 24;
    }

-- unit row j and scene row j
unfoldable pub unit_at : List ℕ → ℕ → UnitRow
unit_at r j = unit_in (drop (unit_place j) r)

unfoldable pub scene_at : List ℕ → ℕ → SceneRow
scene_at r j = scene_in (drop (scene_place r j) r)

-- ---- what the reader allows

-- the header's conditions; `size` is the slice's length
unfoldable pub allowed_header : ℕ → List ℕ → Bool
allowed_header size r =
    is_edition (word32 r 0)
    && eqb (word32 r 4) size && eqb (word32 r 4) (record_length (word32 r 8) (word32 r 16))
    && eqb (word32 r 12) 64 && eqb (word32 r 20) (scene_offset (word32 r 8))
    && within 1 750 (word32 r 8) && within 1 250 (word32 r 16) && within 1 750 (word32 r 40)
    && good_size (word32 r 24) (word32 r 28) && good_time (word32 r 32) && good_pid (word32 r 36)
    && leb (word32 r 48) (word32 r 44)

-- a unit row's, by whether damage is known: least time at most greatest, at least one packet, size 184 × packets, and
-- word 28 zero unless damage is known (document 02, R-6)
unfoldable pub allowed_unit : Bool → List ℕ → Bool
allowed_unit known b =
    leb (word64 b 0) (word64 b 8) && leb 1 (word32 b 20) && eqb (word32 b 16) (184 * word32 b 20)
    && (known || eqb (word32 b 28) 0)

-- n unit rows, the first at the string's front
unfoldable pub allowed_units : Bool → ℕ → List ℕ → Bool
allowed_units known zero b = true
allowed_units known (suc n) b = allowed_unit known b && allowed_units known n (drop 32 b)

-- a scene row's: starts at picture `from`, holds at least one picture, word 28 zero
unfoldable pub allowed_scene : ℕ → List ℕ → Bool
allowed_scene from b = eqb (word32 b 0) from && leb 1 (word32 b 4) && eqb (word32 b 28) 0

-- n scene rows, the first at the string's front, which join without gap from picture `from` and end at picture N
unfoldable pub allowed_scenes : ℕ → ℕ → ℕ → List ℕ → Bool
allowed_scenes pictures zero from b = eqb from pictures
allowed_scenes pictures (suc n) from b =
    allowed_scene from b && allowed_scenes pictures n (from + word32 b 4) (drop 32 b)

-- with the rows, of a record whose header is allowed
unfoldable pub allowed_rows : List ℕ → Bool
allowed_rows r =
    allowed_units (knows_damage (word32 r 0)) (word32 r 8) (drop 64 r)
    && allowed_scenes (word32 r 40) (word32 r 16) 0 (drop (scene_offset (word32 r 8)) r)

-- the rows are looked at only where the header is allowed: a wild count costs nothing
unfoldable pub allowed : List ℕ → Bool
allowed r = let rows = allowed_rows r in pick (allowed_header (length r) r) rows false

-- ---- refusals: 16 under 64 bytes, 17 an edition that there is not, 18 not allowed, 19 a row that is not there

unfoldable pub reading_fault : List ℕ → Fault
reading_fault r =
    unless (leb 64 (length r)) 16 or_else unless (is_edition (word32 r 0)) 17 or_else unless (allowed r) 18

unfoldable pub row_fault : ℕ → ℕ → Fault
row_fault rows j = unless (ltb j rows) 19

-- of unit row j and of scene row j
unfoldable pub unit_fault : List ℕ → ℕ → Fault
unit_fault r j = reading_fault r or_else row_fault (word32 r 8) j

unfoldable pub scene_fault : List ℕ → ℕ → Fault
scene_fault r j = reading_fault r or_else row_fault (word32 r 16) j

-- ---- what reading answers: the figures, or the refusal

unfoldable pub header_answer : List ℕ → Answer Header
header_answer r = answer (reading_fault r) (header_of r)

unfoldable pub unit_answer : List ℕ → ℕ → Answer UnitRow
unit_answer r j = answer (unit_fault r j) (unit_at r j)

unfoldable pub scene_answer : List ℕ → ℕ → Answer SceneRow
scene_answer r j = answer (scene_fault r j) (scene_at r j)
