-- Worked records: the verdict on each, computed by the definitions and written out by hand.
use Prim.Native.Nat.{ℕ}
use mathlib.Core.Path.{◌≡◌, refl}
use mathlib.Core.List.{List, [], ◌∷◌, map}
use lib.ListN.{set}
use lib.Ieee.{Float, binary64, add, mul, div, of_int, to_bits}
use Rattle.rules.specs.declared.Header.{Header}
use Rattle.rules.specs.declared.UnitRow.{UnitRow}
use Rattle.rules.specs.declared.SceneRow.{SceneRow}
use Rattle.rules.specs.Bytes.{word32, word64, bytes_of, total, table, end_to_end}
use Rattle.rules.specs.Editions.{is_edition, knows_damage}
use Rattle.rules.specs.Opening.{good_size, good_time, good_pid}
use Rattle.rules.specs.Index.{ic_of, ip_of, value_of, index_of, index_bits}
use Rattle.rules.specs.Busiest.{reaching_from, least_between, most_scenes}
use Rattle.rules.specs.Record.{record_length, scene_offset, header_bytes, unit_bytes, scene_bytes, record_bytes}
use Rattle.rules.specs.Reading.{header_of, unit_place, scene_place, unit_in, scene_in, unit_at, scene_at}
use Rattle.rules.specs.Reading.{reading_fault}
use Rattle.rules.specs.Reading.{allowed_header, allowed_unit, allowed_units, allowed_scene, allowed_scenes}
use Rattle.rules.specs.Reading.{allowed_rows, allowed}
use Rattle.std.specs.Prelude.{Ok, Err}
use Rattle.rules.specs.Refusals.{Answer}
use Rattle.record_verify.specs.declared.Verdict.{Verdict}
use Rattle.record_verify.specs.declared.Verdict.TheVariants.{CouldBeSealed, CouldNotBeSealed}
use Rattle.record_verify.specs.Totals.{repeated_total, packets_total, lost_total, damaged_total, unrepeated_total}
use Rattle.record_verify.specs.Totals.{index_of_rows, reached_of}
use Rattle.record_verify.specs.Marks.{Check, in_first, counted_in, header_checks, unit_checks, repeat_checks}
use Rattle.record_verify.specs.Marks.{sum_checks, start_checks, length_checks, scene_checks, units_checks}
use Rattle.record_verify.specs.Marks.{scenes_checks, index_checks, checks, Found, first_failing, verdict_of}

bits : Float → ℕ
bits x = to_bits binary64 x

-- a verdict in numbers: 0 with the counts and the three f64; 1 with mark, row, found and limit; 2 for a refusal
said : Answer Verdict → List ℕ
said (Ok (CouldBeSealed x)) =
    0 ∷ x.unrepeated ∷ x.pictures ∷ x.packets ∷ x.lost ∷ bits x.index.ic ∷ bits x.index.ip
    ∷ bits x.index.value ∷ []
said (Ok (CouldNotBeSealed f)) = 1 ∷ f.mark ∷ f.row ∷ f.found ∷ f.limit ∷ []
said (Err e) = 2 ∷ e.number ∷ e.place ∷ []

-- units of 1 and 2 packets, each with so many lost
unit_rows : ℕ → ℕ → List UnitRow
unit_rows first second =
    record { least = 7; greatest = 7; size = 184; packets = 1; lost = first; damaged = 0 }
    ∷ record { least = 8; greatest = 9; size = 368; packets = 2; lost = second; damaged = 0 } ∷ []

-- n pictures, so many of them repeated
scene : ℕ → ℕ → ℕ → SceneRow
scene first n repeated =
    record { first = first; pictures = n; repeated = repeated; longest = 1; score = 0; peak = 0; change = 0 }

-- so many pictures, shown for 200,000 microseconds, in so many scenes
sample : ℕ → ℕ → ℕ → List UnitRow → List SceneRow → List ℕ
sample index pictures scenes us ss =
    record_bytes
    (record {
      edition = 1;
      units = 2;
      scenes = scenes;
      width = 30;
      height = 30;
      time = 200000;
      pid = 256;
      pictures = pictures;
      frames = 3;
      skipped = 0;
      bad = 0;
      index = index;
    })
    us ss

-- four pictures in one scene
one : ℕ → ℕ → ℕ → ℕ → List ℕ
one index repeated first second = sample index 4 1 (unit_rows first second) (scene 0 4 repeated ∷ [])

pub record Case : Type 0 where
  pub rule : List ℕ
  pub paper : List ℕ

abbrev case : List ℕ → List ℕ → Case
case r ns = record { rule = said (verdict_of r); paper = ns }

-- by hand: 3.25 = 1 + (4 × 3/4) × 3/4 could be sealed; a last bit more could not; nor could four of four pictures
-- repeated, a packet lost before the first, 29 lost before two, or a second scene whose greatest s is 0; nor could a
-- first scene of two pictures, which comes before a second one of four repeated; no bytes, edition 5, and a scene row
-- whose word 28 is not zero
pub cases : List Case
cases =
    case (one 0x400A000000000000 1 0 1)
    (0 ∷ 3 ∷ 4 ∷ 3 ∷ 1 ∷ 0x4008000000000000 ∷ 0x3FE8000000000000 ∷ 0x400A000000000000 ∷ [])
    ∷ case (one 0x400A000000000001 1 0 1) (1 ∷ 16 ∷ 0 ∷ 0x400A000000000001 ∷ 0x400A000000000000 ∷ [])
    ∷ case (one 0x3FF0000000000000 4 0 1) (1 ∷ 6 ∷ 0 ∷ 4 ∷ 3 ∷ [])
    ∷ case (one 0x400A000000000000 1 1 0) (1 ∷ 4 ∷ 0 ∷ 1 ∷ 0 ∷ [])
    ∷ case (one 0x400A000000000000 1 0 29) (1 ∷ 4 ∷ 1 ∷ 29 ∷ 28 ∷ [])
    ∷ case (sample 0x400A000000000000 6 2 (unit_rows 0 1) (scene 0 3 1 ∷ scene 3 3 1 ∷ []))
    (1 ∷ 13 ∷ 1 ∷ 0 ∷ 1001 ∷ [])
    ∷ case (sample 0x3FF0000000000000 6 2 (unit_rows 0 1) (scene 0 2 1 ∷ scene 2 4 4 ∷ []))
    (1 ∷ 15 ∷ 0 ∷ 400000 ∷ 600000 ∷ [])
    ∷ case [] (2 ∷ 16 ∷ 0 ∷ [])
    ∷ case (set (one 0x400A000000000000 1 0 1) 0 5) (2 ∷ 17 ∷ 0 ∷ [])
    ∷ case (set (one 0x400A000000000000 1 0 1) 156 1) (2 ∷ 18 ∷ 0 ∷ [])
    ∷ []

-- the theorem: every entry's rule gives what was written out
pub answered : map (λ (c : Case). c.rule) cases ≡ map (λ (c : Case). c.paper) cases
unfolding bits said unit_rows scene sample one cases word32 word64 bytes_of total table end_to_end is_edition
    knows_damage good_size good_time good_pid ic_of ip_of value_of index_of index_bits reaching_from least_between
    most_scenes record_length scene_offset header_bytes unit_bytes scene_bytes record_bytes header_of unit_place
    scene_place unit_in scene_in unit_at scene_at reading_fault allowed_header allowed_unit allowed_units
    allowed_scene allowed_scenes allowed_rows allowed repeated_total packets_total lost_total damaged_total
    unrepeated_total index_of_rows reached_of in_first counted_in header_checks unit_checks repeat_checks sum_checks
    start_checks length_checks scene_checks units_checks scenes_checks index_checks checks first_failing verdict_of
    add mul div of_int to_bits
answered = refl

-- ---- every limit: a header or a row that is at it, and one that is past it

-- what checks find, in numbers: nothing, or mark, row, found and limit
found : Found → List ℕ
found (Ok u) = []
found (Err f) = f.mark ∷ f.row ∷ f.found ∷ f.limit ∷ []

abbrev asked : List Check → List ℕ → Case
asked cs ns = record { rule = found (first_failing cs); paper = ns }

-- nine pictures, in so many scenes and shown for so long; a capture's frames, and those that were skipped
header : ℕ → ℕ → ℕ → ℕ → Header
header scenes time frames skipped =
    record {
      edition = 1;
      units = 2;
      scenes = scenes;
      width = 30;
      height = 30;
      time = time;
      pid = 256;
      pictures = 9;
      frames = frames;
      skipped = skipped;
      bad = 0;
      index = 0;
    }

-- two packets
unit : ℕ → ℕ → UnitRow
unit greatest lost =
    record { least = 7; greatest = greatest; size = 368; packets = 2; lost = lost; damaged = 0 }

-- pictures that are all alike in brightness
still : ℕ → ℕ → ℕ → SceneRow
still n repeated longest =
    record { first = 0; pictures = n; repeated = repeated; longest = longest; score = 0; peak = 0; change = 0 }

-- four pictures, one of them repeated
moving : ℕ → ℕ → ℕ → ℕ → SceneRow
moving first score peak change =
    record { first = first; pictures = 4; repeated = 1; longest = 1; score = score; peak = peak; change = change }

-- a record's only scene, the first of two, the second of two; d is 200,000
only : SceneRow → List Check
only s = scene_checks (header 1 200000 3 0) 0 s

former : SceneRow → List Check
former s = scene_checks (header 2 200000 3 0) 0 s

latter : SceneRow → List Check
latter s = scene_checks (header 2 200000 3 0) 1 s

-- by hand: 24 + 16 × 16,777,174 + 42 × 2 + 188 × 3 is 268,435,456; 348 × 2 is 696; 1 + (9 − 3) / 3 is 3; 14 × 1 is 14
-- and 14 × 2 is 28; of four pictures, one repeated, two can have s and q in the first scene and three in a later one
pub limits : List Case
limits =
    asked (header_checks (header 1 200000 16777174 16777172) 3) []
    ∷ asked (header_checks (header 1 200000 16777174 16777172) 4) (1 ∷ 0 ∷ 268435644 ∷ 268435456 ∷ [])
    ∷ asked (header_checks (header 1 200000 3 1) 696) []
    ∷ asked (header_checks (header 1 200000 3 1) 697) (2 ∷ 0 ∷ 697 ∷ 696 ∷ [])
    ∷ asked (header_checks (header 3 200000 3 0) 3) []
    ∷ asked (header_checks (header 4 200000 3 0) 3) (3 ∷ 0 ∷ 4 ∷ 3 ∷ [])
    ∷ asked (unit_checks 0 (unit 9 14)) []
    ∷ asked (unit_checks 0 (unit 9 15)) (4 ∷ 0 ∷ 15 ∷ 14 ∷ [])
    ∷ asked (unit_checks 1 (unit 9 28)) []
    ∷ asked (unit_checks 1 (unit 9 29)) (4 ∷ 1 ∷ 29 ∷ 28 ∷ [])
    ∷ asked (unit_checks 1 (unit 4294967295999999 0)) []
    ∷ asked (unit_checks 1 (unit 4294967296000000 0)) (5 ∷ 1 ∷ 4294967296000000 ∷ 4294967295999999 ∷ [])
    ∷ asked (only (still 4 3 3)) []
    ∷ asked (only (still 4 4 3)) (6 ∷ 0 ∷ 4 ∷ 3 ∷ [])
    ∷ asked (only (still 4 2 2)) []
    ∷ asked (only (still 4 2 3)) (7 ∷ 0 ∷ 3 ∷ 2 ∷ [])
    ∷ asked (only (still 4 2 1)) []
    ∷ asked (only (still 5 3 1)) (8 ∷ 0 ∷ 3 ∷ 2 ∷ [])
    ∷ asked (only (moving 0 2000 2000 0)) []
    ∷ asked (only (moving 0 1999 2000 0)) (9 ∷ 0 ∷ 2000 ∷ 1999 ∷ [])
    ∷ asked (only (moving 0 1000000 1000000 0)) []
    ∷ asked (only (moving 0 1000001 1000001 0)) (10 ∷ 0 ∷ 1000001 ∷ 1000000 ∷ [])
    ∷ asked (only (moving 0 4000 2000 0)) []
    ∷ asked (only (moving 0 4001 2000 0)) (11 ∷ 0 ∷ 4001 ∷ 4000 ∷ [])
    ∷ asked (latter (moving 5 6000 2000 0)) []
    ∷ asked (latter (moving 5 6001 2000 0)) (11 ∷ 1 ∷ 6001 ∷ 6000 ∷ [])
    ∷ asked (only (moving 0 0 0 51000)) []
    ∷ asked (only (moving 0 0 0 51001)) (12 ∷ 0 ∷ 51001 ∷ 51000 ∷ [])
    ∷ asked (latter (moving 5 2000 2000 76500)) []
    ∷ asked (latter (moving 5 2000 2000 76501)) (12 ∷ 1 ∷ 76501 ∷ 76500 ∷ [])
    ∷ asked (latter (moving 5 1001 1001 0)) []
    ∷ asked (latter (moving 5 1000 1000 0)) (13 ∷ 1 ∷ 1000 ∷ 1001 ∷ [])
    ∷ asked (latter (moving 6 1001 1001 0)) []
    ∷ asked (latter (moving 7 1001 1001 0)) (14 ∷ 1 ∷ 7 ∷ 6 ∷ [])
    ∷ asked (former (still 3 0 0)) []
    ∷ asked (former (still 2 0 0)) (15 ∷ 0 ∷ 400000 ∷ 600000 ∷ [])
    ∷ asked (scene_checks (header 2 599999 3 0) 0 (still 1 0 0)) (15 ∷ 0 ∷ 599999 ∷ 600000 ∷ [])
    ∷ asked (only (still 1 0 0)) []
    ∷ []

-- the theorem, of the limits
pub limited : map (λ (c : Case). c.rule) limits ≡ map (λ (c : Case). c.paper) limits
unfolding found header unit still moving only former latter limits reaching_from least_between most_scenes in_first
    header_checks unit_checks repeat_checks sum_checks start_checks length_checks scene_checks first_failing
limited = refl
