-- Document 02, R-1: worked sheets and answers, as a table with one theorem over its entries.
use Prim.Native.Nat.{ℕ, ◌+◌, ◌/◌, ◌%◌}
use mathlib.Core.Path.{◌≡◌, refl}
use mathlib.Core.List.{List, [], ◌∷◌, ◌++◌, map}
use lib.ListN.{replicate, set}
use lib.Dec.{ltb}
use Rattle.rules.specs.Bytes.{pick, word32, word64, bytes_of, table, end_to_end}
use Rattle.rules.specs.Editions.{is_edition, knows_damage}
use Rattle.rules.specs.Opening.{good_size, good_time, good_pid}
use Rattle.rules.specs.Record.{record_length, scene_offset, header_bytes, unit_bytes, scene_bytes, record_bytes}
use Rattle.rules.specs.Reading.{header_of, unit_place, scene_place, unit_in, scene_in, unit_at, scene_at}
use Rattle.rules.specs.Reading.{reading_fault}
use Rattle.rules.specs.Reading.{allowed_header, allowed_unit, allowed_units, allowed_scene, allowed_scenes}
use Rattle.rules.specs.Reading.{allowed_rows, allowed}
use Rattle.rules.specs.Seal.{no_room, over}
use Rattle.rules.specs.Digits.{decimal_in, decimal, hex_in}
use Rattle.rules.specs.Sheet.{aligned, columns, header_fields, unit_fields, scene_fields, ending, line}
use Rattle.rules.specs.Sheet.{header_line, unit_line, scene_line, blank_line, record_lines, line_count}
use Rattle.rules.specs.Sheet.{pages_for, blanks_for, sheet_lines, sheet_of, sheet_length, sheet_answer, sheet_buffer}
use Rattle.rules.proofs.Worked.{Case}
use Rattle.rules.proofs.Samples.{told}

-- document 01's example of `show`, by an edition, with n units like its one of which each has so many damaged cells
unfoldable pub example_by : ℕ → ℕ → ℕ → List ℕ
example_by e damaged n =
    record_bytes
    (record {
      edition = e;
      units = n;
      scenes = 1;
      width = 30;
      height = 30;
      time = 40000;
      pid = 256;
      pictures = 2;
      frames = 1;
      skipped = 0;
      bad = 0;
      index = 0x4008000000000000;
    })
    (replicate n (record {
      least = 10000005;
      greatest = 10000005;
      size = 184;
      packets = 1;
      lost = 0;
      damaged = damaged;
    }))
    (record { first = 0; pictures = 2; repeated = 1; longest = 1; score = 0; peak = 0; change = 0 } ∷ [])

unfoldable pub example : ℕ → List ℕ
example n = example_by 1 0 n

-- n spaces
unfoldable pub spaces : ℕ → List ℕ
spaces n = replicate n 32

-- 30         30          2     4008000000000000
unfoldable pub header : List ℕ
header =
    spaces 10 ++ (51 ∷ 48 ∷ []) ++ spaces 9 ++ (51 ∷ 48 ∷ []) ++ spaces 10 ++ (50 ∷ [])
    ++ spaces 5 ++ (52 ∷ 48 ∷ 48 ∷ 56 ∷ replicate 12 48) ++ spaces 45 ++ (10 ∷ [])

-- U          0             10000005             10000005        184          1          0
-- and behind it: what ends the line
unfoldable pub unit_up_to : List ℕ → ℕ → List ℕ
unit_up_to end j =
    (85 ∷ []) ++ spaces 9 ++ pick (ltb j 10) (32 ∷ (48 + j) ∷ []) ((48 + j / 10) ∷ (48 + j % 10) ∷ []) ++ spaces 13
    ++ (49 ∷ 48 ∷ 48 ∷ 48 ∷ 48 ∷ 48 ∷ 48 ∷ 53 ∷ []) ++ spaces 13
    ++ (49 ∷ 48 ∷ 48 ∷ 48 ∷ 48 ∷ 48 ∷ 48 ∷ 53 ∷ []) ++ spaces 8 ++ (49 ∷ 56 ∷ 52 ∷ [])
    ++ spaces 10 ++ (49 ∷ []) ++ spaces 10 ++ (48 ∷ []) ++ end

-- the same with the damaged cells in 11 columns more (document 02, R-6), here 4294967295 and 7
most_damaged : List ℕ
most_damaged = spaces 1 ++ (52 ∷ 50 ∷ 57 ∷ 52 ∷ 57 ∷ 54 ∷ 55 ∷ 50 ∷ 57 ∷ 53 ∷ []) ++ spaces 2 ++ (10 ∷ [])

seven_damaged : List ℕ
seven_damaged = spaces 10 ++ (55 ∷ []) ++ spaces 2 ++ (10 ∷ [])

-- S          0          0          2          1          1          0          0          0
unfoldable pub scene : List ℕ
scene =
    let figures : List ℕ = 48 ∷ 48 ∷ 50 ∷ 49 ∷ 49 ∷ 48 ∷ 48 ∷ 48 ∷ [] in
    (83 ∷ []) ++ end_to_end (map (λ d. spaces 10 ++ (d ∷ [])) figures) ++ spaces 11 ++ (10 ∷ [])

-- the example's text with n units that end so, and m blank lines behind it
unfoldable pub text_up_to : List ℕ → ℕ → ℕ → List ℕ
text_up_to end n m = header ++ end_to_end (table n 0 (unit_up_to end)) ++ scene
    ++ end_to_end (replicate m (spaces 100 ++ (10 ∷ [])))

unfoldable pub text : ℕ → ℕ → List ℕ
text n m = text_up_to (spaces 13 ++ (10 ∷ [])) n m

pub sheets : List Case
sheets =
    -- three lines and 57 blank ones
    record { rule = sheet_of (example 1); paper = text 1 57 }
    -- a page's 6,060 bytes are enough, and a byte less is not
    ∷ record { rule = told (sheet_answer (example 1) 6060); paper = 0 ∷ 6060 ∷ [] }
    ∷ record { rule = told (sheet_answer (example 1) 6059); paper = 15 ∷ 6060 ∷ [] }
    -- reading's refusals come before 15: 63 bytes, edition 0, a row's word 28
    ∷ record { rule = told (sheet_answer (replicate 63 1) 0); paper = 16 ∷ 0 ∷ [] }
    ∷ record { rule = told (sheet_answer (set (example 1) 0 0) 0); paper = 17 ∷ 0 ∷ [] }
    ∷ record { rule = told (sheet_answer (set (example 1) 92 1) 0); paper = 18 ∷ 0 ∷ [] }
    -- edition 4 has a field more, and only edition 4: 3 has none, and does not let word 28 pass
    ∷ record { rule = sheet_of (example_by 4 4294967295 1); paper = text_up_to most_damaged 1 57 }
    ∷ record { rule = sheet_of (example_by 4 7 2); paper = text_up_to seven_damaged 2 56 }
    ∷ record { rule = sheet_of (example_by 3 0 2); paper = text 2 56 }
    ∷ record {
      rule = told (sheet_answer (example_by 3 7 2) 6060) ++ told (sheet_answer (example_by 4 7 2) 6060);
      paper = 18 ∷ 0 ∷ 0 ∷ 6060 ∷ [];
    }
    -- bytes behind the pages stand; after a refusal all do
    ∷ record { rule = sheet_buffer (example 1) (replicate 6062 7); paper = text 1 57 ++ 7 ∷ 7 ∷ [] }
    ∷ record { rule = sheet_buffer (example 1) (replicate 6059 7); paper = replicate 6059 7 }
    ∷ []

-- the theorem: every entry's rule gives what document 02 says
pub printed : map (λ (c : Case). c.rule) sheets ≡ map (λ (c : Case). c.paper) sheets
unfolding sheets example_by example spaces header unit_up_to most_damaged seven_damaged scene text_up_to text
    is_edition knows_damage word32 word64 bytes_of table end_to_end good_size good_time good_pid record_length
    scene_offset header_bytes unit_bytes scene_bytes record_bytes header_of unit_place scene_place unit_in scene_in
    unit_at scene_at reading_fault allowed_header allowed_unit allowed_units allowed_scene allowed_scenes allowed_rows
    allowed no_room over decimal_in decimal hex_in aligned columns header_fields unit_fields scene_fields ending line
    header_line unit_line scene_line blank_line record_lines line_count pages_for blanks_for sheet_lines sheet_of
    sheet_length sheet_answer sheet_buffer
printed = refl
