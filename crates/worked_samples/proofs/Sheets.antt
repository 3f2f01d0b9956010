-- Sheets of a page that is exactly full, and of one line over. The small sheets stand in rules/proofs/Sheets.
use mathlib.Core.Path.{◌≡◌, refl}
use mathlib.Core.List.{List, [], ◌∷◌, map}
use Rattle.rules.specs.Bytes.{word32, word64, bytes_of, table, end_to_end}
use Rattle.rules.specs.Editions.{is_edition, knows_damage}
use Rattle.rules.specs.Opening.{good_size, good_time, good_pid}
use Rattle.rules.specs.Record.{record_length, scene_offset, header_bytes, unit_bytes, scene_bytes, record_bytes}
use Rattle.rules.specs.Reading.{header_of, unit_place, scene_place, unit_in, scene_in, unit_at, scene_at}
use Rattle.rules.specs.Reading.{reading_fault}
use Rattle.rules.specs.Reading.{allowed_header, allowed_unit, allowed_units, allowed_scene, allowed_scenes}
use Rattle.rules.specs.Reading.{allowed_rows, allowed}
use Rattle.rules.specs.Seal.{no_room, over}
use Rattle.rules.specs.Digits.{decimal_in, decimal, hex_in}
use Rattle.rules.specs.Sheet.{aligned, columns, header_fields, unit_fields, scene_fields, ending, line}
use Rattle.rules.specs.Sheet.{header_line, unit_line, scene_line, blank_line, record_lines, line_count}
use Rattle.rules.specs.Sheet.{pages_for, blanks_for, sheet_lines, sheet_of, sheet_length, sheet_answer, sheet_buffer}
use Rattle.rules.proofs.Worked.{Case}
use Rattle.rules.proofs.Samples.{told}
use Rattle.rules.proofs.Sheets.{example_by, example, spaces, header, unit_up_to, scene, text_up_to, text}

pub sheets : List Case
sheets =
    -- one page, exactly full, and one line over
    record { rule = sheet_of (example 58); paper = text 58 0 }
    ∷ record { rule = sheet_of (example 59); paper = text 59 59 }
    -- two pages
    ∷ record { rule = told (sheet_answer (example 59) 6060); paper = 15 ∷ 12120 ∷ [] }
    ∷ []

-- the theorem: every entry's rule gives what document 02 says
pub printed : map (λ (c : Case). c.rule) sheets ≡ map (λ (c : Case). c.paper) sheets
unfolding sheets example_by example spaces header unit_up_to scene text_up_to text is_edition knows_damage word32
    word64 bytes_of table end_to_end good_size good_time good_pid record_length scene_offset header_bytes unit_bytes
    scene_bytes record_bytes header_of unit_place scene_place unit_in scene_in unit_at scene_at reading_fault
    allowed_header allowed_unit allowed_units allowed_scene allowed_scenes allowed_rows allowed no_room over
    decimal_in decimal hex_in aligned columns header_fields unit_fields scene_fields ending line header_line unit_line
    scene_line blank_line record_lines line_count pages_for blanks_for sheet_lines sheet_of sheet_length sheet_answer
    sheet_buffer
printed = refl
