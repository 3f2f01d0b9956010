-- R-1, a page for the reading room: a record as lines of 100 columns, on pages of 60 lines.
use Rattle.std.specs.Prelude.{ℕ, ◌+◌, ◌-◌, ◌*◌, ◌/◌, List, [], ◌∷◌, ◌++◌, map, Bool, length, replicate}
use Rattle.rules.specs.Refusals.{Answer, ◌or_else◌, answer}
use Rattle.rules.specs.declared.Header.{Header}
use Rattle.rules.specs.declared.UnitRow.{UnitRow}
use Rattle.rules.specs.declared.SceneRow.{SceneRow}
use Rattle.rules.specs.Bytes.{pick, word32, table, end_to_end}
use Rattle.rules.specs.Digits.{decimal, hex_in}
use Rattle.rules.specs.Editions.{knows_damage}
use Rattle.rules.specs.Reading.{header_of, unit_at, scene_at, reading_fault}
use Rattle.rules.specs.Seal.{no_room, over, if_done}

-- ---- fields

-- a text right-aligned in w columns, behind spaces
unfoldable pub aligned : ℕ → List ℕ → List ℕ
aligned w text = replicate (w - length text) 32 ++ text

-- numbers, each right-aligned in w columns
unfoldable pub columns : ℕ → List ℕ → List ℕ
columns w ns = end_to_end (map (λ n. aligned w (decimal n)) ns)

-- W, H and N in 11 columns each, the index bits in 21
unfoldable pub header_fields : Header → List ℕ
header_fields h = columns 11 (h.width ∷ h.height ∷ h.pictures ∷ []) ++ aligned 21 (hex_in 16 h.index)

-- number and fields as `show` has them: 11 columns each, times 21; and where damage is known, the damaged cells as the
-- last (R-6)
unfoldable pub unit_fields : Bool → ℕ → UnitRow → List ℕ
unit_fields known j u =
    columns 11 (j ∷ []) ++ columns 21 (u.least ∷ u.greatest ∷ [])
    ++ columns 11 (u.size ∷ u.packets ∷ u.lost ∷ []) ++ pick known (columns 11 (u.damaged ∷ [])) []

unfoldable pub scene_fields : ℕ → SceneRow → List ℕ
scene_fields j s =
    columns 11
    (j ∷ s.first ∷ s.pictures ∷ s.repeated ∷ s.longest ∷ s.score ∷ s.peak ∷ s.change ∷ [])

-- ---- lines

-- a line's end behind n columns: spaces up to column 100, and a line feed
unfoldable pub ending : ℕ → List ℕ
ending n = replicate (100 - n) 32 ++ (10 ∷ [])

-- a mark in column 1, fields from column 2 on
unfoldable pub line : ℕ → List ℕ → List ℕ
line mark fields = let text = (mark ∷ []) ++ fields in text ++ ending (length text)

-- column 1 has a space in the first line, `U` in a unit's, `S` in a scene's
unfoldable pub header_line : Header → List ℕ
header_line h = line 32 (header_fields h)

unfoldable pub unit_line : Bool → ℕ → UnitRow → List ℕ
unit_line known j u = line 85 (unit_fields known j u)

unfoldable pub scene_line : ℕ → SceneRow → List ℕ
scene_line j s = line 83 (scene_fields j s)

unfoldable pub blank_line : List ℕ
blank_line = ending 0

-- ---- pages

-- a record's lines: the first, one per unit, one per scene
unfoldable pub record_lines : List ℕ → List (List ℕ)
record_lines r =
    (header_line (header_of r) ∷ [])
    ++ table (word32 r 8) 0 (λ j. unit_line (knows_damage (word32 r 0)) j (unit_at r j))
    ++ table (word32 r 16) 0 (λ j. scene_line j (scene_at r j))

-- how many they are
unfoldable pub line_count : List ℕ → ℕ
line_count r = 1 + word32 r 8 + word32 r 16

-- the pages of 60 lines that n lines take
unfoldable pub pages_for : ℕ → ℕ
pages_for n = (n + 59) / 60

-- the blank lines that fill the last
unfoldable pub blanks_for : ℕ → ℕ
blanks_for n = 60 * pages_for n - n

-- the sheet of the record r, line by line, and its bytes
unfoldable pub sheet_lines : List ℕ → List (List ℕ)
sheet_lines r = record_lines r ++ replicate (blanks_for (line_count r)) blank_line

unfoldable pub sheet_of : List ℕ → List ℕ
sheet_of r = end_to_end (sheet_lines r)

-- its length: 60 lines of 101 bytes a page
unfoldable pub sheet_length : List ℕ → ℕ
sheet_length r = 6060 * pages_for (line_count r)

-- what a sheet leaves out of an allowed record's figures: the edition, d, PID, capture records,
-- records passed over, bad cells
unfoldable pub left_out : Header → List ℕ
left_out h = h.edition ∷ h.time ∷ h.pid ∷ h.frames ∷ h.skipped ∷ h.bad ∷ []

-- ---- the call

-- reading's refusals, then 15 with the length needed, for a buffer of n bytes; otherwise the pages' length
unfoldable pub sheet_answer : List ℕ → ℕ → Answer ℕ
sheet_answer r n = answer (reading_fault r or_else no_room n (sheet_length r)) (sheet_length r)

-- the buffer afterwards: the pages and behind them the bytes as they were; after a refusal all bytes as they were
unfoldable pub sheet_buffer : List ℕ → List ℕ → List ℕ
sheet_buffer r buffer = let new = over (sheet_of r) buffer in if_done (sheet_answer r (length buffer)) new buffer
