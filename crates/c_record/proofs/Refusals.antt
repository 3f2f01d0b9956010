-- The refusals of reading a record, of all its rows, of verifying it and of its sheet: none of them is renumbered; and
-- those of reading, which gives no place, stand at 0.
use Prim.Native.Nat.{ℕ}
use mathlib.Core.Path.{◌≡◌}
use mathlib.Core.List.{List}
use lib.ListN.{length}
use lib.Dec.{leb, ltb}
use Rattle.rules.specs.Bytes.{word32}
use Rattle.rules.specs.Refusals.{fault, unless, ◌or_else◌}
use Rattle.rules.specs.Editions.{is_edition}
use Rattle.rules.specs.Seal.{no_room}
use Rattle.rules.specs.Reading.{allowed, reading_fault, row_fault, unit_fault, scene_fault, header_of, unit_at}
use Rattle.rules.specs.Reading.{scene_at}
use Rattle.rules.specs.Reading.{header_answer, unit_answer, scene_answer}
use Rattle.rules.specs.Sheet.{sheet_length, sheet_answer}
use Rattle.rules.proofs.Laws.Listed.{Numbered, of_either, reading, unit, scene, room}
use Rattle.record_rows.specs.Rows.{rows_answer}
use Rattle.c_numbers.specs.Numbers.{number_of}
use Rattle.c_numbers.proofs.Refusals.{number_in, of-answer, Unplaced, unplaced-either, unplaced-unless}
use Rattle.record_verify.specs.Marks.{verdict_of}
use Rattle.c_record.specs.Figures.{verdict_number}

-- ---- the number of an answer of the rules is the refusal's own

pub header-number : (r : List ℕ) → number_of (header_answer r) ≡ number_in (reading_fault r)
unfolding header_answer
header-number r = of-answer (reading_fault r) (header_of r) (reading r)

pub unit-number : (r : List ℕ) (j : ℕ) → number_of (unit_answer r j) ≡ number_in (unit_fault r j)
unfolding unit_answer
unit-number r j = of-answer (unit_fault r j) (unit_at r j) (unit r j)

pub scene-number : (r : List ℕ) (j : ℕ) → number_of (scene_answer r j) ≡ number_in (scene_fault r j)
unfolding scene_answer
scene-number r j = of-answer (scene_fault r j) (scene_at r j) (scene r j)

-- a verdict's refusals are reading's
pub verdict-number : (r : List ℕ) (k p : ℕ) → reading_fault r ≡ fault k p → verdict_number (verdict_of r) ≡ k
unfolding verdict_of
verdict-number r k p e = rw e (rw e at (reading r))

-- reading's, then 15
sheet : (r : List ℕ) (n : ℕ) → Numbered (reading_fault r or_else no_room n (sheet_length r))
sheet r n = of_either (reading_fault r) (no_room n (sheet_length r)) (reading r) (room n (sheet_length r))

pub sheet-number : (r : List ℕ) (n : ℕ) →
    number_of (sheet_answer r n) ≡ number_in (reading_fault r or_else no_room n (sheet_length r))
unfolding sheet_answer
sheet-number r n = of-answer (reading_fault r or_else no_room n (sheet_length r)) (sheet_length r) (sheet r n)

-- those of all rows, of which a record has m
pub rows-number : (r : List ℕ) (m n : ℕ) →
    number_of (rows_answer r m n) ≡ number_in (reading_fault r or_else no_room n m)
unfolding rows_answer
rows-number r m n =
    of-answer (reading_fault r or_else no_room n m) m
    (of_either (reading_fault r) (no_room n m) (reading r) (room n m))

-- ---- the refusals of a reading stand at 0

pub header-unplaced : (r : List ℕ) → Unplaced (reading_fault r)
unfolding reading_fault
header-unplaced r =
    unplaced-either (unless (leb 64 (length r)) 16) _ (unplaced-unless (leb 64 (length r)) 16)
    (unplaced-either (unless (is_edition (word32 r 0)) 17) _ (unplaced-unless (is_edition (word32 r 0)) 17)
    (unplaced-unless (allowed r) 18))

row : (rows j : ℕ) → Unplaced (row_fault rows j)
unfolding row_fault
row rows j = unplaced-unless (ltb j rows) 19

pub unit-unplaced : (r : List ℕ) (j : ℕ) → Unplaced (unit_fault r j)
unfolding unit_fault
unit-unplaced r j =
    unplaced-either (reading_fault r) (row_fault (word32 r 8) j) (header-unplaced r) (row (word32 r 8) j)

pub scene-unplaced : (r : List ℕ) (j : ℕ) → Unplaced (scene_fault r j)
unfolding scene_fault
scene-unplaced r j =
    unplaced-either (reading_fault r) (row_fault (word32 r 16) j) (header-unplaced r) (row (word32 r 16) j)
