-- To reach the index again: N of the header, the totals of the rows, and the rule's index of them. The subject is the
-- record's bytes r.
use Rattle.std.specs.Prelude.{ℕ, ◌-◌, ◌≡◌, List, not, T}
use Rattle.std.specs.Float.Ieee.{is_nan, le}
use Rattle.rules.specs.declared.Index.{Index}
use Rattle.rules.specs.Bytes.{word32, total, table, Bytes}
use Rattle.rules.specs.Refusals.{none}
use Rattle.rules.specs.Index.{float, index_of}
use Rattle.rules.specs.Reading.{unit_at, scene_at, reading_fault}
use Rattle.record_verify.specs.declared.Reached.{Reached}

-- word 8 of every scene row, added up: the repeated pictures
unfoldable pub repeated_total : List ℕ → ℕ
repeated_total r = total (table (word32 r 16) 0 (λ j. (scene_at r j).repeated))

-- words 20, 24 and 28 of every unit row, added up: packets (document 01: cells), lost, damaged
unfoldable pub packets_total : List ℕ → ℕ
packets_total r = total (table (word32 r 8) 0 (λ j. (unit_at r j).packets))

unfoldable pub lost_total : List ℕ → ℕ
lost_total r = total (table (word32 r 8) 0 (λ j. (unit_at r j).lost))

unfoldable pub damaged_total : List ℕ → ℕ
damaged_total r = total (table (word32 r 8) 0 (λ j. (unit_at r j).damaged))

-- word 40 is N; where more pictures are repeated than there are, which mark 6 forbids, this is 0
unfoldable pub unrepeated_total : List ℕ → ℕ
unrepeated_total r = word32 r 40 - repeated_total r

-- the rule's index of them
unfoldable pub index_of_rows : List ℕ → Index
index_of_rows r = index_of (unrepeated_total r) (word32 r 40) (packets_total r) (lost_total r)

-- the four counts, and the index that they reach
unfoldable pub reached_of : List ℕ → Reached
reached_of r =
    record {
      unrepeated = unrepeated_total r;
      pictures = word32 r 40;
      packets = packets_total r;
      lost = lost_total r;
      index = index_of_rows r;
    }

-- ---- what the laws say, of any bytes

-- an index whose value is a number from 1 to 5, rounding included
pub record OneToFive (i : Index) : Type 0 where
  pub number : T (not (is_nan i.value))
  pub least : T (le (float 1) i.value)
  pub most : T (le i.value (float 5))

-- of a record that the reader does not refuse, whoever made it, the index of its rows is such an index
abbrev pub RowsOneToFive : Type 0
RowsOneToFive = (r : List ℕ) → Bytes r → reading_fault r ≡ none → OneToFive (index_of_rows r)
