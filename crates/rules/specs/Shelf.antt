-- R-13, the shelf: a head of counts and offsets, then records without gaps. Of a record it asks only what its reader
-- promises.
use Rattle.std.specs.Prelude.{ℕ, zero, suc, ◌+◌, ◌-◌, ◌*◌, ◌≤◌, ◌≡◌, List, [], ◌∷◌, ◌++◌, map, Bool, true, ◌&&◌}
use Rattle.std.specs.Prelude.{length, take, drop, leb, ltb, eqb, Ok, Err}
use Rattle.rules.specs.declared.Header.{Header}
use Rattle.rules.specs.declared.Part.{Part}
use Rattle.rules.specs.declared.UnitRow.{UnitRow}
use Rattle.rules.specs.declared.ShelfTotals.{ShelfTotals}
use Rattle.rules.specs.Refusals.{Answer, answer, Fault, none, fault, unless, ◌or_else◌}
use Rattle.rules.specs.Bytes.{pick, word32, total, table, end_to_end, All}
use Rattle.rules.specs.Record.{le32}
use Rattle.rules.specs.Reading.{reading_fault, header_answer, unit_answer}

-- ---- how a shelf is laid out

-- the count n, and the length of the head: n, the total length and n offsets
abbrev pub record_count : List ℕ → ℕ
record_count s = word32 s 0

abbrev pub head_length : ℕ → ℕ
head_length n = 8 + 4 * n

-- where record j starts: offset j, and behind the last record the shelf's end
unfoldable pub edge : List ℕ → ℕ → ℕ
edge s j = pick (ltb j (record_count s)) (word32 s (8 + 4 * j)) (length s)

-- n edges from edge j on, each below the next
unfoldable pub rising : List ℕ → ℕ → ℕ → Bool
rising s zero j = true
rising s (suc n) j = ltb (edge s j) (edge s (j + 1)) && rising s n (j + 1)

-- at most 4,096 records; the head is whole; the total length is the slice's; the first offset is 8 + 4n, each is above
-- the one before, the last below the total length. Without a record the first edge is the end, so the shelf is the
-- head
unfoldable pub laid_out : List ℕ → Bool
laid_out s =
    leb 8 (length s) && leb (record_count s) 4096 && leb (head_length (record_count s)) (length s)
    && eqb (word32 s 4) (length s)
    && eqb (edge s 0) (head_length (record_count s)) && rising s (record_count s) 0

-- the part that is record j, and the records in order
unfoldable pub part : List ℕ → ℕ → List ℕ
part s j = take (edge s (j + 1) - edge s j) (drop (edge s j) s)

unfoldable pub records : List ℕ → List (List ℕ)
records s = table (record_count s) 0 (part s)

-- ---- lost cells, as the record reader gives them

abbrev pub units_given : Answer Header → ℕ
units_given (Ok h) = h.units
units_given (Err e) = 0

abbrev pub lost_given : Answer UnitRow → ℕ
lost_given (Ok u) = u.lost
lost_given (Err e) = 0

-- over all units of a record, and over all records of a shelf
unfoldable pub record_lost : List ℕ → ℕ
record_lost r = total (table (units_given (header_answer r)) 0 (λ (i : ℕ). lost_given (unit_answer r i)))

unfoldable pub shelf_lost : List ℕ → ℕ
shelf_lost s = total (map record_lost (records s))

-- ---- refusals: 27 not laid out so, 28 at the number of the first record that the reader refuses, 19 no such record

-- 28 at its number of a record that is refused
abbrev pub refused_at : Fault → ℕ → Fault
refused_at none j = none
refused_at (fault k p) j = fault 28 j

-- the first that is refused, where the first of them has number j
unfoldable pub first_refused : ℕ → List (List ℕ) → Fault
first_refused j [] = none
first_refused j (r ∷ rs) = refused_at (reading_fault r) j or_else first_refused (j + 1) rs

unfoldable pub shelf_fault : List ℕ → Fault
shelf_fault s = let refused = first_refused 0 (records s) in unless (laid_out s) 27 or_else refused

unfoldable pub part_fault : List ℕ → ℕ → Fault
part_fault s j = shelf_fault s or_else unless (ltb j (record_count s)) 19

-- ---- what the reader of a shelf answers

-- how many records it holds and how many cells they lost
unfoldable pub shelf_answer : List ℕ → Answer ShelfTotals
shelf_answer s = answer (shelf_fault s) (record { records = record_count s; lost = shelf_lost s })

-- where record j starts and ends
unfoldable pub part_answer : List ℕ → ℕ → Answer Part
part_answer s j = answer (part_fault s j) (record { start = edge s j; end = edge s (j + 1) })

-- ---- the shelf of some records

-- the offsets of records of these lengths, the first at a place
unfoldable pub offsets_from : ℕ → List ℕ → List ℕ
offsets_from at [] = []
offsets_from at (l ∷ ls) = at ∷ offsets_from (at + l) ls

-- the head for records of these lengths
unfoldable pub head_bytes : List ℕ → List ℕ
head_bytes lengths =
    let head = head_length (length lengths) in
    le32 (length lengths) ++ le32 (head + total lengths) ++ end_to_end (map le32 (offsets_from head lengths))

unfoldable pub shelf_of : List (List ℕ) → List ℕ
shelf_of rs = head_bytes (map length rs) ++ end_to_end rs

-- ---- what is proved of shelves (crates/shelf)

-- the parts joined are what stands behind the head: no gap, nothing twice
abbrev pub PartsAreTheShelf : Type 0
PartsAreTheShelf = (s : List ℕ) → laid_out s ≡ true → end_to_end (records s) ≡ drop (head_length (record_count s)) s

-- records that may stand on a shelf: at most 4,096, and the reader takes each
pub record Shelved (rs : List (List ℕ)) : Type 0 where
  pub few : length rs ≤ 4096
  pub each : All (λ (r : List ℕ). reading_fault r ≡ none) rs

-- the shelf of any such records is accepted and gives each of them back, byte by byte
pub record GivenBack (rs : List (List ℕ)) : Type 0 where
  pub accepted : shelf_fault (shelf_of rs) ≡ none
  pub back : records (shelf_of rs) ≡ rs

abbrev pub EveryShelf : Type 0
EveryShelf = (rs : List (List ℕ)) → Shelved rs → GivenBack rs

-- different lists of records have different shelves
abbrev pub OneList : Type 0
OneList = (rs qs : List (List ℕ)) → Shelved rs → Shelved qs → shelf_of rs ≡ shelf_of qs → rs ≡ qs
