-- Document 02, R-13: small shelves worked by hand, as a table with one theorem over its entries.
use Prim.Native.Nat.{ℕ}
use mathlib.Core.Path.{◌≡◌, refl}
use mathlib.Core.List.{List, [], ◌∷◌, ◌++◌, map}
use lib.ListN.{replicate, set}
use Rattle.std.specs.Prelude.{Ok, Err}
use Rattle.rules.specs.declared.Part.{Part}
use Rattle.rules.specs.declared.ShelfTotals.{ShelfTotals}
use Rattle.rules.specs.Refusals.{Answer}
use Rattle.rules.specs.Bytes.{word32, word64, bytes_of, total, table, end_to_end}
use Rattle.rules.specs.Editions.{is_edition, knows_damage}
use Rattle.rules.specs.Opening.{good_size, good_time, good_pid}
use Rattle.rules.specs.Record.{le32, record_length, scene_offset}
use Rattle.rules.specs.Reading.{header_of, unit_place, unit_in, unit_at, reading_fault, row_fault, unit_fault}
use Rattle.rules.specs.Reading.{allowed_header, allowed_unit, allowed_units, allowed_scene, allowed_scenes}
use Rattle.rules.specs.Reading.{allowed_rows, allowed, header_answer, unit_answer}
use Rattle.rules.specs.Shelf.{edge, rising, laid_out, part, records, record_lost, shelf_lost, first_refused}
use Rattle.rules.specs.Shelf.{shelf_fault, part_fault, shelf_answer, part_answer, offsets_from, head_bytes, shelf_of}
use Rattle.rules.proofs.Worked.{Case}

-- ---- answers as numbers: 0 and what is given, or a refusal's number and place

opened : Answer ShelfTotals → List ℕ
opened (Ok x) = 0 ∷ x.records ∷ x.lost ∷ []
opened (Err e) = e.number ∷ e.place ∷ []

taken : Answer Part → List ℕ
taken (Ok x) = 0 ∷ x.start ∷ x.end ∷ []
taken (Err e) = e.number ∷ e.place ∷ []

-- ---- the parts that shelves are made of

words : List ℕ → List ℕ
words ns = end_to_end (map le32 ns)

unit : ℕ → List ℕ
unit lost = words (5 ∷ 0 ∷ 5 ∷ 0 ∷ 184 ∷ 1 ∷ lost ∷ 0 ∷ [])

scene : List ℕ
scene = words (0 ∷ 2 ∷ 1 ∷ 1 ∷ 0 ∷ 0 ∷ 0 ∷ 0 ∷ [])

-- a record of an edition with a unit that lost so many cells, 128 bytes; and one with two such units, 160 bytes
one : ℕ → ℕ → List ℕ
one edition lost =
    words (edition ∷ 128 ∷ 1 ∷ 64 ∷ 1 ∷ 96 ∷ 30 ∷ 30 ∷ 40000 ∷ 256 ∷ 2 ∷ 1 ∷ 0 ∷ 0 ∷ 0 ∷ 0x40080000 ∷ [])
    ++ unit lost ++ scene

pair : ℕ → ℕ → List ℕ
pair a b =
    words (1 ∷ 160 ∷ 2 ∷ 64 ∷ 1 ∷ 128 ∷ 30 ∷ 30 ∷ 40000 ∷ 256 ∷ 2 ∷ 1 ∷ 0 ∷ 0 ∷ 0 ∷ 0x40080000 ∷ [])
    ++ unit a ++ unit b ++ scene

-- two records of 128 bytes behind a head that says this total length and these offsets
two : ℕ → ℕ → ℕ → List ℕ
two size first second = words (2 ∷ size ∷ first ∷ second ∷ []) ++ one 1 3 ++ one 2 4

pub shelves : List Case
shelves =
    -- without a record: 8 bytes in all, and both words say so; 9 bytes; a total length of 9; 7 bytes
    record { rule = opened (shelf_answer (words (0 ∷ 8 ∷ []))); paper = 0 ∷ 0 ∷ 0 ∷ [] }
    ∷ record { rule = opened (shelf_answer (words (0 ∷ 9 ∷ []) ++ 0 ∷ [])); paper = 27 ∷ 0 ∷ [] }
    ∷ record { rule = opened (shelf_answer (words (0 ∷ 8 ∷ []) ++ 0 ∷ [])); paper = 27 ∷ 0 ∷ [] }
    ∷ record { rule = opened (shelf_answer (words (0 ∷ 9 ∷ []))); paper = 27 ∷ 0 ∷ [] }
    ∷ record { rule = opened (shelf_answer (replicate 7 0)); paper = 27 ∷ 0 ∷ [] }
    -- a count and no offsets; a count of 4,097
    ∷ record { rule = opened (shelf_answer (words (1 ∷ 8 ∷ []))); paper = 27 ∷ 0 ∷ [] }
    ∷ record { rule = opened (shelf_answer (words (4097 ∷ 8 ∷ []))); paper = 27 ∷ 0 ∷ [] }
    -- records of editions 1 and 2 that lost 3 and 4 cells; their parts; a record that is not there
    ∷ record { rule = opened (shelf_answer (two 272 16 144)); paper = 0 ∷ 2 ∷ 7 ∷ [] }
    ∷ record { rule = taken (part_answer (two 272 16 144) 0); paper = 0 ∷ 16 ∷ 144 ∷ [] }
    ∷ record { rule = taken (part_answer (two 272 16 144) 1); paper = 0 ∷ 144 ∷ 272 ∷ [] }
    ∷ record { rule = taken (part_answer (two 272 16 144) 2); paper = 19 ∷ 0 ∷ [] }
    -- records of editions 1 to 4 together
    ∷ record {
      rule = opened
          (shelf_answer (words (4 ∷ 536 ∷ 24 ∷ 152 ∷ 280 ∷ 408 ∷ []) ++ one 1 1 ++ one 2 2 ++ one 3 4 ++ one 4 8));
      paper = 0 ∷ 4 ∷ 15 ∷ [];
    }
    -- all units of a record count
    ∷ record { rule = opened (shelf_answer (words (1 ∷ 172 ∷ 12 ∷ []) ++ pair 3 9)); paper = 0 ∷ 1 ∷ 12 ∷ [] }
    -- a total length that is not the slice's; a byte between the head and the first record
    ∷ record { rule = opened (shelf_answer (two 273 16 144)); paper = 27 ∷ 0 ∷ [] }
    ∷ record { rule = opened (shelf_answer (two 272 16 144 ++ 0 ∷ [])); paper = 27 ∷ 0 ∷ [] }
    ∷ record { rule = opened (shelf_answer (two 272 17 144)); paper = 27 ∷ 0 ∷ [] }
    -- an offset not above the one before; the last one not below the total length
    ∷ record { rule = opened (shelf_answer (two 272 16 16)); paper = 27 ∷ 0 ∷ [] }
    ∷ record { rule = opened (shelf_answer (two 272 16 272)); paper = 27 ∷ 0 ∷ [] }
    -- the first record refused, the second, and both: the first one's number; nothing is taken of such a shelf
    ∷ record { rule = opened (shelf_answer (two 272 16 145)); paper = 28 ∷ 0 ∷ [] }
    ∷ record { rule = opened (shelf_answer (set (two 272 16 144) 144 0)); paper = 28 ∷ 1 ∷ [] }
    ∷ record { rule = taken (part_answer (set (two 272 16 144) 144 0) 0); paper = 28 ∷ 1 ∷ [] }
    ∷ record { rule = taken (part_answer (set (two 272 16 144) 144 0) 2); paper = 28 ∷ 1 ∷ [] }
    -- 27 comes before 28 and before 19
    ∷ record { rule = opened (shelf_answer (two 273 16 145)); paper = 27 ∷ 0 ∷ [] }
    ∷ record { rule = taken (part_answer (two 273 16 145) 2); paper = 27 ∷ 0 ∷ [] }
    -- the shelf of two records, and of none
    ∷ record { rule = shelf_of (one 1 3 ∷ one 2 4 ∷ []); paper = two 272 16 144 }
    ∷ record { rule = shelf_of []; paper = words (0 ∷ 8 ∷ []) }
    ∷ []

-- the theorem: every entry's rule gives what document 02 says
pub shelved : map (λ (c : Case). c.rule) shelves ≡ map (λ (c : Case). c.paper) shelves
unfolding shelves opened taken words unit scene one pair two is_edition knows_damage word32 word64 bytes_of total
    table end_to_end good_size good_time good_pid record_length scene_offset header_of unit_place unit_in unit_at
    reading_fault row_fault unit_fault allowed_header allowed_unit allowed_units allowed_scene allowed_scenes
    allowed_rows allowed header_answer unit_answer edge rising laid_out part records record_lost shelf_lost
    first_refused shelf_fault part_fault shelf_answer part_answer offsets_from head_bytes shelf_of
shelved = refl
