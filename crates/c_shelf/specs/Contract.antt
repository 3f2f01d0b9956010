-- What the C functions of a shelf promise: the number, the place and the lent figures are those of the rule's answer.
use Rattle.std.specs.Prelude.{ℕ, ◌≡◌, List, [], ◌∷◌, length, Ok, Err}
use Rattle.rules.specs.declared.Part.{Part}
use Rattle.rules.specs.declared.ShelfTotals.{ShelfTotals}
use Rattle.rules.specs.Refusals.{Answer}
use Rattle.rules.specs.Shelf.{shelf_answer, part_answer}
use Rattle.shelf_writer.specs.Writing.{writing_answer, written_buffer}
use Rattle.c_numbers.specs.Numbers.{number_of, value_of, place_of}

-- the lent figures: records and lost cells; start and end; after a refusal what stood there
abbrev pub shelf_into : Answer ShelfTotals → List ℕ → List ℕ
shelf_into (Ok x) old = x.records ∷ x.lost ∷ []
shelf_into (Err e) old = old

abbrev pub part_into : Answer Part → List ℕ → List ℕ
part_into (Ok x) old = x.start ∷ x.end ∷ []
part_into (Err e) old = old

-- the shelf's bytes, the lent figures before, the number, the place, the lent figures after
pub record ShelfOpened (bytes before : List ℕ) (number place : ℕ) (after : List ℕ) : Type 0 where
  pub numbered : number ≡ number_of (shelf_answer bytes)
  pub placed : place ≡ place_of (shelf_answer bytes)
  pub given : after ≡ shelf_into (shelf_answer bytes) before

-- the shelf's bytes, the record's number j, and the same
pub record PartTaken (bytes : List ℕ) (j : ℕ) (before : List ℕ) (number place : ℕ) (after : List ℕ) : Type 0 where
  pub numbered : number ≡ number_of (part_answer bytes j)
  pub placed : place ≡ place_of (part_answer bytes j)
  pub given : after ≡ part_into (part_answer bytes j) before

-- the records end to end, their lengths, the buffer before, the number, the value, the buffer after
pub record ShelfWritten (records lengths before : List ℕ) (number value : ℕ) (after : List ℕ) : Type 0 where
  pub numbered : number ≡ number_of (writing_answer records lengths (length before))
  pub valued : value ≡ value_of (writing_answer records lengths (length before))
  pub written : after ≡ written_buffer records lengths before
