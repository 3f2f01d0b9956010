-- What the C functions of a record promise: number, value and lent memory are those of the rule's answer.
use Rattle.std.specs.Prelude.{ℕ, ◌≡◌, List, length}
use Rattle.rules.specs.Reading.{header_answer, unit_answer, scene_answer}
use Rattle.rules.specs.Sheet.{sheet_answer, sheet_buffer}
use Rattle.c_numbers.specs.Numbers.{number_of, value_of}
use Rattle.record_verify.specs.Marks.{verdict_of}
use Rattle.c_record.specs.Figures.{header_into, unit_into, scene_into}
use Rattle.c_record.specs.Figures.{verdict_number, verdict_into}

-- the record's bytes, the lent array before, the number, the lent array after
pub record HeaderRead (bytes before : List ℕ) (number : ℕ) (after : List ℕ) : Type 0 where
  pub numbered : number ≡ number_of (header_answer bytes)
  pub given : after ≡ header_into (header_answer bytes) before

-- the record's bytes, the row's number j, the lent row before, the number, the lent row after
pub record UnitRead (bytes : List ℕ) (j : ℕ) (before : List ℕ) (number : ℕ) (after : List ℕ) : Type 0 where
  pub numbered : number ≡ number_of (unit_answer bytes j)
  pub given : after ≡ unit_into (unit_answer bytes j) before

pub record SceneRead (bytes : List ℕ) (j : ℕ) (before : List ℕ) (number : ℕ) (after : List ℕ) : Type 0 where
  pub numbered : number ≡ number_of (scene_answer bytes j)
  pub given : after ≡ scene_into (scene_answer bytes j) before

-- the record's bytes, the lent verdict before, the number, the lent verdict after
pub record Verified (bytes before : List ℕ) (number : ℕ) (after : List ℕ) : Type 0 where
  pub numbered : number ≡ verdict_number (verdict_of bytes)
  pub given : after ≡ verdict_into (verdict_of bytes) before

-- the record's bytes, the buffer before, the number, the value, the buffer after
pub record SheetPrinted (bytes before : List ℕ) (number value : ℕ) (after : List ℕ) : Type 0 where
  pub numbered : number ≡ number_of (sheet_answer bytes (length before))
  pub valued : value ≡ value_of (sheet_answer bytes (length before))
  pub printed : after ≡ sheet_buffer bytes before
