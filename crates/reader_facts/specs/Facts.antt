-- What a thirty-year reader may lean on (document 02, R-14): three facts of every record that a seal leaves in its
-- buffer, after every list of calls, under every edition. Their subject is the record's bytes r.
use Rattle.std.specs.Prelude.{ℕ, ◌+◌, ◌-◌, ◌*◌, ◌/◌, ◌≡◌, List, [], ◌∷◌, ◌++◌, map, not, length, take, drop, T, Float}
use Rattle.std.specs.Prelude.{Ok}
use Rattle.std.specs.Float.{binary64}
use Rattle.std.specs.Float.Ieee.{of_bits, is_nan, le}
use Rattle.rules.specs.declared.Opening.{Opening}
use Rattle.rules.specs.Refusals.{Answer}
use Rattle.rules.specs.Bytes.{Bytes, word32, word64, total, only, table}
use Rattle.rules.specs.Packets.{udp_length, carries, packets, other_of}
use Rattle.rules.specs.Capture.{whole_frames}
use Rattle.rules.specs.Index.{float}
use Rattle.rules.specs.Calls.{seal, sealed_into, Call, ask, Outcome, replied, capture_fed, luma_fed}
use Rattle.sample_questions.specs.State.{State}
use Rattle.sample.specs.Contract.{OpenPost}
use Rattle.sample.specs.Calls.{Runs}

-- ---- the words of a record

-- word k of every unit row, added up: unit j's row stands at 64 + 32 j, and word 8 is the number of units
unfoldable pub unit_words : List ℕ → ℕ → ℕ
unit_words r k = total (table (word32 r 8) 0 (λ j. word32 r (64 + 32 * j + k)))

-- the unit rows' bytes
unfoldable pub unit_rows : List ℕ → List ℕ
unit_rows r = take (32 * word32 r 8) (drop 64 r)

-- the index, as the number whose f64 bits stand at 56
unfoldable pub index_in : List ℕ → Float
index_in r = of_bits binary64 (word64 r 56)

-- ---- the capture's records and cells

-- the capture records that carry
unfoldable pub carrying : List ℕ → List (List ℕ)
carrying capture = only carries (whole_frames capture)

-- the cells in all of them: one for each 188 of the U − 8 bytes that a record carries
unfoldable pub carried_cells : List ℕ → ℕ
carried_cells capture = total (map (λ f. (udp_length f - 8) / 188) (carrying capture))

-- how many of them start with 0x47 under another identifier
unfoldable pub foreign_cells : Opening → List ℕ → ℕ
foreign_cells o capture = other_of o (packets 24 (whole_frames capture))

-- ---- the facts

-- 1: capture records are carrying ones and passed-over ones, and every cell of a carrying record is counted once: bad
-- (word 52), under another identifier, in a unit (words 20), or damaged in a unit (words 28)
pub record AllCounted (o : Opening) (capture r : List ℕ) : Type 0 where
  pub records : word32 r 44 ≡ length (carrying capture) + word32 r 48
  pub cells : carried_cells capture ≡ word32 r 52 + foreign_cells o capture + unit_words r 20 + unit_words r 28

-- 2: the index is a number from 1 to 5, rounding included
pub record OneToFive (r : List ℕ) : Type 0 where
  pub number : T (not (is_nan (index_in r)))
  pub least : T (le (float 1) (index_in r))
  pub most : T (le (index_in r) (float 5))

-- 3: two records have the same units, byte by byte
pub record SameUnits (r r' : List ℕ) : Type 0 where
  pub units : word32 r 8 ≡ word32 r' 8
  pub rows : unit_rows r ≡ unit_rows r'

-- ---- at every successful seal

-- r is what a seal left that was done, at the end of a list of calls after this opening
pub record SealedBy (o : Opening) (capture luma r : List ℕ) : Type 0 where
  pub opened : Answer ℕ
  pub first : State
  pub last : State
  pub calls : List Call
  pub outcomes : List Outcome
  pub before : List ℕ
  pub after : List ℕ
  pub answer : ℕ
  pub opens : OpenPost o opened first
  pub runs : Runs first (calls ++ ask (seal before) ∷ [])
      (outcomes ++ replied (sealed_into (Ok answer) after) ∷ []) last
  pub capture_is : capture_fed calls ≡ capture
  pub luma_is : luma_fed calls ≡ luma
  pub capture_bytes : Bytes capture
  pub luma_bytes : Bytes luma
  pub is : r ≡ take answer after

-- THE STATEMENTS
abbrev pub EverySealCounts : Type 0
EverySealCounts = (o : Opening) (capture luma r : List ℕ) → SealedBy o capture luma r → AllCounted o capture r

abbrev pub EverySealOneToFive : Type 0
EverySealOneToFive = (o : Opening) (capture luma r : List ℕ) → SealedBy o capture luma r → OneToFive r

-- two samples that were opened alike and hold equal joined capture bytes, whatever their luma
abbrev pub EqualCapturesEqualUnits : Type 0
EqualCapturesEqualUnits =
    (o : Opening) (capture luma luma' r r' : List ℕ) →
    SealedBy o capture luma r → SealedBy o capture luma' r' → SameUnits r r'
