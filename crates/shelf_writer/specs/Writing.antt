-- Writing a shelf. Document 02, R-13, says what a shelf is and how it is read; that one is written, and
-- what is refused then, is the archive's wish (docs/DECISIONS.md). The records lie end to end in one
-- string; a list has their lengths.
use Rattle.std.specs.Prelude.{ℕ, ◌+◌, ◌≤◌, ◌≡◌, List, [], ◌∷◌, map, Bool, ◌&&◌, length, take, drop, leb, eqb, Ok}
use Rattle.rules.specs.Refusals.{Answer, Fault, none, unless, ◌or_else◌, answer}
use Rattle.rules.specs.Bytes.{total, end_to_end}
use Rattle.rules.specs.Record.{le32}
use Rattle.rules.specs.Seal.{no_room, over, if_done}
use Rattle.rules.specs.Shelf.{head_length, records, first_refused, shelf_fault, offsets_from, shelf_of, Shelved}

-- ---- records, end to end

-- the records of these lengths, from the front of a string
unfoldable pub cut_up : List ℕ → List ℕ → List (List ℕ)
cut_up s [] = []
cut_up s (l ∷ ls) = take l s ∷ cut_up (drop l s) ls

-- at most 4,096 of them, which together have the string's length
unfoldable pub good_lengths : List ℕ → ℕ → Bool
good_lengths lengths size = leb (length lengths) 4096 && eqb (total lengths) size

-- the length of their shelf
unfoldable pub shelf_length : List ℕ → ℕ
shelf_length lengths = head_length (length lengths) + total lengths

-- where each of them starts, as the shelf's head has it
unfoldable pub offset_bytes : List ℕ → List ℕ
offset_bytes lengths = end_to_end (map le32 (offsets_from (head_length (length lengths)) lengths))

-- ---- the call

-- 27 where the lengths are not as they should be; 28 at the number of the first record that the reader refuses, an
-- empty one with it; then 15 with the length needed, for a buffer of `room` bytes
unfoldable pub writing_fault : List ℕ → List ℕ → ℕ → Fault
writing_fault s lengths room =
    unless (good_lengths lengths (length s)) 27
    or_else first_refused 0 (cut_up s lengths)
    or_else no_room room (shelf_length lengths)

-- the shelf's length, or the refusal
unfoldable pub writing_answer : List ℕ → List ℕ → ℕ → Answer ℕ
writing_answer s lengths room = answer (writing_fault s lengths room) (shelf_length lengths)

-- the shelf at the front and behind it the bytes as they were; after a refusal all bytes as they were
unfoldable pub written_buffer : List ℕ → List ℕ → List ℕ → List ℕ
written_buffer s lengths buffer =
    let new = over (shelf_of (cut_up s lengths)) buffer in
    if_done (writing_answer s lengths (length buffer)) new buffer

-- ---- what is proved of it

-- n bytes of a buffer, after a call that wrote so many: a shelf that the reader takes and whose records are those that
-- were lent, byte by byte and all of them; behind it the buffer is as it was
pub record OnTheShelf (s lengths before : List ℕ) (n : ℕ) (after : List ℕ) : Type 0 where
  pub accepted : shelf_fault (take n after) ≡ none
  pub back : records (take n after) ≡ cut_up s lengths
  pub whole : end_to_end (cut_up s lengths) ≡ s
  pub behind : drop n after ≡ drop n before

abbrev pub EveryWriting : Type 0
EveryWriting =
    (s lengths buffer : List ℕ) (n : ℕ) → writing_answer s lengths (length buffer) ≡ Ok n →
    OnTheShelf s lengths buffer n (written_buffer s lengths buffer)

-- records that may stand on a shelf, lent to the call with their lengths and with room: their shelf is written
pub record AllWritten (rs : List (List ℕ)) (buffer : List ℕ) : Type 0 where
  pub answered : writing_answer (end_to_end rs) (map length rs) (length buffer) ≡ Ok (length (shelf_of rs))
  pub written : written_buffer (end_to_end rs) (map length rs) buffer ≡ over (shelf_of rs) buffer

abbrev pub EveryRecords : Type 0
EveryRecords =
    (rs : List (List ℕ)) (buffer : List ℕ) → Shelved rs → length (shelf_of rs) ≤ length buffer → AllWritten rs buffer

-- calls that write one shelf were lent the same records with the same lengths
abbrev pub OneWriting : Type 0
OneWriting =
    (s t ls ms b c : List ℕ) (n m : ℕ) → writing_answer s ls (length b) ≡ Ok n →
    writing_answer t ms (length c) ≡ Ok m → take n (written_buffer s ls b) ≡ take m (written_buffer t ms c) →
    (s ≡ t) × (ls ≡ ms)
