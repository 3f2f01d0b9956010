-- Outcomes as bytes.
use Rattle.std.specs.Prelude.{ℕ, ◌≡◌, List, [], ◌∷◌, ◌++◌, Ok, Err}
use Rattle.std.specs.Float.{binary64}
use Rattle.std.specs.Float.Ieee.{to_bits}
use Rattle.rules.specs.declared.Index.{Index}
use Rattle.rules.specs.Refusals.{Answer}
use Rattle.rules.specs.declared.Index as of-rules
use Rattle.index.specs.Counts.{NoNan}
use Rattle.rules.specs.Bytes.{bytes_of}
use Rattle.rules.specs.Calls.{Reply, sealed_into, indexed, counted, Outcome, fed, replied}

-- whether an answer is a refusal
abbrev pub kind_of : Answer ℕ → ℕ
kind_of (Ok n) = 0
kind_of (Err e) = 1

-- the length, or the refusal's number
abbrev pub first_of : Answer ℕ → ℕ
first_of (Ok n) = n
first_of (Err e) = e.number

-- the refusal's place; a length has none
abbrev pub second_of : Answer ℕ → ℕ
second_of (Ok n) = 0
second_of (Err e) = e.place

-- an answer's 17 bytes: one of its kind, eight of its length or number, eight of its place
unfoldable pub code : Answer ℕ → List ℕ
code a = kind_of a ∷ bytes_of 8 (first_of a) ++ bytes_of 8 (second_of a)

-- a byte of its kind and three times eight bytes
unfoldable pub three_words : ℕ → ℕ → ℕ → ℕ → List ℕ
three_words kind a b c = kind ∷ bytes_of 8 a ++ bytes_of 8 b ++ bytes_of 8 c

-- an index's 25 bytes: the bits of Ic, Ip and the index; or the refusal's number, its place and 0
abbrev pub index_code : Answer Index → List ℕ
index_code (Ok i) =
    three_words 0 (to_bits binary64 i.ic) (to_bits binary64 i.ip) (to_bits binary64 i.value)
index_code (Err e) = three_words 1 e.number e.place 0

-- a question's reply. Of a seal: its answer and the whole buffer behind it
abbrev pub reply_code : Reply → List ℕ
reply_code (sealed_into a buffer) = code a ++ buffer
reply_code (indexed a) = index_code a
reply_code (counted a) = code a

-- a call's outcome
abbrev pub code_of : Outcome → List ℕ
code_of (fed a) = code a
code_of (replied r) = reply_code r

-- the outcomes of a list of calls, one behind the other
unfoldable pub codes : List Outcome → List ℕ
codes [] = []
codes (o ∷ os) = code_of o ++ codes os

-- ---- of the functions within

-- the three of an index that is given have bits
abbrev pub HasBits : Answer Index → Type 0
HasBits a = (i : of-rules.Index) → a ≡ Ok i → NoNan i
