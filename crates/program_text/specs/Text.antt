-- What programs print of an answer and of bytes, as ASCII codes.
use Rattle.std.specs.Prelude.{ℕ, ◌+◌, ◌/◌, ◌%◌, List, [], ◌∷◌, ◌++◌, map, ltb, Ok, Err}
use Rattle.rules.specs.Bytes.{pick, end_to_end}
use Rattle.rules.specs.Refusals.{Answer}
use Rattle.rules.specs.Digits.{hex_in}
use Rattle.record_text.specs.Lines.{line_of}

-- an answer: one word and the length where it is done, another, the number and the place where it is refused
unfoldable pub answer_text : List ℕ → List ℕ → Answer ℕ → List ℕ → List ℕ
answer_text done refused (Ok n) end = line_of done (n ∷ []) end
answer_text done refused (Err e) end = line_of refused (e.number ∷ e.place ∷ []) end

-- a float's bits: a word, a space and 16 hexadecimal digits, letters capital, and an end
unfoldable pub bits_text : List ℕ → ℕ → List ℕ → List ℕ
bits_text word bits end = word ++ (32 ∷ hex_in 16 bits) ++ end

-- a hexadecimal digit, in lower case
abbrev pub digit : ℕ → ℕ
digit d = pick (ltb d 10) (48 + d) (87 + d)

-- each byte as two hexadecimal digits
unfoldable pub hex_text : List ℕ → List ℕ
hex_text bytes = end_to_end (map (λ b. digit (b / 16) ∷ digit (b % 16) ∷ []) bytes)
