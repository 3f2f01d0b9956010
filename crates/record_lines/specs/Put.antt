-- What putting a text into a lent buffer leaves, and lines put one behind the other.
use Rattle.std.specs.Prelude.{ℕ, ◌+◌, ◌^◌, ◌<◌, ◌≡◌, List, length}
use Rattle.rules.specs.Bytes.{table, end_to_end}
use Rattle.words.specs.Written.{written}

-- the text of n bytes stands at place `at`, up to `end`; every other byte of s is in t as it was
pub record Put (at n : ℕ) (text s : List ℕ) (end : ℕ) (t : List ℕ) : Type 0 where
  pub ends : end ≡ at + n
  pub size : length text ≡ n
  pub puts : t ≡ written at text s

-- the lines numbered 0 to n - 1, end to end
unfoldable pub lines_to : ℕ → (ℕ → List ℕ) → List ℕ
lines_to n text = end_to_end (table n 0 text)

-- a number of 64 bits that w columns hold
abbrev pub Fits : ℕ → ℕ → Type 0
Fits w n = (n < 10 ^ w) × (n < 2 ^ 64)
