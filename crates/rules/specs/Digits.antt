-- The digits of a number as text, in ASCII codes: what `show` and the sheet print.
use Rattle.std.specs.Prelude.{ℕ, zero, suc, ◌+◌, ◌/◌, ◌%◌, List, [], ◌∷◌, ◌++◌, ltb}
use Rattle.rules.specs.Bytes.{pick}

-- the decimal digits of a number, the highest first, no more than k of them
unfoldable pub decimal_in : ℕ → ℕ → List ℕ
decimal_in zero n = []
decimal_in (suc k) n =
    let more = decimal_in k (n / 10) ++ ((48 + n % 10) ∷ []) in
    pick (ltb n 10) ((48 + n) ∷ []) more

-- of a number below 2 ^ 64
unfoldable pub decimal : ℕ → List ℕ
decimal n = decimal_in 20 n

-- a digit below 16, letters capital
abbrev pub hex_digit : ℕ → ℕ
hex_digit d = pick (ltb d 10) (48 + d) (55 + d)

-- the last k hexadecimal digits of a number, the highest first
unfoldable pub hex_in : ℕ → ℕ → List ℕ
hex_in zero n = []
hex_in (suc k) n = hex_in k (n / 16) ++ (hex_digit (n % 16) ∷ [])
