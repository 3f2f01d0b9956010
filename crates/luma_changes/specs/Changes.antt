-- Changes: what `change` promises.
use Rattle.std.specs.Prelude.{◌≡◌, ℕ, ◌-◌, ◌*◌, ◌≤◌, Bool}
use Rattle.rules.specs.Bytes.{apart}
use Rattle.rules.specs.Changes.{change_from}

-- V, from n pixels, the sum of their rises, that of their falls and that of their squared moves
unfoldable pub spread_of : ℕ → ℕ → ℕ → ℕ → ℕ
spread_of n up down squares = n * squares - apart up down * apart up down

-- what 64 bits are enough for: a picture's pixels, and four times a V that they can give
pub record Asked (v n : ℕ) : Type 0 where
  pub some : 1 ≤ n
  pub few : n ≤ 14101
  pub bounded : v ≤ n * n * 260100

-- r is q, where the numbers are such as a picture gives: a pixel moves by 255 at most
pub record Changed (n up down squares : ℕ) (rounds : Bool) (r : ℕ) : Type 0 where
  pub exact : 1 ≤ n → n ≤ 14101 → squares ≤ 65025 * n → r ≡ change_from rounds (spread_of n up down squares) n
  pub few : r ≤ 25500
