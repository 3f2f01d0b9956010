-- The sums of a picture's blocks: what a run of a row adds to them. A picture is rows of W bytes; the byte at place q
-- is in row q / W and column q % W.
use Rattle.std.specs.Prelude.{◌≡◌, ℕ, ◌+◌, ◌*◌, ◌/◌, ◌%◌, ◌^◌, ◌<◌, ◌≤◌, List, length, take, drop, ◌==◌, slice_index}
use Rattle.std.specs.Prelude.{sum_by}
use Rattle.rules.specs.Bytes.{pick, tally}

-- what the byte b at column x gives to block column c, where a block is n columns wide
abbrev pub in_column : ℕ → ℕ → ℕ → ℕ → ℕ
in_column n c x b = pick (x / n == c) b 0

-- m bytes from `at` on
abbrev pub run : List ℕ → ℕ → ℕ → List ℕ
run s at m = take m (drop at s)

-- The sums `after` are the sums `before` with the run t of a row added, whose first byte is at column x: each block
-- column c below w grows by those bytes of the run that lie in it, modulo 2 ^ 32, and nothing else changes
pub record Added (n w x : ℕ) (t before after : List ℕ) : Type 0 where
  pub size : length after ≡ length before
  pub grown : length before ≡ 240 → (c : ℕ) → c < w →
      slice_index after c % 2 ^ 32 ≡ (slice_index before c + tally (in_column n c) x t) % 2 ^ 32
  pub other : (c : ℕ) → w ≤ c → slice_index after c ≡ slice_index before c

-- what `add_run` asks: blocks of n columns, w of them; bytes of a row from column x on
pub record Laid (n w x : ℕ) (bytes : List ℕ) : Type 0 where
  pub some : 0 < n
  pub few : n ≤ 64
  pub room : w ≤ 240
  pub narrow : x + length bytes ≤ 65536

-- what `add_blocks` asks
pub record Edged (n w : ℕ) (bytes : List ℕ) : Type 0 where
  pub some : 0 < n
  pub few : n ≤ 64
  pub room : w ≤ 240
  pub narrow : length bytes ≤ 65536

-- what runs of m bytes, of s from each of some places on, give to block column c, where each begins at column x
abbrev pub given : (n x m : ℕ) (s : List ℕ) (c : ℕ) → List ℕ → ℕ
given n x m s c places = sum_by (λ at. tally (in_column n c) x (run s at m)) places

-- The sums `after` are the sums `before` with those runs added, modulo 2 ^ 32: as `Added` says it of one
pub record AddedAll (n w x m : ℕ) (s places before after : List ℕ) : Type 0 where
  pub size : length after ≡ length before
  pub grown : length before ≡ 240 → (c : ℕ) → c < w →
      slice_index after c % 2 ^ 32 ≡ (slice_index before c + given n x m s c places) % 2 ^ 32
  pub other : (c : ℕ) → w ≤ c → slice_index after c ≡ slice_index before c

-- k whole blocks of n bytes of each of some rows, of s from the places on, at block column c
abbrev pub Blocks : ℕ → ℕ → ℕ → List ℕ → List ℕ → List ℕ → List ℕ → Type 0
Blocks n c k s places before after =
    (w : ℕ) → c + k ≤ w → w ≤ 240 → AddedAll n w (c * n) (k * n) s places before after

-- what `blocks` asks
pub record Lined (n c k : ℕ) (s places : List ℕ) : Type 0 where
  pub some : 0 < n
  pub few : n ≤ 64
  pub room : c + k ≤ 240
  pub inside : (r : ℕ) → r < length places → slice_index places r + k * n ≤ length s

-- bytes within block column c, wherever they stand in it and however wide it is
abbrev pub Part : ℕ → ℕ → List ℕ → List ℕ → List ℕ → Type 0
Part w c bytes before after =
    (n q : ℕ) → 0 < n → c * n ≤ q → (c < w → q + length bytes ≤ c * n + n) → Added n w q bytes before after
