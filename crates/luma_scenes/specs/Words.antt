-- What the luma words hold of n pictures: cut scores, changes, and the map of repeats.
use Rattle.std.specs.Prelude.{ℕ, ◌+◌, ◌/◌, ◌%◌, ◌^◌, ◌≤◌, ◌<◌, ◌≡◌, List, Bool, false, length, get_or}
use Rattle.rules.specs.Bytes.{pick}
use Rattle.luma_state.specs.Layout.{repeats_at, scores_at, changes_at}

-- the words from `base` on hold these n numbers, each at most `most`
pub record Column (w : List ℕ) (base n most : ℕ) (xs : List ℕ) : Type 0 where
  pub size : length xs ≡ n
  pub word : (i : ℕ) → i < n → get_or w (base + i) 0 ≡ get_or xs i 0
  pub bound : (i : ℕ) → i < n → get_or xs i 0 ≤ most

-- bit i % 64 of the map's word i / 64
unfoldable pub bit_at : List ℕ → ℕ → ℕ
bit_at w i = get_or w (repeats_at + i / 64) 0 / 2 ^ (i % 64) % 2

-- the map's bits say which of n pictures are repeated
pub record Bits (w : List ℕ) (n : ℕ) (rs : List Bool) : Type 0 where
  pub size : length rs ≡ n
  pub bit : (i : ℕ) → i < n → bit_at w i ≡ pick (get_or rs i false) 1 0

-- the cut scores, repeats and changes of n pictures
pub record Holds (w : List ℕ) (n : ℕ) (ss : List ℕ) (rs : List Bool) (qs : List ℕ) : Type 0 where
  pub few : n ≤ 750
  pub scores : Column w scores_at n 1000000 ss
  pub repeats : Bits w n rs
  pub changes : Column w changes_at n 25500 qs
