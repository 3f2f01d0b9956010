-- Where the words hold what they know of the whole pictures. The places of the scalars stand in `State.loaded`.
use Rattle.std.specs.Prelude.{ℕ}

-- how many words there are
abbrev pub word_count : ℕ
word_count = 1600

-- the smaller of two differences that the next cut score needs again
abbrev pub kept_at : ℕ
kept_at = 17

-- the map of repeats, a bit a picture
abbrev pub repeats_at : ℕ
repeats_at = 64

-- the cut scores, a word a picture
abbrev pub scores_at : ℕ
scores_at = 100

-- the changes, a word a picture
abbrev pub changes_at : ℕ
changes_at = 850
