-- What each function promises of the luma words w.
use Rattle.std.specs.Prelude.{ℕ, ◌-◌, ◌^◌, ◌≤◌, ◌<◌, ◌≡◌, List, Bool, length}
use Rattle.rules.specs.declared.SceneRow.{SceneRow}
use Rattle.rules.specs.Bytes.{count}
use Rattle.rules.specs.Scenes.{span, is_true, longest_from, scene_of, scenes_of}
use Rattle.luma_scenes.specs.Words.{Bits, Holds}
use Rattle.luma_scenes.specs.Next.{next_start}

-- the start behind the start b: above b, n at most, and the rule's where the words hold n pictures
pub record NextPost (w : List ℕ) (n d b r : ℕ) : Type 0 where
  pub most : r ≤ n
  pub more : b < n → b < r
  pub next : (ss : List ℕ) (rs : List Bool) (qs : List ℕ) → Holds w n ss rs qs → d < 2 ^ 32 → b < n →
      r ≡ next_start d ss b

-- the scene from picture i to before picture j
abbrev pub RowPost : List ℕ → ℕ → ℕ → SceneRow → Type 0
RowPost w i j r = (n : ℕ) (ss : List ℕ) (rs : List Bool) (qs : List ℕ) → Holds w n ss rs qs → i < j → j ≤ n →
    r ≡ scene_of ss rs qs i j

-- how many scenes there are: no more than pictures
pub record CountPost (w : List ℕ) (n d r : ℕ) : Type 0 where
  pub most : r ≤ n
  pub scenes : (ss : List ℕ) (rs : List Bool) (qs : List ℕ) → Holds w n ss rs qs → d < 2 ^ 32 →
      r ≡ length (scenes_of d ss rs qs)

-- ---- of the functions within

pub record RepeatedPost (w : List ℕ) (i j r : ℕ) : Type 0 where
  pub most : r ≤ j - i
  pub repeated : (n : ℕ) (rs : List Bool) → Bits w n rs → i ≤ j → j ≤ n → r ≡ count is_true (span i j rs)

abbrev pub LongestPost : List ℕ → ℕ → ℕ → ℕ → Type 0
LongestPost w i j r = (n : ℕ) (rs : List Bool) → Bits w n rs → i ≤ j → j ≤ n → r ≡ longest_from 0 (span i j rs)
