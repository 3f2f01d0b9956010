-- The scenes one by one: the start that follows a start, and the scenes from a start on.
use Rattle.std.specs.Prelude.{ℕ, zero, suc, ◌-◌, List, [], ◌∷◌, Bool, length, ltb}
use Rattle.rules.specs.declared.SceneRow.{SceneRow}
use Rattle.rules.specs.Bytes.{pick}
use Rattle.rules.specs.Scenes.{starts_from, scenes_at}

-- the starts behind the start b
unfoldable pub starts_after : ℕ → List ℕ → ℕ → List ℕ
starts_after d ss b = starts_from d ss (length ss - suc b) b (suc b)

-- the first of some starts, or n
abbrev pub first_or : ℕ → List ℕ → ℕ
first_or n [] = n
first_or n (i ∷ is) = i

-- the start that follows the start b, or the number of pictures
unfoldable pub next_start : ℕ → List ℕ → ℕ → ℕ
next_start d ss b = first_or (length ss) (starts_after d ss b)

-- the j-th start, from 0 on
unfoldable pub start_at : ℕ → List ℕ → ℕ → ℕ
start_at d ss zero = 0
start_at d ss (suc j) = next_start d ss (start_at d ss j)

-- the scenes from the start b on; none behind the last picture
unfoldable pub scenes_from : ℕ → List ℕ → List Bool → List ℕ → ℕ → List SceneRow
scenes_from d ss rs qs b = pick (ltb b (length ss)) (scenes_at ss rs qs (b ∷ starts_after d ss b)) []
