-- Words for a run of pictures that goes on.
use Rattle.std.specs.Prelude.{ℕ, ◌+◌, ◌-◌, ◌*◌, List, [], ◌∷◌, Bool, false, length, take, drop, leb}
use Rattle.rules.specs.Bytes.{pick}
use Rattle.rules.specs.Cuts.{at, least_of_six}
use Rattle.rules.specs.Changes.{change, same}

-- the last of some pictures, `before` if there is none
unfoldable pub last_from : List ℕ → List (List ℕ) → List ℕ
last_from before [] = before
last_from before (px ∷ pxs) = last_from px pxs

-- the picture before the next one: without pixels if there is none
unfoldable pub previous : List (List ℕ) → List ℕ
previous pxs = last_from [] pxs

-- q of the next picture, and whether it is repeated
unfoldable pub next_change : Bool → List (List ℕ) → List ℕ → ℕ
next_change rounds [] px = 0
next_change rounds (p ∷ pxs) px = change rounds (previous (p ∷ pxs)) px

unfoldable pub next_repeat : List (List ℕ) → List ℕ → Bool
next_repeat [] px = false
next_repeat (p ∷ pxs) px = same (previous (p ∷ pxs)) px

-- the cut score that the next picture settles, that of the picture two before it: from the histograms of all pictures
-- so far and of the next
unfoldable pub next_score : List (List (List ℕ)) → List (List ℕ) → ℕ
next_score hs x =
    pick (leb 4 (length hs))
    (least_of_six (at hs (length hs - 4)) (at hs (length hs - 3)) (at hs (length hs - 2)) (at hs (length hs - 1)) x) 0

-- the number whose binary digits these are, the lowest first
unfoldable pub ones : List Bool → ℕ
ones [] = 0
ones (b ∷ bs) = pick b 1 0 + 2 * ones bs

-- word j of a map of bits: those from 64 × j on
unfoldable pub map_word : List Bool → ℕ → ℕ
map_word bs j = ones (take 64 (drop (64 * j) bs))
