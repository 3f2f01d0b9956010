-- An outcome of each kind, as bytes.
use mathlib.Core.Path.{◌≡◌, refl}
use mathlib.Core.List.{[], ◌∷◌}
use Rattle.std.specs.Prelude.{Ok}
use Rattle.rules.specs.Refusals.{refused}
use Rattle.rules.specs.Bytes.{bytes_of}
use Rattle.rules.specs.Calls.{fed, replied, sealed_into}
use Rattle.replay_outcomes.specs.Codes.{code, codes}

-- a feed of 258 bytes; a seal that is refused by 15 at 7, and behind it the buffer that was lent
outcomes : codes (fed (Ok 258) ∷ replied (sealed_into (refused 15 7) (0xA5 ∷ 0xA5 ∷ [])) ∷ []) ≡
    0 ∷ 2 ∷ 1 ∷ 0 ∷ 0 ∷ 0 ∷ 0 ∷ 0 ∷ 0 ∷ 0 ∷ 0 ∷ 0 ∷ 0 ∷ 0 ∷ 0 ∷ 0 ∷ 0
    ∷ 1 ∷ 15 ∷ 0 ∷ 0 ∷ 0 ∷ 0 ∷ 0 ∷ 0 ∷ 0 ∷ 7 ∷ 0 ∷ 0 ∷ 0 ∷ 0 ∷ 0 ∷ 0 ∷ 0 ∷ 0xA5 ∷ 0xA5 ∷ []
unfolding codes code bytes_of
outcomes = refl
