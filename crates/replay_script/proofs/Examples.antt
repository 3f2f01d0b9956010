-- A script that holds a call of each kind, and what it says.
use Prim.Native.Nat.{ℕ}
use mathlib.Core.Path.{◌≡◌, refl}
use mathlib.Core.List.{List, [], ◌∷◌}
use Rattle.rules.specs.Bytes.{word32}
use Rattle.rules.specs.Calls.{feed_capture, feed_luma, ask, seal, index, repeats}
use Rattle.replay_script.specs.Script.{word_at, opening_of, head_by, passage_by, calls_by, calls_of}

-- 320 × 240, d 40,000, PID 256, edition 1; then C of two bytes, S of three, I, R of 1 and 3, L of one, and a C whose
-- second byte is missing
example : List ℕ
example =
    64 ∷ 1 ∷ 0 ∷ 0 ∷ 240 ∷ 0 ∷ 0 ∷ 0 ∷ 64 ∷ 156 ∷ 0 ∷ 0 ∷ 0 ∷ 1 ∷ 0 ∷ 0 ∷ 1 ∷ 0 ∷ 0 ∷ 0
    ∷ 67 ∷ 2 ∷ 0 ∷ 0 ∷ 0 ∷ 71 ∷ 9
    ∷ 83 ∷ 3 ∷ 0 ∷ 0 ∷ 0
    ∷ 73
    ∷ 82 ∷ 1 ∷ 0 ∷ 0 ∷ 0 ∷ 3 ∷ 0 ∷ 0 ∷ 0
    ∷ 76 ∷ 1 ∷ 0 ∷ 0 ∷ 0 ∷ 200
    ∷ 67 ∷ 2 ∷ 0 ∷ 0 ∷ 0 ∷ 71 ∷ []

opens : opening_of example ≡ record { width = 320; height = 240; time = 40000; pid = 256; edition = 1 }
unfolding example word_at word32
opens = refl

calls : calls_of example ≡
    feed_capture (71 ∷ 9 ∷ []) ∷ ask (seal (0xA5 ∷ 0xA5 ∷ 0xA5 ∷ [])) ∷ ask index ∷ ask (repeats 1 3)
    ∷ feed_luma (200 ∷ []) ∷ []
unfolding example calls_of calls_by head_by passage_by word32
calls = refl
