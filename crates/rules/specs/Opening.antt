-- Opening: refusals 1 to 3 and 20, the level k and the reduced size w by h.
use Rattle.std.specs.Prelude.{ℕ, zero, suc, ◌*◌, ◌/◌, ◌^◌, Bool, ◌&&◌, leb}
use Rattle.rules.specs.declared.Opening.{Opening}
use Rattle.rules.specs.Refusals.{Answer, Fault, unless, ◌or_else◌, answer}
use Rattle.rules.specs.Bytes.{pick, within}
use Rattle.rules.specs.Editions.{is_edition}

-- not refused by 1, by 2, by 3
unfoldable pub good_size : ℕ → ℕ → Bool
good_size w h = within 30 1088 h && within 15 1920 w && leb h (2 * w) && leb w (4 * h)

unfoldable pub good_time : ℕ → Bool
good_time d = within 10000 200000 d

unfoldable pub good_pid : ℕ → Bool
good_pid p = leb p 8191

-- the opening's refusal: 1, 2, 3 and 20 (document 02, R-2) are tried in this order
unfoldable pub opening_fault : Opening → Fault
opening_fault o =
    unless (good_size o.width o.height) 1
    or_else unless (good_time o.time) 2
    or_else unless (good_pid o.pid) 3
    or_else unless (is_edition o.edition) 20

-- what an opening answers
unfoldable pub open_answer : Opening → Answer ℕ
open_answer o = answer (opening_fault o) 0

-- the greatest k up to n with H / 2^k at least 30
unfoldable pub level_up_to : ℕ → ℕ → ℕ
level_up_to zero h = 0
level_up_to (suc n) h = pick (leb 30 (h / 2 ^ suc n)) (suc n) (level_up_to n h)

-- level k: the greatest with H / 2^k at least 30. As an opening that is not refused has H
-- at most 1088, it is at most 5
unfoldable pub level : Opening → ℕ
level o = level_up_to 5 o.height

-- the side 2^k of a block, and its 4^k bytes
unfoldable pub side : Opening → ℕ
side o = 2 ^ level o

unfoldable pub area : Opening → ℕ
area o = 4 ^ level o

-- w: the reduced width, in pixels
unfoldable pub columns : Opening → ℕ
columns o = o.width / side o

-- h: the reduced height, in lines of pixels
unfoldable pub lines : Opening → ℕ
lines o = o.height / side o

-- w × h
unfoldable pub pixel_count : Opening → ℕ
pixel_count o = columns o * lines o
