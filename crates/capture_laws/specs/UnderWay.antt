-- Words for a frame that is under way, which contracts of the capture's reader and walk cite.
use Rattle.std.specs.Prelude.{ℕ, ◌+◌, ◌-◌, ◌*◌, ◌/◌, ◌≤◌, ◌≡◌, List, length, drop}
use Rattle.rules.specs.Bytes.{pick}
use Rattle.rules.specs.Frames.{microseconds, stored_length}
use Rattle.rules.specs.Packets.{udp_length, carries}

-- how many packets a frame has: none, if it does not carry
unfoldable pub count_of : List ℕ → ℕ
count_of f = pick (carries f) ((udp_length f - 8) / 188) 0

-- of the bytes r of a frame: k of its packets are behind, m are not, of which the first may be there in part
pub record Split (r : List ℕ) (k m : ℕ) : Type 0 where
  pub there : 58 ≤ length r
  pub count : k + m ≡ count_of r
  pub past : 58 + 188 * k ≤ length r

-- the bytes of the packet under way
abbrev pub current : List ℕ → ℕ → List ℕ
current r k = drop (58 + 188 * k) r

-- what is there of a frame's header shows no refusal
pub record Fine (r : List ℕ) : Type 0 where
  pub time : 8 ≤ length r → microseconds r ≤ 999999
  pub size : 12 ≤ length r → stored_length r ≤ 65535
