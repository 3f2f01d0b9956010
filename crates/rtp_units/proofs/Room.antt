-- What is answered of units, by the buffer's room.
use Prim.Native.Nat.{ℕ, ◌*◌, ◌≤◌, ◌<◌}
use native.Mathlib.Omega.{arith}
use mathlib.Core.Path.{◌≡◌, ◌∙◌}
use mathlib.Core.List.{List}
use lib.ListN.{length}
use borrow.Author.Tests.{lt-ltb, le-ltb}
use Rattle.rules.specs.declared.UnitRow.{UnitRow}
use Rattle.std.specs.Prelude.{Ok}
use Rattle.rules.specs.Refusals.{refused}
use Rattle.rules.specs.Seal.{no_room, over}
use Rattle.rtp_units.specs.Units.{rows_bytes, Told}

module _ (us : List UnitRow) (buffer : List ℕ) (n : ℕ) (is-n : n ≡ length us) where
  pub too_short : length buffer < 32 * n → Told us buffer (refused 15 (32 * n)) buffer
  unfolding no_room
  too_short h =
      let e = lt-ltb (length buffer) (32 * length us) (omega arith) in
      record { told = rw (e, is-n); left = rw e }

  pub long-enough : 32 * n ≤ length buffer → (after : List ℕ) → after ≡ over (rows_bytes us) buffer →
      Told us buffer (Ok n) after
  unfolding no_room
  long-enough h after k =
      let e = le-ltb (length buffer) (32 * length us) (omega arith) in
      record { told = rw (e, is-n); left = k ∙ rw e }
