-- Whether a record is allowed, test by test.
use Prim.Native.Nat.{ℕ, ◌+◌, ◌*◌, ◌≤◌}
use mathlib.Core.Path.{◌≡◌, sym, ap, ◌∙◌}
use mathlib.Core.Bool.{Bool, true, false}
use mathlib.Core.List.{List}
use lib.ListN.{length, drop}
use Rattle.rules.specs.Bytes.{word32}
use Rattle.rules.specs.Record.{record_length, scene_offset}
use Rattle.rules.specs.Editions.{knows_damage}
use Rattle.rules.specs.Reading.{allowed_header, allowed_units, allowed_scenes, allowed_rows, allowed}
use Rattle.record_laws.proofs.Allowed.{header-allowed}

module _ (r : List ℕ) where
  pub no_header : (b : Bool) → b ≡ allowed_header (length r) r → b ≡ false → false ≡ allowed r
  unfolding allowed
  no_header b e f = rw (← e, f)

  module _ (b : Bool) (e : b ≡ allowed_header (length r) r) (t : b ≡ true) where
    pub long : (length r ≡ 64 + 32 * (word32 r 8 + word32 r 16)) × (word32 r 16 ≤ 250)
    unfolding record_length
    long = let h = header-allowed (length r) r (sym e ∙ t) in (sym h.length ∙ h.whole, h.scenes_less)

    module _ (u s n e₀ : ℕ) (k : Bool) (is-u : u ≡ word32 r 8) (is-s : s ≡ word32 r 16) (is-n : n ≡ word32 r 40)
        (is-e : e₀ ≡ word32 r 0) (is-k : k ≡ knows_damage e₀) where
      known : k ≡ knows_damage (word32 r 0)
      known = is-k ∙ ap knows_damage is-e

      pub no-units : (d : Bool) → d ≡ allowed_units k u (drop 64 r) → d ≡ false → false ≡ allowed r
      unfolding allowed allowed_rows
      no-units d g f =
          let x : allowed_units (knows_damage (word32 r 0)) (word32 r 8) (drop 64 r) ≡ false =
          rw (← known, ← is-u, ← g) f in
          rw (← e, t, x)

      pub all-rows : (d o : Bool) → d ≡ allowed_units k u (drop 64 r) → d ≡ true →
          o ≡ allowed_scenes n s 0 (drop (64 + 32 * u) r) → o ≡ allowed r
      unfolding allowed allowed_rows scene_offset
      all-rows d o g f m =
          let x : allowed_units (knows_damage (word32 r 0)) (word32 r 8) (drop 64 r) ≡ true =
          rw (← known, ← is-u, ← g) f in
          rw (← e, t, x, ← is-u, ← is-s, ← is-n) m
