-- Rows that are looked at one by one: what the rest of them still has to show.
use Prim.Native.Nat.{ℕ, suc, ◌+◌, ◌-◌, ◌*◌, ◌≤◌, ◌<◌}
use native.Mathlib.Omega.{arith}
use mathlib.Core.Path.{◌≡◌, sym, ap, ◌∙◌}
use mathlib.Core.Bool.{Bool, true, false, ◌&&◌}
use mathlib.Core.List.{List}
use lib.ListN.{length, take, drop, length-drop}
use lib.Seq.{take_all, drop-drop}
use lib.Dec.{eqb}
use Rattle.rules.specs.Bytes.{word32}
use Rattle.rules.specs.Reading.{allowed_unit, allowed_units, allowed_scene, allowed_scenes}

-- the part of a string from a place on
pub part : (at : ℕ) (r : List ℕ) → take (length r - at) (drop at r) ≡ drop at r
part at r = take_all (length r - at) (drop at r) (simp length-drop (omega arith))

next_row : (p j : ℕ) (r : List ℕ) → drop 32 (drop (p + 32 * j) r) ≡ drop (p + 32 * (j + 1)) r
next_row p j r =
    let e : p + 32 * (j + 1) ≡ p + 32 * j + 32 = omega arith in
    rw e (drop-drop 32 (p + 32 * j) r)

more_rows : (n j : ℕ) → j < n → n - j ≡ suc (n - (j + 1))
more_rows n j h = omega arith

module _ (known : Bool) (r : List ℕ) (n j : ℕ) (h : j < n) where
  -- units: row j, and the rows after it
  units-step : allowed_units known (n - j) (drop (64 + 32 * j) r) ≡
      (allowed_unit known (drop (64 + 32 * j) r) && allowed_units known (n - (j + 1)) (drop (64 + 32 * (j + 1)) r))
  unfolding allowed_units
  units-step = rw (more_rows n j h, next_row 64 j r)

  module _ (b : Bool) (all : Bool) (rest : all ≡ allowed_units known (n - j) (drop (64 + 32 * j) r))
      (e : b ≡ allowed_unit known (take (length r - (64 + 32 * j)) (drop (64 + 32 * j) r))) where
    pub units-more : b ≡ true → all ≡ allowed_units known (n - (j + 1)) (drop (64 + 32 * (j + 1)) r)
    units-more t =
        let y : allowed_unit known (drop (64 + 32 * j) r) ≡ true =
        sym (ap (allowed_unit known) (part (64 + 32 * j) r)) ∙ (sym e ∙ t) in
        rest ∙ (units-step ∙ rw y)

    pub units-stop : b ≡ false → false ≡ all
    units-stop f =
        let y : allowed_unit known (drop (64 + 32 * j) r) ≡ false =
        sym (ap (allowed_unit known) (part (64 + 32 * j) r)) ∙ (sym e ∙ f) in
        sym (rest ∙ (units-step ∙ rw y))

-- nothing is left
pub units-end : (known : Bool) (n j : ℕ) (all : Bool) (b : List ℕ) → n ≤ j → all ≡ allowed_units known (n - j) b →
    true ≡ all
unfolding allowed_units
units-end known n j all b h e = let z : n - j ≡ 0 = omega arith in sym (e ∙ rw z)

module _ (r : List ℕ) (p pictures n j from : ℕ) (h : j < n) where
  scenes-step : allowed_scenes pictures (n - j) from (drop (p + 32 * j) r) ≡
      (allowed_scene from (drop (p + 32 * j) r)
      && allowed_scenes pictures (n - (j + 1)) (from + word32 (drop (p + 32 * j) r) 4) (drop (p + 32 * (j + 1)) r))
  unfolding allowed_scenes
  scenes-step = rw (more_rows n j h, next_row p j r)

  module _ (b : Bool) (all : Bool) (rest : all ≡ allowed_scenes pictures (n - j) from (drop (p + 32 * j) r))
      (e : b ≡ allowed_scene from (take (length r - (p + 32 * j)) (drop (p + 32 * j) r))) where
    pub scenes-more : (w : ℕ) → w ≡ word32 (take (length r - (p + 32 * j)) (drop (p + 32 * j) r)) 4 → b ≡ true →
        all ≡ allowed_scenes pictures (n - (j + 1)) (from + w) (drop (p + 32 * (j + 1)) r)
    scenes-more w k t =
        let x : word32 (drop (p + 32 * j) r) 4 ≡ w =
        sym (k ∙ ap (λ (l : List ℕ). word32 l 4) (part (p + 32 * j) r)) in
        let y : allowed_scene from (drop (p + 32 * j) r) ≡ true =
        sym (ap (allowed_scene from) (part (p + 32 * j) r)) ∙ (sym e ∙ t) in
        rest ∙ (scenes-step ∙ rw (x, y))

    pub scenes-stop : b ≡ false → false ≡ all
    scenes-stop f =
        let y : allowed_scene from (drop (p + 32 * j) r) ≡ false =
        sym (ap (allowed_scene from) (part (p + 32 * j) r)) ∙ (sym e ∙ f) in
        sym (rest ∙ (scenes-step ∙ rw y))

pub scenes-end : (pictures n j from : ℕ) (all : Bool) (b : List ℕ) → n ≤ j →
    all ≡ allowed_scenes pictures (n - j) from b → eqb from pictures ≡ all
unfolding allowed_scenes
scenes-end pictures n j from all b h e = let z : n - j ≡ 0 = omega arith in sym (e ∙ rw z)
