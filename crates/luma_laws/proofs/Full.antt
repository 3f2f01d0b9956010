-- Once 750 pictures are there, whatever is fed behind them changes neither their number nor their pixels.
use Prim.Native.Nat.{ℕ, zero, suc, ◌*◌, ◌/◌, ◌≤◌, ◌<◌}
use native.Mathlib.Omega.{arith}
use native.Mathlib.Nat.{suc-mul, mul-pos, le-div_iff_mul-le}
use mathlib.Core.Path.{◌≡◌, refl, ap}
use mathlib.Core.List.{List, ◌∷◌, ◌++◌}
use lib.ListN.{length, take, drop, length-append, length-drop}
use lib.Seq.{take-append-le, drop-append-le}
use borrow.Author.Tests.{le-leb}
use Rattle.rules.specs.declared.Opening.{Opening}
use Rattle.rules.specs.Bytes.{parts}
use Rattle.rules.specs.Refusals.{none}
use Rattle.rules.specs.Opening.{opening_fault}
use Rattle.rules.specs.Pictures.{picture_size, picture_count, pictures}
use Rattle.rules.specs.Seal.{reduced}
use Rattle.luma_laws.proofs.Sizes.{good}

-- parts that are there stay
parts-kept : (n m : ℕ) (s t : List ℕ) → n * m ≤ length s → parts n m (s ++ t) ≡ parts n m s
unfolding parts
parts-kept zero m s t h = refl
parts-kept (suc n) m s t h =
    let k = suc-mul n m in
    rw (take-append-le m s t (omega arith), drop-append-le m s t (omega arith))
    (ap (λ (x : List (List ℕ)). take m s ∷ x) (parts-kept n m (drop m s) t (simp length-drop (omega arith))))

module _ (o : Opening) (opened : opening_fault o ≡ none) where
  pub size-some : 0 < picture_size o
  unfolding picture_size
  size-some =
      let g = good o opened in
      let w : 0 < o.width = omega (arith, g.width_low) in
      let h : 0 < o.height = omega (arith, g.height_low) in
      mul-pos w h

  pub full-count : (s : List ℕ) → 750 * picture_size o ≤ length s → picture_count o s ≡ 750
  unfolding picture_count
  full-count s h =
      let many : 750 ≤ length s / picture_size o = (le-div_iff_mul-le size-some).1 h in
      rw (opened, le-leb 750 (length s / picture_size o) many)

  module _ (s t : List ℕ) (full : 750 * picture_size o ≤ length s) where
    longer : 750 * picture_size o ≤ length (s ++ t)
    longer = simp length-append (omega arith)

    pub full-reduced : reduced o (s ++ t) ≡ reduced o s
    unfolding reduced pictures
    full-reduced = rw (full-count (s ++ t) longer, full-count s full, parts-kept 750 (picture_size o) s t full)
