-- `sizes_of` meets its contract: the level is 5 at most, so the shift loses nothing.
use Rattle.std.proofs.Common.{◌≡◌, ℕ, ◌*◌, ◌%◌, ◌^◌, ◌≤◌, ap, ◌∙◌, arith}
use native.Mathlib.Nat.{mul-le-mul}
use lib.Pow.{pow_pos, pow_mono}
use mir.Facts.{Fits-le, Fits-lit}
use Rattle.rules.specs.Opening.{level_up_to, level, side}
use Rattle.figures.proofs.Products.{product}
use Rattle.figures.proofs.SizeLaws.{level-most, shifted, sizes-are}
use Rattle.figures.proofs.opening.sizes_of.Goals as goal

-- a level that was found is 5 at most
small : (h k : ℕ) → k ≡ level_up_to 5 h → k ≤ 5
small h k e = rw e (level-most 5 h)

shift : (h k : ℕ) → k ≡ level_up_to 5 h → 1 * 2 ^ k % 2 ^ 64 ≡ 2 ^ k
shift h k e = shifted k (small h k e)

most : (h k : ℕ) → k ≡ level_up_to 5 h → 2 ^ k ≤ 32
most h k e = pow_mono (small h k e)

pub overflow_shl-side : goal.overflow_shl-side
overflow_shl-side c = omega (arith, small c.args.o.height c.level-level.result c.level-level.ensures)

pub overflow_mul-result : goal.overflow_mul-result
overflow_mul-result c =
    let e = c.level-level.ensures in
    let m = most c.args.o.height c.level-level.result e in
    simp (shift c.args.o.height c.level-level.result e) (Fits-le (mul-le-mul m m) (Fits-lit tt))

pub nonzero_div-result : goal.nonzero_div-result
nonzero_div-result c =
    simp (shift c.args.o.height c.level-level.result c.level-level.ensures) (pow_pos c.level-level.result)

pub nonzero_div-result-2 : goal.nonzero_div-result-2
nonzero_div-result-2 c =
    simp (shift c.args.o.height c.level-level.result c.level-level.ensures) (pow_pos c.level-level.result)

pub overflow_mul-result-2 : goal.overflow_mul-result-2
overflow_mul-result-2 c = product (omega arith) (omega arith)

pub returns : goal.returns
unfolding level side
returns c =
    sizes-are c.args.o c.level-level.result (1 * 2 ^ c.level-level.result % 2 ^ 64)
    c.level-level.ensures
    (shift c.args.o.height c.level-level.result c.level-level.ensures ∙ ap (λ (k : ℕ). 2 ^ k) c.level-level.ensures)
