-- `least_between` meets its contract: the quotient, rounded up, is the least number.
use Prim.Native.Nat.{ℕ, ◌+◌, ◌*◌, ◌/◌, ◌%◌, ◌≤◌, ◌<◌, min}
use native.Mathlib.Omega.{arith}
use native.Mathlib.Nat.{suc-mul, mul-le-mul_right}
use native.Mathlib.Decide.{dec_le}
use mathlib.Core.Path.{◌≡◌}
use Rattle.std.proofs.lemmas.Grind.{div_ceil_times}
use Rattle.rules.specs.Busiest.{least_between}
use Rattle.luma_laws.proofs.Least.{good-time, between_is}
use Rattle.luma_busiest.proofs.least_between.Goals as goal

rounded_up : (d : ℕ) → 10000 ≤ d → 600000 / d + min 1 (600000 % d) ≡ least_between d
rounded_up d h = go (dec_le q (least_between d))
  where
    q : ℕ
    q = 600000 / d + min 1 (600000 % d)

    bounds : (600000 ≤ q * d) × (q * d < 600000 + d)
    bounds = div_ceil_times 600000 d (omega arith)

    go : Dec (q ≤ least_between d) → q ≡ least_between d
    go (yes k) = omega (arith, (between_is d h).least q bounds.0)
    go (no k) =
        let more : (1 + least_between d) * d ≤ q * d = mul-le-mul_right d (omega arith) in
        absurd (omega (arith, (between_is d h).reaches, bounds.1, suc-mul (least_between d) d))

pub div_ceil-requires : goal.div_ceil-requires
div_ceil-requires c = omega (arith, (good-time c.args.time c.requires).0)

pub returns : goal.returns
returns c = rw c.div_ceil.ensures (rounded_up c.args.time (good-time c.args.time c.requires).0)
