-- The product of two 32-bit numbers fits 64 bits.
use Prim.Native.Nat.{ℕ, ◌*◌, ◌<◌}
use native.Mathlib.Omega.{arith}
use native.Mathlib.Nat.{mul-le-mul}
use mir.Syntax.{w64}
use mir.Val.{Fits}
use mir.Facts.{Fits-le, Fits-lit}

pub product : {a b : ℕ} → a < 4294967296 → b < 4294967296 → Fits w64 (a * b)
product {a} {b} h k =
    Fits-le (mul-le-mul {n₂ = 4294967295} {m₂ = 4294967295} (omega arith) (omega arith)) (Fits-lit tt)
