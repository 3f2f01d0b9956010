-- What the words hold, read word by word.
use Prim.Native.Nat.{ℕ, ◌+◌, ◌%◌, ◌^◌, ◌<◌}
use native.Mathlib.Omega.{arith}
use mathlib.Core.Path.{◌≡◌, refl}
use mathlib.Core.List.{List}
use mathlib.Core.Bool.{Bool, true, false}
use lib.ListN.{get_or}
use Rattle.rules.specs.Bytes.{pick}
use Rattle.luma_scenes.specs.Words.{Column, Bits, bit_at}

pub figure-is : {w : List ℕ} {base n most : ℕ} {xs : List ℕ} → Column w base n most xs → most < 2 ^ 32 → (k : ℕ) →
    k < n → get_or w (base + k) 0 % 2 ^ 32 ≡ get_or xs k 0
figure-is {w} {base} {n} {most} {xs} c h k g =
    let a = c.word k g in
    let b = c.bound k g in
    omega arith

pub bit-true : {w : List ℕ} {n : ℕ} {rs : List Bool} → Bits w n rs → (k : ℕ) → k < n → bit_at w k ≡ 1 →
    get_or rs k false ≡ true
bit-true {w} {n} {rs} c k g e = go (get_or rs k false) (c.bit k g)
  where
    go : (t : Bool) → bit_at w k ≡ pick t 1 0 → t ≡ true
    go true f = refl
    go false f = absurd (omega arith)

pub bit-false : {w : List ℕ} {n : ℕ} {rs : List Bool} → Bits w n rs → (k : ℕ) → k < n → (bit_at w k ≡ 1 → ⊥) →
    get_or rs k false ≡ false
bit-false {w} {n} {rs} c k g e = go (get_or rs k false) (c.bit k g)
  where
    go : (t : Bool) → bit_at w k ≡ pick t 1 0 → t ≡ false
    go true f = absurd (e f)
    go false f = refl
