-- The busiest luma's bytes: how many there are, and those of one picture.
use Prim.Native.Nat.{ℕ, zero, suc, ◌+◌, ◌*◌, ◌≤◌, ◌<◌}
use native.Mathlib.Omega.{arith}
use native.Mathlib.Nat.{suc-mul}
use mathlib.Core.Path.{◌≡◌, sym, ap, ◌∙◌}
use mathlib.Core.List.{List, ◌++◌}
use lib.ListN.{length, take, drop, replicate, length-replicate, length-drop}
use lib.Seq.{drop_at, drop-append-le, drop-drop, take-append-le}
use Rattle.rules.specs.Bytes.{table, end_to_end, Bytes}
use Rattle.rules.specs.Busiest.{shade, busiest_luma}
use Rattle.luma_busiest.proofs.Laws.Flat.{joined_length, flat-bytes, joined_bytes, flat-part}
use Rattle.luma_busiest.proofs.Laws.Tones.{shade-small}

pub luma-length : (w h d n : ℕ) → length (busiest_luma w h d n) ≡ n * (w * h)
unfolding busiest_luma
luma-length w h d n =
    joined_length n 0 (w * h) (λ i. replicate (w * h) (shade d i)) (λ i. length-replicate (w * h) (shade d i))

pub luma_bytes : (w h d n : ℕ) → Bytes (busiest_luma w h d n)
unfolding busiest_luma
luma_bytes w h d n =
    joined_bytes n 0 (λ i. replicate (w * h) (shade d i)) (λ i. flat-bytes (w * h) (shade d i) (shade-small d i))

-- pictures of one value each, laid end to end: r bytes into picture i of them, k bytes that end within it
module _ (size : ℕ) (value : ℕ → ℕ) where
  abbrev joined : ℕ → ℕ → List ℕ
  joined n from = end_to_end (table n from (λ i. replicate size (value i)))

  own : (n from r k : ℕ) → 0 < n → r + k ≤ size → take k (drop r (joined n from)) ≡ replicate k (value from)
  unfolding end_to_end table
  own zero from r k some h = absurd (omega arith)
  own (suc n) from r k some h =
      let first = replicate size (value from) in
      let rest = joined n (suc from) in
      let long = length-replicate size (value from) in
      let cut : drop r (first ++ rest) ≡ drop r first ++ rest = drop-append-le r first rest (omega arith) in
      let enough : k ≤ length (drop r first) = omega (arith, length-drop r first) in
      rw (cut, take-append-le k (drop r first) rest enough) (flat-part r k size (value from) h)

  pub within : (i n from r k : ℕ) → i < n → r + k ≤ size →
      take k (drop (i * size + r) (joined n from)) ≡ replicate k (value (from + i))
  unfolding end_to_end table
  within zero n from r k h g =
      let here : 0 * size + r ≡ r = omega arith in
      let first : from + 0 ≡ from = omega arith in
      rw (here, first) (own n from r k (omega arith) g)
  within (suc i) zero from r k h g = absurd (omega arith)
  within (suc i) (suc n) from r k h g =
      let first = replicate size (value from) in
      let rest = joined n (suc from) in
      let far : suc i * size + r ≡ size + (i * size + r) = omega (arith, suc-mul i size) in
      let past : drop size (first ++ rest) ≡ rest = drop_at first rest size (length-replicate size (value from)) in
      let next : from + suc i ≡ suc from + i = omega arith in
      rw (far, next)
      (ap (take k) (sym (drop-drop (i * size + r) size (first ++ rest)) ∙ ap (drop (i * size + r)) past)
      ∙ within i n (suc from) r k (omega arith) g)
