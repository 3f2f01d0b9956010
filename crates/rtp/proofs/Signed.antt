-- The rule's places are document 02's, with `origin` added: none is cut off at 0.
use Prim.Native.Nat.{ℕ, ◌+◌, ◌-◌, ◌*◌, ◌≤◌, ◌<◌}
use native.Mathlib.Omega.{arith}
use mathlib.Core.Path.{◌≡◌, refl, sym, ap, ◌∙◌}
use mathlib.Core.Bool.{Bool, true, false}
use mathlib.Core.List.{List, [], ◌∷◌, map}
use lib.ListN.{length}
use lib.Dec.{ltb}
use lib.IntN.{ℤ, pos, neg_ℤ, ◌+ℤ◌, ◌-ℤ◌, +ℤ_assoc, +ℤ_comm, +ℤ-neg_ℤ_cancel, pos-+ℤ-pos}
use borrow.Author.Tests.{ltb-false}
use Rattle.rules.specs.Bytes.{pick}
use Rattle.rules.specs.Rtp.{wrapped, moved, origin, places_after, places, signed, signed_after, signed_places}
use Rattle.rules.specs.Rtp.{PlacesAreSigned}
use Rattle.rtp_order.proofs.Firsts.{moved-low}

-- ---- sums of whole numbers, in another order

swap : (a b y : ℤ) → (a +ℤ b) +ℤ y ≡ (a +ℤ y) +ℤ b
swap a b y = +ℤ_assoc a b y ∙ (ap (λ (z : ℤ). a +ℤ z) (+ℤ_comm b y) ∙ sym (+ℤ_assoc a y b))

swaps : (a b x y : ℤ) → ((a +ℤ b) +ℤ x) +ℤ y ≡ (a +ℤ y) +ℤ (b +ℤ x)
swaps a b x y = ap (λ (z : ℤ). z +ℤ y) (+ℤ_assoc a b x) ∙ swap a (b +ℤ x) y

-- ---- one step

up : (p d : ℕ) (o : ℤ) → pos (p + d) -ℤ o ≡ (pos p -ℤ o) +ℤ pos d
up p d o = ap (λ (z : ℤ). z -ℤ o) (sym (pos-+ℤ-pos p d)) ∙ swap (pos p) (pos d) (neg_ℤ o)

down : (p d n q : ℕ) (o : ℤ) → q + n ≡ p + d → pos q -ℤ o ≡ (pos p -ℤ o) +ℤ (pos d -ℤ pos n)
down p d n q o e =
    let sums : pos q +ℤ pos n ≡ pos p +ℤ pos d = pos-+ℤ-pos q n ∙ (ap pos e ∙ sym (pos-+ℤ-pos p d)) in
    let q-is : pos q ≡ (pos p +ℤ pos d) -ℤ pos n =
    sym (+ℤ-neg_ℤ_cancel (pos q) (pos n)) ∙ ap (λ (z : ℤ). z -ℤ pos n) sums in
    ap (λ (z : ℤ). z -ℤ o) q-is ∙ swaps (pos p) (pos d) (neg_ℤ (pos n)) (neg_ℤ o)

step : (p d : ℕ) (o : ℤ) → d < 65536 → 32768 ≤ p → pos (moved p d) -ℤ o ≡ (pos p -ℤ o) +ℤ signed d
step p d o h k = go (ltb d 32768) refl
  where
    go : (t : Bool) → ltb d 32768 ≡ t →
        pos (pick t (p + d) (p - (65536 - d))) -ℤ o ≡ (pos p -ℤ o) +ℤ pick t (pos d) (pos d -ℤ pos 65536)
    go true e = up p d o
    go false e = down p d 65536 (p - (65536 - d)) o (omega (arith, ltb-false d 32768 e))

-- ---- all rows

after : (o : ℤ) (p b : ℕ) (ss : List ℕ) → 32768 * length ss ≤ p →
    map (λ (x : ℕ). pos x -ℤ o) (places_after p b ss) ≡ signed_after (pos p -ℤ o) b ss
unfolding places_after signed_after
after o p b [] h = refl
after o p b (s ∷ ss) h =
    let d = wrapped s b in
    let e = step p d o (omega arith) (omega arith) in
    let more = after o (moved p d) s ss (moved-low p d (32768 * length ss) (omega arith) (omega arith)) in
    cc (e, more)

first : (n s : ℕ) → pos (n + s) -ℤ pos n ≡ pos s
first n s =
    ap (λ (z : ℤ). z -ℤ pos n) (sym (pos-+ℤ-pos n s) ∙ +ℤ_comm (pos n) (pos s)) ∙ +ℤ-neg_ℤ_cancel (pos s) (pos n)

pub places-signed : PlacesAreSigned
unfolding places signed_places
places-signed [] h = refl
places-signed (s ∷ ss) h = cc (first origin s, after (pos origin) (origin + s) s ss (omega arith))
