-- Packets of frames that go on, and refusal 4.
use Prim.Native.Nat.{ℕ, ◌+◌, ◌<◌}
use native.Mathlib.Omega.{arith}
use mathlib.Core.Path.{◌≡◌, sym, ap, ◌∙◌}
use mathlib.Core.List.{List, [], ◌∷◌, ◌++◌, append_assoc}
use lib.ListN.{length, length-append}
use borrow.Author.Tests.{lt-ltb}
use Rattle.rules.specs.Bytes.{end_to_end}
use Rattle.rules.specs.Refusals.{fault}
use Rattle.rules.specs.Packets.{Packet, packets_of, packets}
use Rattle.rules.specs.Capture.{showing, too_long}

pub packets-append : (place : ℕ) (fs gs : List (List ℕ)) →
    packets place (fs ++ gs) ≡ packets place fs ++ packets (place + length (end_to_end fs)) gs
unfolding packets end_to_end
packets-append place [] gs = ap (λ (p : ℕ). packets p gs) (omega arith)
packets-append place (f ∷ fs) gs =
    ap (λ (r : List Packet). packets_of place f ++ r) (packets-append (place + length f) fs gs)
    ∙ sym (append_assoc (packets_of place f) (packets (place + length f) fs)
    (packets (place + length f + length (end_to_end fs)) gs))
    ∙ ap (λ (p : ℕ). packets_of place f ++ packets (place + length f) fs ++ packets p gs)
    (simp length-append (omega arith))

pub too_long_lem : (capture : List ℕ) → 268435456 < length capture → too_long capture ≡ fault 4 268435456
unfolding too_long showing
too_long_lem capture h = rw (lt-ltb 268435456 (length capture) h)
