-- The code's zero, lengths that are not refused, and a whole call.
use Prim.Native.Nat.{ℕ, ◌≤◌}
use mathlib.Core.Path.{◌≡◌, refl}
use mathlib.Core.List.{List}
use mathlib.Core.Bool.{true, ◌&&◌}
use lib.ListN.{length, replicate}
use lib.Dec.{eqb}
use lib.Ieee.{Float, binary64, of_bits, of_int}
use borrow.Author.Tests.{eqb-true}
use Rattle.rules.specs.Bytes.{within}
use Rattle.std.specs.Prelude.{Ok}
use Rattle.rules.proofs.Laws.Lists.{inside, both as ands}
use Rattle.rules.specs.EffectiveLoss.{zero64, Lists, both, unit_losses}
use Rattle.rules.specs.EffectiveLoss.{are_probabilities, effective_loss, good_lengths, loss_fault, loss_answer}
use Rattle.rules.specs.EffectiveLoss.{filled}

pub zero_is : of_bits binary64 0 ≡ zero64
unfolding of_bits of_int
zero_is = refl

-- ---- a whole call

-- lengths that are not refused
pub lengths-are : (n a b c d : ℕ) → good_lengths n a b c d ≡ true → (a ≡ n) × (b ≡ n) × (c ≡ n) × (d ≡ n) × (n ≤ 750)
unfolding good_lengths
lengths-are n a b c d h =
    let x = ands (within 1 750 n && eqb a n && eqb b n && eqb c n) (eqb d n) h in
    let y = ands (within 1 750 n && eqb a n && eqb b n) (eqb c n) x.0 in
    let z = ands (within 1 750 n && eqb a n) (eqb b n) y.0 in
    let w = ands (within 1 750 n) (eqb a n) z.0 in
    (eqb-true a n w.1, eqb-true b n z.1, eqb-true c n y.1, eqb-true d n x.1, (inside 1 750 n w.0).1)

module _ (n : ℕ) (ns : List ℕ) (ps : List Float) (before : Lists)
    (good : good_lengths n (length ns) (length ps) (length before.key_frame) (length before.plain) ≡ true)
    (probable : are_probabilities ps ≡ true) where
  pub done-answer : Ok n ≡ loss_answer n ns ps before
  unfolding loss_answer loss_fault
  done-answer = rw (good, probable)

  pub done-lists : (after : Lists) (k q : List Float) → after ≡ unit_losses 0 ns ps (both k q) →
      k ≡ replicate (length before.key_frame) zero64 → q ≡ replicate (length before.plain) zero64 →
      after ≡ filled n ns ps before
  unfolding filled loss_fault effective_loss
  done-lists after k q e x y =
      let long = lengths-are n (length ns) (length ps) (length before.key_frame) (length before.plain) good in
      rw (good, probable, e, x, y, long.2, long.3)
