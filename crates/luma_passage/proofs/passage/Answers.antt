-- `passage` meets its contract, by its two tests.
use Prim.Native.Nat.{ℕ, ◌≤◌, ◌<◌}
use native.Mathlib.Omega.{arith}
use mathlib.Core.Path.{◌≡◌, refl}
use mathlib.Core.Logic.{◌⊎◌, inl, inr}
use borrow.Author.Tests.{le-leb, lt-leb}
use Rattle.rules.specs.Refusals.{fault}
use Rattle.rules.specs.Passage.{passage_fault}
use Rattle.luma_passage.proofs.Answers.{refused_post, done-post}
use Rattle.luma_passage.proofs.passage.Goals as goal

turned : (n a b : ℕ) → (b < a) ⊎ ((a ≤ b) × (n < b)) → passage_fault n a b ≡ fault 26 0
unfolding passage_fault
turned n a b (inl h) = rw (lt-leb a b h)
turned n a b (inr h) = rw (le-leb a b h.0, lt-leb b n h.1)

pub returns-then-b-a : goal.returns-then-b-a
returns-then-b-a c =
    let a = c.args in
    refused_post _ _ _ _ _ refl (turned a.n a.a a.b c.then-b-a.either)

pub returns : goal.returns
unfolding passage_fault
returns c =
    let a = c.args in
    let counted = c.repeated_between.ensures in
    done-post _ _ _ _ _ _ refl counted.most
    (rw (le-leb a.a a.b (omega arith), le-leb a.b a.n (omega arith)))
    (λ rs m e. counted.repeated rs m (omega arith) (omega arith))
