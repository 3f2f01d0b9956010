-- Refusals one after the other, and the one that is kept on a side.
use Prim.Native.Nat.{ℕ}
use mathlib.Core.Path.{◌≡◌, refl, sym}
use mathlib.Core.Bool.{Bool, true, false}
use lib.Dec.{eqb}
use borrow.Author.Tests.{eqb-true, eqb-false}
use Rattle.std.specs.Prelude.{Ok, Err}
use Rattle.rules.specs.declared.refusals.Refusal.{Refusal}
use Rattle.rules.specs.Refusals.{Fault, none, fault, ◌or_else◌, listed, answer, Answer, refused}
use Rattle.rules.specs.Bytes.{pick}
use Rattle.rules.proofs.Laws.Answers.{ok-err, err-same}
use Rattle.sample_questions.specs.WhileFeeding.{kept_as}

pub either : (a b c : Fault) → a or_else (b or_else c) ≡ (a or_else b) or_else c
either none b c = refl
either (fault k p) b c = refl

-- where `standing` refuses, the number is not 0, and what is passed on is that refusal
pub stands : {X : Type 0} (n p : ℕ) (d : Refusal) (r : Answer X) → r ≡ Err d →
    answer {X = Unit {0}} (kept_as n p) tt ≡ Err d → (r ≡ refused (listed n) p) × (n ≡ 0 → ⊥)
stands {X = X} n p d r e h = go (eqb n 0) refl h
  where
    go : (b : Bool) → eqb n 0 ≡ b → answer {X = Unit {0}} (pick b none (fault (listed n) p)) tt ≡ Err d →
        (r ≡ refused (listed n) p) × (n ≡ 0 → ⊥)
    go true z h = absurd (ok-err h)
    go false z h = (rw (err-same h) e, eqb-false n 0 z)

pub none-stands : (n p : ℕ) → answer {X = Unit {0}} (kept_as n p) tt ≡ Ok tt → n ≡ 0
none-stands n p h = go (eqb n 0) refl h
  where
    go : (b : Bool) → eqb n 0 ≡ b → answer {X = Unit {0}} (pick b none (fault (listed n) p)) tt ≡ Ok tt → n ≡ 0
    go true z h = eqb-true n 0 z
    go false z h = absurd (ok-err (sym h))
