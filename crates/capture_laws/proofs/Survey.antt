-- The survey's identifier: one of 0 to 8191, none has more, every lower one has fewer; and no other is so.
use Prim.Native.Nat.{ℕ, zero, suc, ◌+◌, ◌≤◌, ◌<◌}
use native.Mathlib.Omega.{arith}
use native.Mathlib.Decide.{dec_le}
use native.Mathlib.Numerals.{add-one}
use mathlib.Core.Path.{◌≡◌, refl, sym, ap, ◌∙◌}
use mathlib.Core.Bool.{Bool, true, false}
use mathlib.Core.List.{List}
use lib.Dec.{ltb, eqb}
use borrow.Author.Tests.{ltb-true, ltb-false, eqb-false}
use Rattle.rules.proofs.Laws.Lists.{by-test}
use Rattle.std.specs.Prelude.{Ok}
use Rattle.rules.specs.declared.Most.{Most}
use Rattle.rules.specs.Refusals.{refused, Answer, answer, Fault, none, fault, ◌or_else◌}
use Rattle.rules.specs.Bytes.{pick}
use Rattle.rules.specs.Capture.{format_fault}
use Rattle.rules.specs.Seal.{capture_unfinished}
use Rattle.rules.specs.Survey.{good_packets, identifiers, with_most, HasMost, no_good, survey_fault}
use Rattle.rules.specs.Survey.{survey_answer, MostIn}

-- ---- one identifier more

pub most-none : (f : ℕ → ℕ) → HasMost f 0 0
most-none f = record { below = omega arith; most = λ j h. absurd (omega arith); lowest = λ j h. absurd (omega arith) }

pub most-new : (f : ℕ → ℕ) (n id : ℕ) → n < identifiers → HasMost f n id → f id < f n → HasMost f (n + 1) n
most-new f n id small m h =
    record {
      below = small;
      most = λ j l. go j l (dec_le n j);
      lowest = λ j l. let a = m.most j l in omega arith;
    }
  where
    go : (j : ℕ) → j < n + 1 → Dec (n ≤ j) → f j ≤ f n
    go j l (yes p) = let e : j ≡ n = omega arith in let x : f j ≡ f n = ap f e in omega arith
    go j l (no p) = let a = m.most j (omega arith) in omega arith

pub most-old : (f : ℕ → ℕ) (n id : ℕ) → HasMost f n id → f n ≤ f id → HasMost f (n + 1) id
most-old f n id m h =
    record { below = m.below; most = λ j l. go j l (dec_le n j); lowest = m.lowest }
  where
    go : (j : ℕ) → j < n + 1 → Dec (n ≤ j) → f j ≤ f id
    go j l (yes p) = let e : j ≡ n = omega arith in let x : f j ≡ f n = ap f e in omega arith
    go j l (no p) = m.most j (omega arith)

-- ---- the rule's identifier has most

pub with-most : (f : ℕ → ℕ) (n : ℕ) → n ≤ identifiers → HasMost f n (with_most f n)
unfolding with_most
with-most f zero h = most-none f
with-most f (suc n) h =
    let m = with-most f n (omega arith) in
    by-test (λ (b : Bool). HasMost f (suc n) (pick b n (with_most f n))) (ltb (f (with_most f n)) (f n))
    (λ e. rw (add-one n) at (most-new f n (with_most f n) (omega arith) m (ltb-true (f (with_most f n)) (f n) e)))
    (λ e. rw (add-one n) at (most-old f n (with_most f n) m (ltb-false (f (with_most f n)) (f n) e)))

-- ---- and no other has

pub one-most : (f : ℕ → ℕ) (a b : ℕ) → HasMost f identifiers a → HasMost f identifiers b → a ≡ b
one-most f a b p q = go (dec_le a b) (dec_le b a)
  where
    go : Dec (a ≤ b) → Dec (b ≤ a) → a ≡ b
    go (yes x) (yes y) = omega arith
    go (yes x) (no y) = absurd (let l = q.lowest a (omega arith) in let m = p.most b q.below in omega arith)
    go (no x) d = absurd (let l = p.lowest b (omega arith) in let m = q.most a p.below in omega arith)

pub with-most-is : (f : ℕ → ℕ) (id : ℕ) → HasMost f identifiers id → id ≡ with_most f identifiers
with-most-is f id m = one-most f id (with_most f identifiers) m (with-most f identifiers (omega arith))

-- counts that are alike
pub most-alike : (f g : ℕ → ℕ) (id : ℕ) → ((j : ℕ) → j < identifiers → f j ≡ g j) → HasMost f identifiers id →
    HasMost g identifiers id
most-alike f g id e m =
    record {
      below = m.below;
      most = λ j h. let a = m.most j h in let x = e j h in let y = e id m.below in omega arith;
      lowest = λ j h.
          let b = m.below in
          let a = m.lowest j h in
          let x = e j (omega arith) in
          let y = e id m.below in
          omega arith;
    }

-- ---- an identifier that a survey answers

ok-same : {X : Type 0} {x y : X} → ◌≡◌ {A = Answer X} (Ok x) (Ok y) → x ≡ y
ok-same e = cc

refused-most : {k p : ℕ} {m : Most} → refused k p ≡ Ok m → ⊥
refused-most e = let z : ◌≡◌ {A = ℕ} 0 1 = cc in omega arith

most-same : {m o : Most} → ◌≡◌ {A = Answer Most} (Ok m) (Ok o) → (m.identifier ≡ o.identifier) × (m.count ≡ o.count)
most-same e = let m = ok-same e in (ap (λ (o : Most). o.identifier) m, ap (λ (o : Most). o.count) m)

pub most-found : (capture : List ℕ) (m : Most) → survey_answer capture ≡ Ok m → MostIn capture m.identifier m.count
unfolding survey_answer survey_fault no_good
most-found capture m = go (format_fault capture) (capture_unfinished capture) (eqb (f best) 0) refl
  where
    f : ℕ → ℕ
    f = good_packets capture

    best : ℕ
    best = with_most f identifiers

    found : Most
    found = record { identifier = best; count = f best }

    go : (x y : Fault) (b : Bool) → eqb (f best) 0 ≡ b →
        answer (x or_else y or_else pick b (fault 21 0) none) found ≡ Ok m →
        MostIn capture m.identifier m.count
    go none none false e a =
        let i = (most-same a).0 in
        let c = (most-same a).1 in
        let z = eqb-false (f best) 0 e in
        record {
          counted = sym c ∙ ap f i;
          some = omega arith;
          first = rw (← i) (with-most f identifiers (omega arith));
        }
    go none none true e a = absurd (refused-most a)
    go none (fault k p) b e a = absurd (refused-most a)
    go (fault k p) y b e a = absurd (refused-most a)
