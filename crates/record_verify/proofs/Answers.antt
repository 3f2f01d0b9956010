-- The first mark that fails, of marks in a row, and the greatest number of scenes.
use Prim.Native.Nat.{ℕ, ◌≤◌}
use native.Mathlib.Omega.{arith}
use mathlib.Core.Path.{◌≡◌, refl, sym, ap, ◌∙◌}
use mathlib.Core.Bool.{Bool, true, false}
use mathlib.Core.List.{List, [], ◌∷◌, ◌++◌, append_assoc}
use lib.Dec.{eqb}
use mir.Val.{bool_byte}
use borrow.Author.Tests.{le-leb, ne_eqb}
use Rattle.std.specs.Prelude.{Ok, Err, IsErrAnd}
use Rattle.rules.specs.Bytes.{pick}
use Rattle.rules.specs.Opening.{good_time}
use Rattle.rules.specs.Seal.{no_picture}
use Rattle.rules.specs.Busiest.{most_scenes, most_fault, most_answer}
use Rattle.record_verify.specs.declared.Failing.{Failing}
use Rattle.record_verify.specs.Marks.{Check, Found, failing, in_first, first_failing}

-- ---- marks in a row

passed-on : (r : Found) (d : Failing) → IsErrAnd r (λ (e : Failing). e ≡ d) → r ≡ Err d
passed-on (Ok x) d h = absurd h
passed-on (Err e) d h = ap (λ (f : Failing). Err f) h

ok-err : {d : Failing} → ◌≡◌ {A = Found} (Ok tt) (Err d) → ⊥
ok-err h = let z : ◌≡◌ {A = ℕ} 0 1 = cc in omega arith

pub none-fails : Ok tt ≡ first_failing []
unfolding first_failing
none-fails = refl

-- a check that holds leaves what is found to those after it, and one that fails is what is found
past : (b : Bool) (k l m : Found) (f : Failing) → (k ≡ Ok tt → l ≡ m) → pick b k (Err f) ≡ Ok tt →
    pick b l (Err f) ≡ m
past true k l m f h e = h e
past false k l m f h e = absurd (ok-err (sym e))

stop : (b : Bool) (k l : Found) (f d : Failing) → (k ≡ Err d → l ≡ Err d) → pick b k (Err f) ≡ Err d →
    pick b l (Err f) ≡ Err d
stop true k l f d h e = h e
stop false k l f d h e = e

-- some that were asked, and others after them
hold : (xs ys : List Check) → first_failing xs ≡ Ok tt → first_failing (xs ++ ys) ≡ first_failing ys
unfolding first_failing
hold [] ys e = refl
hold (c ∷ cs) ys e =
    past c.holds (first_failing cs) (first_failing (cs ++ ys)) (first_failing ys) (failing c) (hold cs ys) e

fail : (xs ys : List Check) (d : Failing) → first_failing xs ≡ Err d → first_failing (xs ++ ys) ≡ Err d
unfolding first_failing
fail [] ys d e = absurd (ok-err e)
fail (c ∷ cs) ys d e =
    stop c.holds (first_failing cs) (first_failing (cs ++ ys)) (failing c) d (fail cs ys d) e

-- of what asking them said: it is passed on where one fails, and else the others are asked
module _ (xs ys : List Check) {x : Found} (x-is : x ≡ first_failing xs) where
  pub these-hold : x ≡ Ok tt → {r : Found} → r ≡ first_failing ys → r ≡ first_failing (xs ++ ys)
  these-hold e r-is = r-is ∙ sym (hold xs ys (sym x-is ∙ e))

  pub these-fail : (d : Failing) → x ≡ Err d → (r : Found) → IsErrAnd r (λ (f : Failing). f ≡ d) →
      r ≡ first_failing (xs ++ ys)
  these-fail d e r passed = passed-on r d passed ∙ sym (fail xs ys d (sym x-is ∙ e))

module _ (c : Check) (cs : List Check) {x : Found} (x-is : x ≡ first_failing (c ∷ [])) where
  pub this-holds : x ≡ Ok tt → {r : Found} → r ≡ first_failing cs → r ≡ first_failing (c ∷ cs)
  this-holds = these-hold (c ∷ []) cs x-is

  pub this-fails : (d : Failing) → x ≡ Err d → (r : Found) → IsErrAnd r (λ (f : Failing). f ≡ d) →
      r ≡ first_failing (c ∷ cs)
  this-fails = these-fail (c ∷ []) cs x-is

-- four parts, one after the other
module _ (a b c d : List Check) {r : Found} where
  regroup : r ≡ first_failing (a ++ (b ++ (c ++ d))) → r ≡ first_failing (a ++ b ++ c ++ d)
  regroup e = e ∙ sym (ap first_failing (append_assoc (a ++ b) c d ∙ append_assoc a b (c ++ d)))

  module _ {x : Found} (x-is : x ≡ first_failing a) where
    pub first-fails : (f : Failing) → x ≡ Err f → IsErrAnd r (λ (g : Failing). g ≡ f) →
        r ≡ first_failing (a ++ b ++ c ++ d)
    first-fails f e p = regroup (these-fail a (b ++ (c ++ d)) x-is f e r p)

    module _ (x-holds : x ≡ Ok tt) {y : Found} (y-is : y ≡ first_failing b) where
      past-first : r ≡ first_failing (b ++ (c ++ d)) → r ≡ first_failing (a ++ b ++ c ++ d)
      past-first e = regroup (these-hold a (b ++ (c ++ d)) x-is x-holds e)

      pub second-fails : (f : Failing) → y ≡ Err f → IsErrAnd r (λ (g : Failing). g ≡ f) →
          r ≡ first_failing (a ++ b ++ c ++ d)
      second-fails f e p = past-first (these-fail b (c ++ d) y-is f e r p)

      module _ (y-holds : y ≡ Ok tt) {z : Found} (z-is : z ≡ first_failing c) where
        past-second : r ≡ first_failing (c ++ d) → r ≡ first_failing (a ++ b ++ c ++ d)
        past-second e = past-first (these-hold b (c ++ d) y-is y-holds e)

        pub third-fails : (f : Failing) → z ≡ Err f → IsErrAnd r (λ (g : Failing). g ≡ f) →
            r ≡ first_failing (a ++ b ++ c ++ d)
        third-fails f e p = past-second (these-fail c d z-is f e r p)

        pub fourth-says : z ≡ Ok tt → r ≡ first_failing d → r ≡ first_failing (a ++ b ++ c ++ d)
        fourth-says e h = past-second (these-hold c d z-is e h)

-- ---- 1 for the first row

pub first_row : (j : ℕ) → bool_byte (eqb j 0) ≡ in_first j
unfolding in_first
first_row j = go (eqb j 0)
  where
    go : (b : Bool) → bool_byte b ≡ pick b 1 0
    go true = refl
    go false = refl

-- ---- the greatest number of scenes, of a time and a number that the reader allows

module _ (d n : ℕ) (pre : (good_time d ≡ true) × (1 ≤ n) × (n ≤ 750)) where
  pub most-given : most_answer d n ≡ Ok (most_scenes d n)
  unfolding most_answer most_fault no_picture
  most-given = rw (pre.0, ne_eqb n 0 (λ e. omega (arith, e)), le-leb n 750 pre.2)
