-- What an answer shows: what is given, or the refusal, of a fault that is none or some.
use Prim.Native.Nat.{ℕ}
use native.Mathlib.Omega.{arith}
use mathlib.Core.Path.{◌≡◌, refl, sym, ap}
use Rattle.std.specs.Prelude.{Ok, Err, IsErrAnd}
use Rattle.rules.specs.declared.refusals.Refusal.{Refusal}
use Rattle.rules.specs.Refusals.{Fault, none, fault, Answer, answer, refused}

module _ {X : Type 0} where
  pub ok-same : {x y : X} → ◌≡◌ {A = Answer X} (Ok x) (Ok y) → x ≡ y
  ok-same e = cc

  pub err-same : {d e : Refusal} → ◌≡◌ {A = Answer X} (Err d) (Err e) → d ≡ e
  err-same h = cc

  pub ok-err : {x : X} {e : Refusal} → ◌≡◌ {A = Answer X} (Ok x) (Err e) → ⊥
  ok-err h = let z : ◌≡◌ {A = ℕ} 0 1 = cc in omega arith

  -- of an answer that gives: there is no fault, and what is given is what was to be given
  pub given-none : (f : Fault) (x y : X) → answer f x ≡ Ok y → f ≡ none
  given-none none x y e = refl
  given-none (fault k p) x y e = absurd (ok-err (sym e))

  pub given-same : (f : Fault) (x y : X) → answer f x ≡ Ok y → x ≡ y
  given-same none x y e = ok-same e
  given-same (fault k p) x y e = absurd (ok-err (sym e))

  -- of an answer that refuses: the fault is the refusal's number and place
  pub refused-fault : (f : Fault) (x : X) (e : Refusal) → answer f x ≡ Err e → f ≡ fault e.number e.place
  refused-fault none x e h = absurd (ok-err h)
  refused-fault (fault k p) x e h = ap (λ (d : Refusal). fault d.number d.place) (err-same h)

  -- what `?` passes on
  pub passed-on : (r : Answer X) (d : Refusal) → IsErrAnd r (λ (e : Refusal). e ≡ d) → r ≡ Err d
  passed-on (Ok x) d h = absurd h
  passed-on (Err e) d h = ap (λ (f : Refusal). Err f) h
