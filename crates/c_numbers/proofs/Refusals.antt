-- What the laws of the C functions' refusals share. An answer whose refusal has a number of the table has that very
-- number as its own; and a refusal that stands at 0 loses nothing where a function gives no place.
use Prim.Native.Nat.{ℕ}
use mathlib.Core.Path.{◌≡◌, refl}
use mathlib.Core.Bool.{Bool, true, false}
use Rattle.rules.specs.Refusals.{Fault, none, fault, unless, ◌or_else◌, answer}
use Rattle.rules.proofs.Laws.Listed.{Numbered}
use Rattle.c_numbers.specs.Numbers.{number_of}

abbrev pub number_in : Fault → ℕ
number_in none = 0
number_in (fault k p) = k

pub of-answer : {X : Type 0} (f : Fault) (x : X) → Numbered f → number_of (answer f x) ≡ number_in f
of-answer none x n = refl
of-answer (fault k p) x n = n

abbrev pub Unplaced : Fault → Type 0
Unplaced none = Unit {0}
Unplaced (fault k p) = p ≡ 0

pub unplaced-either : (f g : Fault) → Unplaced f → Unplaced g → Unplaced (f or_else g)
unplaced-either none g x y = y
unplaced-either (fault k p) g x y = x

pub unplaced-unless : (b : Bool) (k : ℕ) → Unplaced (unless b k)
unplaced-unless true k = tt
unplaced-unless false k = refl
