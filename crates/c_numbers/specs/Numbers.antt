-- An answer's case as two numbers: document 01's number, 0 where the call is done, and the value, which is what the
-- call answers or the refusal's place.
use Rattle.std.specs.Prelude.{ℕ, Ok, Err}
use Rattle.rules.specs.Refusals.{Answer, listed}

abbrev pub number_of : {X : Type 0} → Answer X → ℕ
number_of (Ok x) = 0
number_of (Err e) = listed e.number

abbrev pub value_of : Answer ℕ → ℕ
value_of (Ok n) = n
value_of (Err e) = e.place

-- the refusal's place, 0 where something is given
abbrev pub place_of : {X : Type 0} → Answer X → ℕ
place_of (Ok x) = 0
place_of (Err e) = e.place
