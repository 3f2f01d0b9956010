-- What a question's reply leaves: its number, its value and, of an index, three f64.
use Rattle.std.specs.Prelude.{ℕ, List, [], ◌∷◌, Float, Ok, Err}
use Rattle.rules.specs.declared.Index.{Index}
use Rattle.rules.specs.Refusals.{Answer}
use Rattle.rules.specs.Calls.{Reply, sealed_into, indexed, counted}
use Rattle.c_numbers.specs.Numbers.{number_of, value_of, place_of}

-- ---- an index: its value is the refusal's place, or 0; after a refusal the lent three are what stood there

-- Ic, Ip and the index
abbrev pub index_figures : Index → List Float
index_figures i = i.ic ∷ i.ip ∷ i.value ∷ []

abbrev pub index_into : Answer Index → List Float → List Float
index_into (Ok i) old = index_figures i
index_into (Err e) old = old

-- ---- any question

abbrev pub reply_number : Reply → ℕ
reply_number (sealed_into a buffer) = number_of a
reply_number (indexed a) = number_of a
reply_number (counted a) = number_of a

abbrev pub reply_value : Reply → ℕ
reply_value (sealed_into a buffer) = value_of a
reply_value (indexed a) = place_of a
reply_value (counted a) = value_of a

-- the three f64 that it gives
abbrev pub three_of : Reply → List Float
three_of (sealed_into a buffer) = []
three_of (indexed a) = index_into a []
three_of (counted a) = []
