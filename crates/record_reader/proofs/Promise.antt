-- What the reader promises of a record that it accepts, to whoever stands above it and knows no record's layout: how
-- long it is, how many units it gives, that each unit's row is there, and how great the lost cells of one can be.
use Prim.Native.Nat.{ℕ, ◌+◌, ◌≤◌, ◌<◌}
use native.Mathlib.Omega.{arith}
use mathlib.Core.Path.{◌≡◌, refl}
use mathlib.Core.List.{List}
use lib.ListN.{length}
use borrow.Author.Tests.{lt-ltb}
use Rattle.rules.specs.Bytes.{word32}
use Rattle.rules.specs.Refusals.{answer, Fault, none, fault}
use Rattle.rules.specs.Record.{record_length}
use Rattle.rules.specs.Reading.{header_of, unit_place, unit_at, reading_fault, unit_fault, row_fault}
use Rattle.rules.specs.Reading.{header_answer, unit_in, unit_answer}
use Rattle.rules.specs.Shelf.{units_given, lost_given}
use Rattle.record_laws.proofs.Words.{EachByte, word32-fits, word32-drop}
use Rattle.record_laws.proofs.Allowed.{record-allowed}
use Rattle.record_reader.proofs.Answers.{fault-allowed}

module _ (r : List ℕ) where
  -- it has 64 to 32,064 bytes
  pub taken-length : reading_fault r ≡ none → (64 ≤ length r) × (length r ≤ 32064)
  unfolding record_length
  taken-length e =
      let h = (record-allowed r (fault-allowed r e)).header in
      (omega (arith, h.length, h.whole), omega (arith, h.length, h.whole))

  pub units-given : reading_fault r ≡ none → units_given (header_answer r) ≡ word32 r 8
  unfolding header_answer header_of
  units-given e = rw e

  -- each unit's row is there, and its lost cells are the answer's
  pub row_inside : reading_fault r ≡ none → (i : ℕ) → i < units_given (header_answer r) → unit_place i + 32 ≤ length r
  unfolding unit_place record_length
  row_inside e i h =
      let a = (record-allowed r (fault-allowed r e)).header in
      omega (arith, units-given e, a.length, a.whole)

  pub lost-row : reading_fault r ≡ none → (i : ℕ) → i < units_given (header_answer r) →
      (unit_at r i).lost ≡ lost_given (unit_answer r i)
  unfolding unit_answer unit_fault row_fault
  lost-row e i h = rw (e, lt-ltb i (word32 r 8) (omega (arith, units-given e)))

  pub units-few : units_given (header_answer r) ≤ 750
  unfolding header_answer header_of
  units-few = go (reading_fault r) refl
    where
      go : (f : Fault) → reading_fault r ≡ f → units_given (answer f (header_of r)) ≤ 750
      go none e = (record-allowed r (fault-allowed r e)).header.units_less
      go (fault k p) e = omega arith

  pub lost-fits : EachByte r → (i : ℕ) → lost_given (unit_answer r i) ≤ 4294967295
  unfolding unit_answer unit_at unit_in
  lost-fits b i = go (unit_fault r i)
    where
      go : (f : Fault) → lost_given (answer f (unit_at r i)) ≤ 4294967295
      go none = rw (word32-drop (unit_place i) r 24) (omega (arith, word32-fits r (unit_place i + 24) b))
      go (fault k p) = omega arith
