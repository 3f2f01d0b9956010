-- Of any bytes that the reader does not refuse the index of the rows is a number from 1 to 5, and with it no NaN.
use Prim.Native.Nat.{ℕ, zero, suc, ◌*◌, ◌≤◌}
use native.Mathlib.Omega.{arith}
use mathlib.Core.Path.{◌≡◌, refl}
use mathlib.Core.List.{List, [], ◌∷◌}
use Rattle.rules.specs.declared.UnitRow.{UnitRow}
use Rattle.rules.specs.Bytes.{word32, total, table, Bytes, empty, and}
use Rattle.rules.specs.Refusals.{Fault, none, fault, answer}
use Rattle.rules.specs.Reading.{header_of, unit_at, reading_fault}
use Rattle.record_reader.proofs.Sums.{table-most}
use Rattle.index.specs.Counts.{ExactCounts, NoNan}
use Rattle.index.proofs.Bound.{no_nan, at_least_one, at-most-five}
use Rattle.record_laws.proofs.Words.{EachByte}
use Rattle.record_laws.proofs.Record.{UnitFits}
use Rattle.record_laws.proofs.Allowed.{unit-fits}
use Rattle.record_verify.specs.declared.Reached.{Reached}
use Rattle.record_verify.specs.declared.UnitTotals.{UnitTotals}
use Rattle.std.specs.Prelude.{Ok, Err}
use Rattle.record_verify.specs.declared.Verdict.TheVariants.{CouldBeSealed}
use Rattle.record_verify.specs.Within.{UnitTotalsOf}
use Rattle.record_verify.specs.Totals.{repeated_total, packets_total, lost_total, damaged_total, unrepeated_total}
use Rattle.record_verify.specs.Totals.{index_of_rows, reached_of, OneToFive, RowsOneToFive}
use Rattle.record_verify.specs.Marks.{checks, Found, first_failing, judged, verdict_of}
use Rattle.record_verify.proofs.Accepted.{taken, counts}

each-byte : (s : List ℕ) → Bytes s → EachByte s
each-byte [] empty i = omega arith
each-byte (b ∷ s) (and h hs) zero = h
each-byte (b ∷ s) (and h hs) (suc i) = each-byte s hs i

module _ (r : List ℕ) (b : EachByte r) (e : reading_fault r ≡ none) where
  fits : (j : ℕ) → UnitFits (unit_at r j)
  fits = unit-fits r b

  few : (f : UnitRow → ℕ) → ((j : ℕ) → f (unit_at r j) ≤ 4294967295) →
      total (table (word32 r 8) 0 (λ j. f (unit_at r j))) ≤ 4294967295 * 750
  few f most =
      let units = (taken r _ _ (refl, refl) e).units_less in
      let sum = table-most (λ j. f (unit_at r j)) 4294967295 most (word32 r 8) 0 in
      omega arith

  totals : UnitTotals
  totals = record { packets = packets_total r; lost = lost_total r; damaged = damaged_total r }

  totals-are : UnitTotalsOf r totals
  unfolding totals packets_total lost_total damaged_total
  totals-are =
      record {
        packets = refl;
        lost = refl;
        damaged = refl;
        few_packets = few (λ (u : UnitRow). u.packets) (λ j. omega (arith, (fits j).packets));
        few_lost = few (λ (u : UnitRow). u.lost) (λ j. omega (arith, (fits j).lost));
        few_damaged = few (λ (u : UnitRow). u.damaged) (λ j. omega (arith, (fits j).damaged));
      }

  rows-counts : ExactCounts (unrepeated_total r) (word32 r 40) (packets_total r) (lost_total r)
  unfolding unrepeated_total header_of totals
  rows-counts = counts r _ _ (refl, refl) e (header_of r) refl totals totals-are (repeated_total r) _ refl

  pub rows-numbers : NoNan (index_of_rows r)
  unfolding index_of_rows
  rows-numbers = no_nan rows-counts

  bounded : OneToFive (index_of_rows r)
  unfolding index_of_rows
  bounded =
      record {
        number = (no_nan rows-counts).value;
        least = at_least_one rows-counts;
        most = at-most-five rows-counts;
      }

pub rows-one-to-five : RowsOneToFive
rows-one-to-five r b e = bounded r (each-byte r b) e

-- ---- of a verdict that gives an index, none of the three is a NaN

given : (f : Fault) (g : Found) (x y : Reached) → answer f (judged g y) ≡ Ok (CouldBeSealed x) → (f ≡ none) × (x ≡ y)
given none (Ok u) x y e = (refl, (cc))
given none (Err d) x y e = absurd (let z : ◌≡◌ {A = ℕ} 0 1 = cc in omega arith)
given (fault k p) g x y e = absurd (let z : ◌≡◌ {A = ℕ} 0 1 = cc in omega arith)

pub could-be-numbers : (r : List ℕ) → EachByte r → (x : Reached) → verdict_of r ≡ Ok (CouldBeSealed x) → NoNan x.index
unfolding verdict_of reached_of
could-be-numbers r b x e =
    let g = given (reading_fault r) (first_failing (checks r)) x (reached_of r) e in
    rw g.1 (rows-numbers r b g.0)
