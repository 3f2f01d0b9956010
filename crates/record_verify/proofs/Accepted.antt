-- Of a record that the reader accepted: what the calls on it ask for, and the verdict by their answers.
use Prim.Native.Nat.{ℕ, zero, suc, ◌+◌, ◌-◌, ◌*◌, ◌^◌, ◌≤◌, ◌<◌}
use native.Mathlib.Omega.{arith}
use mathlib.Core.Path.{◌≡◌, refl, ap, ◌∙◌}
use mathlib.Core.List.{List, [], ◌∷◌}
use mathlib.Core.Bool.{Bool, true, ◌&&◌, ◌||◌}
use lib.ListN.{length, drop}
use lib.Dec.{leb, eqb}
use borrow.Author.Tests.{leb-true}
use Rattle.rules.specs.declared.Index.{Index}
use Rattle.rules.specs.declared.Header.{Header}
use Rattle.rules.specs.Bytes.{word32, word64, total, table}
use Rattle.rules.specs.Refusals.{none, fault}
use Rattle.rules.specs.Editions.{knows_damage}
use Rattle.rules.specs.Opening.{good_time}
use Rattle.rules.specs.Index.{index_of, index_bits}
use Rattle.rules.specs.Reading.{header_of, unit_place, unit_in, unit_at, allowed_unit, allowed_units, reading_fault}
use Rattle.rules.proofs.Laws.Lists.{both}
use Rattle.record_laws.proofs.Allowed.{HeaderAllowed, record-allowed}
use Rattle.record_reader.specs.Opened.{opened_as}
use Rattle.record_reader.proofs.Answers.{AcceptedAs, accepted-as}
use Rattle.index.specs.Counts.{ExactCounts}
use Rattle.record_verify.specs.declared.Reached.{Reached}
use Rattle.record_verify.specs.declared.UnitTotals.{UnitTotals}
use Rattle.record_verify.specs.declared.Verdict.{Verdict}
use Rattle.std.specs.Prelude.{Ok, Err}
use Rattle.rules.specs.declared.refusals.Refusal.{Refusal}
use Rattle.record_verify.specs.Totals.{repeated_total, packets_total, unrepeated_total, index_of_rows, reached_of}
use Rattle.record_verify.specs.Within.{UnitTotalsOf}
use Rattle.record_verify.specs.Marks.{exactly, counted_in, header_checks, index_checks}
use Rattle.record_verify.specs.Marks.{checks, Found, first_failing, judged, verdict_of}

-- the first unit of some has a packet
first-packet : (known : Bool) (n : ℕ) (b : List ℕ) → 1 ≤ n → allowed_units known n b ≡ true → 1 ≤ word32 b 20
unfolding allowed_units allowed_unit
first-packet known zero b h e = absurd (omega arith)
first-packet known (suc n) b h e =
    let times = leb (word64 b 0) (word64 b 8) in
    let some = leb 1 (word32 b 20) in
    let size = eqb (word32 b 16) (184 * word32 b 20) in
    let damaged = known || eqb (word32 b 28) 0 in
    let x = (both (times && some && size && damaged) (allowed_units known n (drop 32 b)) e).0 in
    let y = (both (times && some && size) damaged x).0 in
    leb-true 1 (word32 b 20) (both times some (both (times && some) size y).0).1

first-among : (f : ℕ → ℕ) (n : ℕ) → 1 ≤ n → f 0 ≤ total (table n 0 f)
unfolding total table
first-among f zero h = absurd (omega arith)
first-among f (suc n) h = omega arith

module _ (r : List ℕ) (u s : ℕ) (is : (u ≡ word32 r 8) × (s ≡ word32 r 16)) (e : reading_fault r ≡ none) where
  pub taken : AcceptedAs r u s
  unfolding opened_as
  taken = accepted-as r u s (rw (e, is.0, is.1))

  pub headed : HeaderAllowed (length r) r
  headed = (record-allowed r taken.allowed).header

  pub units-there : (u ≤ 750) × (64 + 32 * u ≤ length r)
  units-there = (taken.units_less, omega (arith, taken.size))

  pub scenes-there : (s ≤ 250) × (64 + 32 * (u + s) ≤ length r)
  scenes-there = (taken.scenes_less, omega (arith, taken.size))

  first-is : (unit_at r 0).packets ≡ word32 (drop 64 r) 20
  unfolding unit_at unit_in unit_place
  first-is = refl

  some_packets : 1 ≤ packets_total r
  unfolding packets_total
  some_packets =
      let w = record-allowed r taken.allowed in
      let m = w.header.units_more in
      omega (
        arith,
        first-packet (knows_damage (word32 r 0)) (word32 r 8) (drop 64 r) m w.units,
        first-among (λ j. (unit_at r j).packets) (word32 r 8) m,
        first-is,
      )

  module _ (h : Header) (h-is : h ≡ header_of r) (t : UnitTotals) (t-is : UnitTotalsOf r t) where
    pub pictures-is : h.pictures ≡ word32 r 40
    unfolding header_of
    pictures-is = ap (λ (x : Header). x.pictures) h-is

    pub counts : (m n : ℕ) → n ≡ h.pictures - m → ExactCounts n h.pictures t.packets t.lost
    counts m n n-is =
        let w = headed in
        let p = pictures-is in
        record {
          some_pictures = omega (arith, w.pictures_more);
          of_them = omega arith;
          some_packets = omega (arith, some_packets, t-is.packets);
          few_pictures = omega (arith, w.pictures_less);
          few_packets = omega (arith, t-is.few_packets);
          few_lost = omega (arith, t-is.few_lost);
        }

    pub header-asked : (n : ℕ) → n < 2 ^ 52 →
        (good_time h.time ≡ true) × (1 ≤ h.pictures) × (h.pictures ≤ 750) × (n < 2 ^ 52)
    unfolding header_of
    header-asked n few = (
      rw h-is headed.time,
      omega (arith, pictures-is, headed.pictures_more),
      omega (arith, pictures-is, headed.pictures_less),
      few,
    )

    counted_is : h.bad + t.packets + t.damaged ≡ counted_in r
    unfolding header_of counted_in
    counted_is = rw (h-is, t-is.packets, t-is.damaged)

    pub header-found : {x : Found} → x ≡ first_failing (header_checks h (h.bad + t.packets + t.damaged)) →
        x ≡ first_failing (header_checks (header_of r) (counted_in r))
    header-found e = e ∙ rw (counted_is, h-is)

    pub index-found : {x : Found} (i : Index) (bits : ℕ) → i ≡ index_of_rows r → bits ≡ index_bits i →
        x ≡ first_failing (exactly 16 0 h.index bits ∷ []) → x ≡ first_failing (index_checks r)
    unfolding index_checks header_of
    index-found i bits i-is bits-is e = e ∙ rw (bits-is, i-is, h-is)

    module _ (m n : ℕ) (i : Index) (m-is : m ≡ repeated_total r) (n-is : n ≡ h.pictures - m)
        (i-is : i ≡ index_of n h.pictures t.packets t.lost) where
      unrepeated-is : n ≡ unrepeated_total r
      unfolding unrepeated_total
      unrepeated-is = n-is ∙ rw (pictures-is, m-is)

      pub index_is : i ≡ index_of_rows r
      unfolding index_of_rows
      index_is = i-is ∙ rw (unrepeated-is, pictures-is, t-is.packets, t-is.lost)

      abbrev reached : Reached
      reached =
          record { unrepeated = n; pictures = h.pictures; packets = t.packets; lost = t.lost; index = i }

      pub reached-is : reached ≡ reached_of r
      unfolding reached_of
      reached-is = rw (unrepeated-is, pictures-is, t-is.packets, t-is.lost, index_is)

-- ---- the answer to any bytes

pub accepted-answer : (r : List ℕ) (v : Verdict) → reading_fault r ≡ none →
    v ≡ judged (first_failing (checks r)) (reached_of r) → Ok v ≡ verdict_of r
unfolding verdict_of
accepted-answer r v e g = rw (e, g)

pub refused-answer : (r : List ℕ) (d : Refusal) → reading_fault r ≡ fault d.number d.place → Err d ≡ verdict_of r
unfolding verdict_of
refused-answer r d e = rw e
