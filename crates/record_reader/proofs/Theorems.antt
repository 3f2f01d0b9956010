-- Document 01's claims about records, for any figures and any byte string.
use Prim.Native.Nat.{ℕ, ◌<◌}
use native.Mathlib.Omega.{arith}
use mathlib.Core.Path.{◌≡◌, sym, ap, ◌∙◌}
use mathlib.Core.Bool.{true}
use mathlib.Core.List.{List, ◌++◌}
use lib.ListN.{length, take, drop, get_or}
use lib.Seq.{take-append_seam}
use borrow.Author.Tests.{le-leb}
use Rattle.rules.specs.declared.Header.{Header}
use Rattle.rules.specs.declared.UnitRow.{UnitRow}
use Rattle.rules.specs.declared.SceneRow.{SceneRow}
use Rattle.std.specs.Prelude.{Ok}
use Rattle.rules.specs.Bytes.{word32}
use Rattle.rules.specs.Refusals.{none}
use Rattle.rules.specs.Record.{record_length, record_bytes}
use Rattle.rules.specs.Reading.{header_of, allowed, reading_fault, header_answer, unit_answer, scene_answer}
use Rattle.rules.specs.Seal.{over}
use Rattle.record_laws.proofs.Words.{EachByte}
use Rattle.record_laws.proofs.Record.{Figures, header_read, unit-read, scene-read, record-injective}
use Rattle.record_laws.proofs.Allowed.{good_figures, allowed-figures, record-allowed, units_read, scenes_read}
use Rattle.record_laws.proofs.Allowed.{record-again}
use Rattle.record_reader.specs.Opened.{opened_as}
use Rattle.record_reader.proofs.Answers.{accepted-as, fault-allowed, header-given, unit-given, scene-given}

-- ---- accepted exactly when allowed

pub allowed-accepted : (r : List ℕ) → allowed r ≡ true → reading_fault r ≡ none
unfolding reading_fault record_length
allowed-accepted r e =
    let h = (record-allowed r e).header in
    rw (le-leb 64 (length r) (omega (arith, h.length, h.whole)), h.edition, e)

pub accepted-allowed : (r : List ℕ) → reading_fault r ≡ none → allowed r ≡ true
accepted-allowed r e = fault-allowed r e

pub allowed-opened : (r : List ℕ) → allowed r ≡ true → opened_as r ≡ Ok (record { units = (word32 r 8); scenes = (word32 r 16) })
unfolding opened_as
allowed-opened r e = rw (allowed-accepted r e)

-- ---- reading what was written

module _ (h : Header) (us : List UnitRow) (ss : List SceneRow) (f : Figures h us ss)
    (good : good_figures h us ss ≡ true) where
  is-allowed : allowed (record_bytes h us ss) ≡ true
  is-allowed = allowed-figures h us ss f ∙ good

  counts : (word32 (record_bytes h us ss) 8 ≡ length us) × (word32 (record_bytes h us ss) 16 ≡ length ss)
  unfolding header_of
  counts = (
    ap (λ (x : Header). x.units) (header_read h us ss f) ∙ sym f.units,
    ap (λ (x : Header). x.scenes) (header_read h us ss f) ∙ sym f.scenes,
  )

  pub opens : opened_as (record_bytes h us ss) ≡ Ok (record { units = (length us); scenes = (length ss) })
  opens = rw (counts.0, counts.1) at (allowed-opened (record_bytes h us ss) is-allowed)

  pub header-back : header_answer (record_bytes h us ss) ≡ Ok h
  header-back = sym (header-given (record_bytes h us ss) h (allowed-accepted (record_bytes h us ss) is-allowed)
      (sym (header_read h us ss f)))

  pub unit-back : (j : ℕ) (z : UnitRow) → j < length us →
      unit_answer (record_bytes h us ss) j ≡ Ok (get_or us j z)
  unit-back j z k =
      let a = accepted-as (record_bytes h us ss) (length us) (length ss) opens in
      sym (unit-given (record_bytes h us ss) j (length us) (length ss) (get_or us j z) a k
      (sym (unit-read h us ss f j z k)))

  pub scene-back : (j : ℕ) (z : SceneRow) → j < length ss →
      scene_answer (record_bytes h us ss) j ≡ Ok (get_or ss j z)
  scene-back j z k =
      let a = accepted-as (record_bytes h us ss) (length us) (length ss) opens in
      sym (scene-given (record_bytes h us ss) j (length us) (length ss) (get_or ss j z) a k
      (sym (scene-read h us ss f j z k)))

-- the record is what stands before the unaltered bytes of a buffer
pub front : (r b : List ℕ) → take (length r) (over r b) ≡ r
unfolding over
front r b = take-append_seam r (drop (length r) b)

-- ---- one record, one set of figures

pub injective : (h h' : Header) (us us' : List UnitRow) (ss ss' : List SceneRow) → Figures h us ss →
    Figures h' us' ss' →
    record_bytes h us ss ≡ record_bytes h' us' ss' → (h ≡ h') × (us ≡ us') × (ss ≡ ss')
injective h h' us us' ss ss' f f' e = record-injective h h' us us' ss ss' f f' e

-- two accepted byte strings that read alike are one
pub same-reading : (r t : List ℕ) → EachByte r → EachByte t → reading_fault r ≡ none → reading_fault t ≡ none →
    header_of r ≡ header_of t → units_read r ≡ units_read t → scenes_read r ≡ scenes_read t → r ≡ t
same-reading r t b d e f h u s =
    sym (record-again r b (fault-allowed r e)) ∙ (rw (h, u, s) (record-again t d (fault-allowed t f)))

-- ---- read and written again

pub again : (r b : List ℕ) → EachByte r → reading_fault r ≡ none →
    over (record_bytes (header_of r) (units_read r) (scenes_read r)) b ≡ r ++ drop (length r) b
unfolding over
again r b d e = rw (record-again r d (fault-allowed r e))
