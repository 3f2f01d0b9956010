-- R-14: the statements of `specs/Facts` hold.
use Prim.Native.Nat.{ℕ, ◌*◌, ◌≤◌}
use native.Mathlib.Omega.{arith}
use mathlib.Core.Path.{◌≡◌, sym, ap, ◌∙◌}
use mathlib.Core.List.{List, [], ◌∷◌}
use mathlib.Core.Bool.{not}
use lib.ListN.{length}
use lib.Ieee.{Float, binary64}
use lib.Ieee.Bits.{of_bits-to_bits}
use lib.Ieee.Fits.{add-fits}
use Rattle.rules.specs.declared.Opening.{Opening}
use Rattle.rules.specs.declared.Header.{Header}
use Rattle.rules.specs.declared.UnitRow.{UnitRow}
use Rattle.rules.specs.Bytes.{Bytes, word32, word64, total}
use Rattle.rules.specs.Index.{float, index_of, value_of, index_bits}
use Rattle.rules.specs.Capture.{units, frame_count, skipped_count, bad_count, whole_wanted}
use Rattle.rules.specs.Changes.{repeats}
use Rattle.rules.specs.Pictures.{picture_count}
use Rattle.rules.specs.Refusals.{none}
use Rattle.rules.specs.Reading.{header_of, reading_fault}
use Rattle.rules.specs.Seal.{reduced, scenes, unrepeated, index_from, index, header, sealed}
use Rattle.rules.proofs.Laws.Lists.{count-few}
use Rattle.capture_laws.proofs.Bounds.{wanted-few}
use Rattle.capture_laws.proofs.UnitsMore.{all_packets, all_lost, all_damaged, packets-total, lost-small}
use Rattle.luma_laws.proofs.Past.{length-repeats}
use Rattle.luma_laws.proofs.Counted.{reduced-length}
use Rattle.luma_laws.proofs.Scenes.{pictures-most}
use Rattle.record_laws.proofs.Record.{Figures, Each, header_read}
use Rattle.record_laws.proofs.Ranges.{Sealable, sealable, UnitRange, unit-ranges, figures-fit, between, capture-most}
use Rattle.record_laws.proofs.Sealed.{sealed-read}
use Rattle.index.specs.Counts.{Counts}
use Rattle.index.proofs.Bound.{at_least_one, at-most-five, exact-counts, no_nan}
use Rattle.sample.proofs.ReadBack.{sealed-well, in-front, sealed-last}
use Rattle.reader_facts.specs.Facts.{unit_words, index_in}
use Rattle.reader_facts.specs.Facts.{AllCounted, OneToFive, SameUnits, SealedBy}
use Rattle.reader_facts.specs.Facts.{EverySealCounts, EverySealOneToFive, EqualCapturesEqualUnits}
use Rattle.reader_facts.proofs.Cells.{records-counted, cells-counted}
use Rattle.reader_facts.proofs.Rows.{packets-words, damaged-words, rows-bytes, units-told}

-- ---- of a record that can be sealed

module _ (o : Opening) (capture luma : List ℕ) (w : Sealable o capture luma) (bc : Bytes capture)
    (bl : Bytes luma) where
  abbrev r : List ℕ
  r = sealed o capture luma

  fit : Figures (header o capture luma) (units o capture) (scenes o luma)
  fit = figures-fit o capture luma w bc bl

  told : header_of r ≡ header o capture luma
  unfolding sealed
  told = header_read (header o capture luma) (units o capture) (scenes o luma) fit

  counted : AllCounted o capture r
  counted =
      let f : word32 r 44 ≡ frame_count capture = unfold header_of header in ap (λ (x : Header). x.frames) told in
      let s : word32 r 48 ≡ skipped_count capture = unfold header_of header in ap (λ (x : Header). x.skipped) told in
      let b : word32 r 52 ≡ bad_count o capture = unfold header_of header in ap (λ (x : Header). x.bad) told in
      let p : unit_words r 20 ≡ all_packets (units o capture) =
      unfold sealed in packets-words (header o capture luma) (units o capture) (scenes o luma) fit in
      let d : unit_words r 28 ≡ all_damaged (units o capture) =
      unfold sealed in damaged-words (header o capture luma) (units o capture) (scenes o luma) fit in
      let c = cells-counted o capture (between capture w.inside) in
      record { records = rw (f, s) (records-counted capture); cells = rw (b, p, d) c }

  -- ---- the index

  some-packet : (us : List UnitRow) → Each (UnitRange (length capture)) us → 1 ≤ length us → 1 ≤ all_packets us
  unfolding total
  some-packet [] h k = absurd (omega arith)
  some-packet (u ∷ us) h k = let g = h.0.some in omega arith

  counts : Counts (unrepeated o luma) (picture_count o luma) (all_packets (units o capture))
      (all_lost (units o capture))
  unfolding unrepeated units
  counts =
      let ps = whole_wanted o capture in
      let p = packets-total o.edition ps in
      let l : all_lost (units o capture) ≤ 14 * length ps = lost-small o.edition ps in
      let few = wanted-few o capture in
      let most = capture-most o capture luma w in
      let n = pictures-most o luma in
      let u = count-few not (repeats (reduced o luma)) in
      let e = length-repeats (reduced o luma) ∙ reduced-length o luma in
      record {
        some_pictures = w.picture;
        of_them = omega arith;
        some_packets = some-packet (units o capture) (unit-ranges o capture luma w bc) w.unit;
        few_pictures = omega arith;
        few_packets = omega arith;
        few_lost = omega arith;
      }

  abbrev value : Float
  value = (index_of (unrepeated o luma) (picture_count o luma) (all_packets (units o capture))
      (all_lost (units o capture))).value

  index_back : index_in r ≡ value
  unfolding index_in index_bits index index_from index_of value_of
  index_back =
      let b : word64 r 56 ≡ index_bits (index o capture luma) =
      unfold header_of header in ap (λ (x : Header). x.index) told in
      rw b (of_bits-to_bits binary64 value (add-fits binary64 (float 1) _))

  one-to-five : OneToFive r
  one-to-five =
      record {
        number = rw index_back (no_nan (exact-counts counts)).value;
        least = rw index_back (at_least_one (exact-counts counts));
        most = rw index_back (at-most-five (exact-counts counts));
      }

-- the unit rows' bytes go by the capture alone
same_units : (o : Opening) (capture luma luma' : List ℕ) → Sealable o capture luma → Sealable o capture luma' →
    Bytes capture → Bytes luma → Bytes luma' → SameUnits (sealed o capture luma) (sealed o capture luma')
unfolding sealed
same_units o capture luma luma' w w' bc bl bl' =
    let us = units o capture in
    let f = figures-fit o capture luma w bc bl in
    let f' = figures-fit o capture luma' w' bc bl' in
    record {
      units = units-told (header o capture luma) us (scenes o luma) f
          ∙ sym (units-told (header o capture luma') us (scenes o luma') f');
      rows = rows-bytes (header o capture luma) us (scenes o luma) f
          ∙ sym (rows-bytes (header o capture luma') us (scenes o luma') f');
    }

-- ---- of every successful seal

-- what such a seal left, that nothing refused it, and that the reader does not either
pub record Left (o : Opening) (capture luma r : List ℕ) : Type 0 where
  pub is : r ≡ sealed o capture luma
  pub well : Sealable o capture luma
  pub read : reading_fault (sealed o capture luma) ≡ none

pub left : (o : Opening) (capture luma r : List ℕ) → SealedBy o capture luma r → Left o capture luma r
left o capture luma r s =
    let c = s.capture_is in
    let l = s.luma_is in
    let e =
    rw (c, l) at
    (sealed-last o s.opened s.first s.last s.calls s.outcomes s.before s.after s.answer
    s.opens s.runs) in
    let n = length s.before in
    let f = (sealed-well o capture luma s.before s.after s.answer e).0 in
    record {
      is = s.is ∙ in-front o capture luma s.before s.after s.answer e;
      well = sealable o capture luma n f;
      read = sealed-read o capture luma n f s.capture_bytes s.luma_bytes;
    }

pub every-seal-counts : EverySealCounts
every-seal-counts o capture luma r s =
    let l = left o capture luma r s in
    rw l.is (counted o capture luma l.well s.capture_bytes s.luma_bytes)

pub every-seal-one-to-five : EverySealOneToFive
every-seal-one-to-five o capture luma r s =
    let l = left o capture luma r s in
    rw l.is (one-to-five o capture luma l.well s.capture_bytes s.luma_bytes)

pub equal-captures-equal-units : EqualCapturesEqualUnits
equal-captures-equal-units o capture luma luma' r r' s s' =
    let l = left o capture luma r s in
    let l' = left o capture luma' r' s' in
    rw (l.is, l'.is)
    (same_units o capture luma luma' l.well l'.well s.capture_bytes s.luma_bytes s'.luma_bytes)
