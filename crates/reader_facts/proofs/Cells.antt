-- Capture records are carrying ones and passed-over ones, and every cell of a carrying one is counted once.
use Prim.Native.Nat.{ℕ, zero, suc, ◌+◌, ◌-◌, ◌/◌}
use native.Mathlib.Omega.{arith}
use mathlib.Core.Path.{◌≡◌, refl, sym, ap, ◌∙◌}
use mathlib.Core.List.{List, [], ◌∷◌, ◌++◌, map}
use mathlib.Core.Bool.{Bool, true, false, not}
use lib.ListN.{length, drop, length-append}
use Rattle.rules.specs.declared.Opening.{Opening}
use Rattle.rules.specs.Bytes.{pick, total, count, only}
use Rattle.rules.specs.Frames.{frame_time, body}
use Rattle.rules.specs.Packets.{Packet, udp_length, carries, packets_from, packets_in, packets_of, packets, skipped}
use Rattle.rules.specs.Packets.{whole}
use Rattle.rules.specs.Capture.{whole_frames, unfinished, units, frame_count, skipped_count, bad_count}
use Rattle.capture_laws.proofs.UnitsMore.{all_packets, all_damaged}
use Rattle.capture_laws.proofs.Damage.{every-cell}
use Rattle.record_laws.proofs.Ranges.{all-reached}
use Rattle.reader_facts.specs.Facts.{carrying, carried_cells, foreign_cells}

-- those that pass a test and those that do not
module _ {A : Type 0} (test : A → Bool) where
  pub parted : (xs : List A) → length xs ≡ length (only test xs) + count (λ x. not (test x)) xs
  unfolding only count
  parted [] = refl
  parted (x ∷ xs) = go (test x) (parted xs)
    where
      go : (b : Bool) → length xs ≡ length (only test xs) + count (λ x. not (test x)) xs →
          suc (length xs)
          ≡ length (pick b (x ∷ only test xs) (only test xs)) + (pick (not b) 1 0 + count (λ x. not (test x)) xs)
      go true h = omega arith
      go false h = omega arith

pub records-counted : (capture : List ℕ) → frame_count capture ≡ length (carrying capture) + skipped_count capture
unfolding frame_count skipped_count skipped carrying
records-counted capture = parted carries (whole_frames capture)

-- ---- the cells of carrying records

length_from : (n time place : ℕ) (s : List ℕ) → length (packets_from n time place s) ≡ n
unfolding packets_from
length_from zero time place s = refl
length_from (suc n) time place s = ap suc (length_from n time (place + 188) (drop 188 s))

abbrev cells_in : List ℕ → ℕ
cells_in f = (udp_length f - 8) / 188

cells_told : (place : ℕ) (fs : List (List ℕ)) → length (packets place fs) ≡ total (map cells_in (only carries fs))
unfolding packets only total packets_of packets_in
cells_told place [] = refl
cells_told place (f ∷ fs) = go (carries f) (cells_told (place + length f) fs)
  where
    here : List Packet
    here = packets_from (cells_in f) (frame_time f) (place + 58) (drop 42 (body f))

    go : (b : Bool) → length (packets (place + length f) fs) ≡ total (map cells_in (only carries fs)) →
        length (pick b here [] ++ packets (place + length f) fs)
        ≡ total (map cells_in (pick b (f ∷ only carries fs) (only carries fs)))
    go true h =
        rw (
          length-append here (packets (place + length f) fs),
          length_from (cells_in f) (frame_time f) (place + 58) (drop 42 (body f)),
          h,
        )
    go false h = h

-- ---- each is counted once

-- of a capture that does not end inside a record
pub cells-counted : (o : Opening) (capture : List ℕ) → unfinished capture ≡ [] →
    carried_cells capture
    ≡ bad_count o capture + foreign_cells o capture + all_packets (units o capture) + all_damaged (units o capture)
unfolding carried_cells carrying foreign_cells whole
cells-counted o capture e =
    let r = all-reached 188 (omega arith) (omega arith) capture e in
    sym (cells_told 24 (whole_frames capture)) ∙ (rw r at (every-cell o capture))
