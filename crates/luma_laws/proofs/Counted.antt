-- The pictures of a sample: which are whole, and that each of their pixels adds one to one bin of one tile's
-- histogram and to no other, so that the bins of the nine histograms total w × h.
use Prim.Native.Nat.{ℕ, suc, ◌+◌, ◌*◌, ◌/◌, ◌≤◌, ◌<◌}
use native.Mathlib.Omega.{arith}
use native.Mathlib.Nat.{add-mul, mul-pos, le-div_iff_mul-le, lt_of_not-le}
use native.Mathlib.Decide.{dec_le}
use mathlib.Core.Path.{◌≡◌, refl, ap, ◌∙◌}
use mathlib.Core.List.{List, [], ◌∷◌}
use lib.ListN.{length, get_or, take, drop, length-map}
use lib.Seq.{length-take-le, split_at}
use borrow.Author.Tests.{le-leb, lt-leb}
use Rattle.rules.specs.declared.Opening.{Opening}
use Rattle.rules.specs.Bytes.{tally, parts, smaller, Bytes}
use Rattle.rules.specs.Refusals.{Fault, none, fault}
use Rattle.rules.specs.Opening.{opening_fault, columns, lines, pixel_count}
use Rattle.rules.specs.Pictures.{picture_size, if_opened, picture_count, pictures, pixels}
use Rattle.rules.specs.Histograms.{histograms}
use Rattle.rules.specs.Seal.{reduced}
use Rattle.rules.specs.Counted.{Whole, other_bin, Counted, hits}
use Rattle.luma_laws.proofs.Tables.{parts-length}
use Rattle.luma_laws.proofs.Tally.{tally-append}
use Rattle.luma_laws.proofs.Histograms.{histograms-total}
use Rattle.luma_laws.proofs.Moves.{byte_at}
use Rattle.luma_laws.proofs.Tiles.{once, histograms-at}
use Rattle.luma_laws.proofs.Sizes.{Good, good, sizes}
use Rattle.luma_laws.proofs.Differences.{reduced-at}

-- ---- whole pictures

smaller-least : (a b i : ℕ) → i < smaller a b → (i < a) × (i < b)
smaller-least a b i h = elim (dec_le a b) [
  | yes l ↦ let k : i < a = rw (le-leb a b l) at h in (k, omega arith)
  | no l ↦ let k : i < b = rw (lt-leb a b (lt_of_not-le l)) at h in (omega (arith, lt_of_not-le l), k)
]

least-smaller : (a b i : ℕ) → i < a → i < b → i < smaller a b
least-smaller a b i g h = elim (dec_le a b) [
  | yes l ↦ rw (le-leb a b l) g
  | no l ↦ rw (lt-leb a b (lt_of_not-le l)) h
]

size-some : (o : Opening) → opening_fault o ≡ none → 0 < picture_size o
unfolding picture_size
size-some o e =
    let g = good o e in
    let w : 0 < o.width = omega (arith, g.width_low) in
    let h : 0 < o.height = omega (arith, g.height_low) in
    mul-pos w h

-- the first N pictures are those that are whole
pub counted-whole : (o : Opening) (luma : List ℕ) (i : ℕ) → i < picture_count o luma → Whole o luma i
unfolding picture_count
counted-whole o luma i h = go (opening_fault o) refl h
  where
    go : (f : Fault) → opening_fault o ≡ f → i < if_opened f (smaller 750 (length luma / picture_size o)) →
        Whole o luma i
    go none e l =
        let k = smaller-least 750 (length luma / picture_size o) i l in
        let up : i + 1 ≤ length luma / picture_size o = omega (arith, k.1) in
        let fits : (i + 1) * picture_size o ≤ length luma = (le-div_iff_mul-le (size-some o e)).0 up in
        record { opened = e; few = k.0; there = omega (arith, add-mul i 1 (picture_size o)) }
    go (fault k p) e l = absurd (omega arith)

pub whole-counted : (o : Opening) (luma : List ℕ) (i : ℕ) → Whole o luma i → i < picture_count o luma
unfolding picture_count
whole-counted o luma i w =
    let up : i + 1 ≤ length luma / picture_size o =
    (le-div_iff_mul-le (size-some o w.opened)).1 (omega (arith, w.there, add-mul i 1 (picture_size o))) in
    rw w.opened (least-smaller 750 (length luma / picture_size o) i w.few (omega arith))

pub reduced-length : (o : Opening) (luma : List ℕ) → length (reduced o luma) ≡ picture_count o luma
unfolding reduced pictures
reduced-length o luma =
    length-map (parts (picture_count o luma) (picture_size o) luma) (pixels o)
    ∙ parts-length (picture_count o luma) (picture_size o) luma

-- ---- their histograms

-- a bin is what the pixel at place j gives and what the others give
pixel-adds : (o : Opening) (px : List ℕ) (j t b : ℕ) → j < length px → t < 9 → b < 16 →
    get_or (get_or (histograms o px) t []) b 0
    ≡ other_bin o t b j px + hits (columns o) (lines o) t b j (get_or px j 0)
unfolding tally
pixel-adds o px j t b h ht hb =
    let f : ℕ → ℕ → ℕ = hits (columns o) (lines o) t b in
    let v = get_or px j 0 in
    let size : length (take j px) ≡ j = length-take-le j px (omega arith) in
    let here : 0 + length (take j px) ≡ j = omega arith in
    let cut : tally f 0 px ≡ tally f 0 (take j px) + tally f j (v ∷ drop (suc j) px) =
    ap (tally f 0) (split_at px j 0 h) ∙ rw here at (tally-append f 0 (take j px) (v ∷ drop (suc j) px)) in
    omega (arith, histograms-at o px t b ht hb)

pub counted : (o : Opening) (px : List ℕ) → Good o → Bytes px → length px ≡ pixel_count o → Counted o px
unfolding pixel_count
counted o px g h e =
    let s = sizes o g in
    let some : 0 < columns o = omega (arith, s.columns_low) in
    record {
      size = e;
      adds =
          λ j l.
          let one = once (columns o) (lines o) j (get_or px j 0) some l (byte_at px j h) in
          let here : j < length px = omega arith in
          record {
            the_tile = one.the_tile;
            the_bin = one.the_bin;
            tile_below = one.tile_below;
            bin_below = one.bin_below;
            own = pixel-adds o px j one.the_tile one.the_bin here one.tile_below one.bin_below
                ∙ ap (λ (z : ℕ). other_bin o one.the_tile one.the_bin j px + z) one.own;
            others = λ t b ht hb k. omega (arith, pixel-adds o px j t b here ht hb, one.others t b k);
          };
      all = histograms-total o px some e h;
    }

-- so of every whole picture
pub every-picture : (o : Opening) (luma : List ℕ) (i : ℕ) → Bytes luma → Whole o luma i →
    Counted o (get_or (reduced o luma) i [])
unfolding pixel_count
every-picture o luma i h w =
    let k : i < length (reduced o luma) = omega (arith, reduced-length o luma, whole-counted o luma i w) in
    let r = reduced-at o luma i h k in
    counted o (get_or (reduced o luma) i []) (good o w.opened) r.0 r.1
