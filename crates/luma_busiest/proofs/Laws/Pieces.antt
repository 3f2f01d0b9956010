-- The busiest luma in pieces: a lent piece is filled picture by picture, and pieces laid end to end are the luma.
use Prim.Native.Nat.{ℕ, zero, suc, ◌+◌, ◌-◌, ◌*◌, ◌/◌, ◌%◌, ◌≤◌, ◌<◌, min}
use native.Mathlib.Omega.{arith}
use native.Mathlib.Nat.{suc-mul, zero-mul, div-add-mod', div-lt_iff_lt-mul}
use native.Mathlib.Nat.{lt-div-mul-add, div-mul-le_self, mul-le-mul_right}
use Rattle.std.proofs.lemmas.Grind.{div_ceil_times}
use native.Mathlib.Decide.{dec_le}
use mathlib.Core.Path.{◌≡◌, refl, sym, ap, ◌∙◌}
use mathlib.Core.List.{List, [], ◌++◌}
use lib.ListN.{length, take, drop, replicate, length-drop, drop_of_length-le}
use lib.Seq.{take_all, take-nil, take-add, drop-drop, length-take-le}
use borrow.Author.Tests.{le-leb, lt-leb}
use Rattle.rules.specs.Bytes.{smaller, table, end_to_end}
use Rattle.rules.specs.Seal.{over}
use Rattle.rules.proofs.Laws.Lists.{smaller-min}
use Rattle.rules.specs.Busiest.{shade, busiest_luma, busiest_part, InPieces}
use Rattle.words.specs.Written.{written}
use Rattle.words.proofs.Behind.{behind}
use Rattle.luma_busiest.proofs.Laws.Luma.{luma-length, within}
use Rattle.luma_busiest.proofs.Laws.Answers.{all-passed, luma-most}

-- ---- a lent piece, from byte `at` on

-- the picture of some size that a byte lies in ends behind the byte, by that size at most
pub picture-end : (size place : ℕ) → 0 < size →
    (place < (place / size + 1) * size) × ((place / size + 1) * size ≤ place + size)
picture-end size place some =
    let i = place / size in
    let end : (i + 1) * size ≡ size + i * size = omega (arith, suc-mul i size) in
    let last : place < i * size + size = lt-div-mul-add {a = place} {b = size} some in
    let first : i * size ≤ place = div-mul-le_self place size in
    (omega arith, omega arith)

-- picture i begins before the byte `last` and ends after the byte `at`
pub touched : (size at last i : ℕ) → 0 < size → at / size ≤ i → i < last / size + min 1 (last % size) →
    (i * size < last) × (at < (i + 1) * size)
touched size at last i some low high =
    let next : (i + 1) * size ≡ size + i * size = omega (arith, suc-mul i size) in
    let most : (i + 1) * size ≤ (last / size + min 1 (last % size)) * size = mul-le-mul_right size (omega arith) in
    let first : (at / size + 1) * size ≤ (i + 1) * size = mul-le-mul_right size (omega arith) in
    (omega (arith, (div_ceil_times last size some).1), omega (arith, (picture-end size at some).0))

module _ (w h d n at : ℕ) (before : List ℕ) where
  -- all of the luma from there on
  rest : List ℕ
  rest = drop at (busiest_luma w h d n)

  rest-length : length rest ≡ n * (w * h) - at
  unfolding rest
  rest-length = length-drop at (busiest_luma w h d n) ∙ rw (luma-length w h d n)

  -- its first bytes, up to `done`, are written
  pub Filled : ℕ → List ℕ → Type 0
  Filled done after = after ≡ over (take done rest) before

  pub filled_none : Filled 0 before
  unfolding Filled over
  filled_none = refl

  -- the bytes from `done` to `to` lie in picture i
  in-picture : (done to i : ℕ) → 0 < w * h → i ≡ (at + done) / (w * h) → done ≤ to → at + to ≤ (i + 1) * (w * h) →
      at + done < n * (w * h) → take (to - done) (drop done rest) ≡ replicate (to - done) (shade d i)
  unfolding rest busiest_luma
  in-picture done to i some e up most low =
      let size = w * h in
      let r = (at + done) % size in
      let place : at + done ≡ i * size + r = rw e (sym (div-add-mod' (at + done) size)) in
      let below : (at + done) / size < n = (div-lt_iff_lt-mul some).1 low in
      let inside : i < n = rw e below in
      let next : (i + 1) * size ≡ size + i * size = omega (arith, suc-mul i size) in
      let first : 0 + i ≡ i = omega arith in
      ap (take (to - done)) (drop-drop done at (busiest_luma w h d n))
      ∙ rw place (rw first at (within size (shade d) i n 0 r (to - done) inside (omega arith)))

  pub filled_more : (done to i : ℕ) (now after : List ℕ) → 0 < w * h → i ≡ (at + done) / (w * h) → done ≤ to →
      at + to ≤ (i + 1) * (w * h) → at + done < n * (w * h) → done ≤ length before → Filled done now →
      after ≡ written done (replicate (to - done) (shade d i)) now → Filled to after
  unfolding Filled
  filled_more done to i now after some e up most low fits f made =
      let long : length (take done rest) ≡ done = length-take-le done rest (omega (arith, rest-length)) in
      let all : done + (to - done) ≡ to = omega arith in
      let own = in-picture done to i some e up most low in
      let parts : take to rest ≡ take done rest ++ replicate (to - done) (shade d i) =
      rw all at (take-add done (to - done) rest) ∙ rw own in
      made
      ∙ ap (written done (replicate (to - done) (shade d i))) f
      ∙ behind (take done rest) (replicate (to - done) (shade d i)) before done long fits
      ∙ rw parts

  -- how many bytes there are to write
  abbrev pub end : ℕ
  end = smaller (n * (w * h) - at) (length before)

  end-part : take end rest ≡ busiest_part w h d n at (length before)
  unfolding rest busiest_part
  end-part = go (dec_le (n * (w * h) - at) (length before))
    where
      left : ℕ
      left = n * (w * h) - at

      go : Dec (left ≤ length before) → take (smaller left (length before)) rest ≡ take (length before) rest
      go (yes k) =
          let short : length rest ≤ left = omega (arith, rest-length) in
          let room : length rest ≤ length before = omega (arith, rest-length) in
          rw (le-leb left (length before) k) (take_all left rest short ∙ sym (take_all (length before) rest room))
      go (no k) = rw (lt-leb left (length before) (omega arith))

  pub end-length : end ≡ length (busiest_part w h d n at (length before))
  end-length =
      let left = n * (w * h) - at in
      let short : end ≤ left = omega (arith, smaller-min left (length before)) in
      sym (rw end-part at (length-take-le end rest (omega (arith, rest-length))))

  pub filled-all : (after : List ℕ) → Filled end after →
      after ≡ over (busiest_part w h d n at (length before)) before
  unfolding Filled
  filled-all after f = f ∙ rw end-part

  -- nothing of the luma is left there
  pub none_left : n * (w * h) ≤ at → busiest_part w h d n at (length before) ≡ []
  unfolding busiest_part rest
  none_left past =
      let gone : rest ≡ [] = drop_of_length-le (busiest_luma w h d n) {i = at} (omega (arith, luma-length w h d n)) in
      rw gone (take-nil (length before))

-- ---- pieces laid end to end

pieces : (l : List ℕ) (size k from : ℕ) →
    end_to_end (table k from (λ i. take size (drop (i * size) l))) ≡ take (k * size) (drop (from * size) l)
unfolding end_to_end table
pieces l size zero from = rw (zero-mul size)
pieces l size (suc k) from =
    let all : suc k * size ≡ size + k * size = omega (arith, suc-mul k size) in
    let next : suc from * size ≡ from * size + size = omega (arith, suc-mul from size) in
    let s = drop (from * size) l in
    let behind : drop size s ≡ drop (suc from * size) l = drop-drop size (from * size) l ∙ rw next in
    rw (all, take-add size (k * size) s, behind, pieces l size k (suc from))

pub in_pieces : InPieces
unfolding busiest_part
in_pieces w h d n ok =
    let p = all-passed w h d n ok in
    let whole = luma-most w h n p.0 p.1 in
    let l = busiest_luma w h d n in
    pieces l 65536 23907 0 ∙ take_all (23907 * 65536) l (omega (arith, luma-length w h d n))
