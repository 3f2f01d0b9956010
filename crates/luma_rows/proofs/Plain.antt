-- Whole rows of blocks of one byte: their bytes are the pixels, and the sums stand for nothing before them and behind
-- them. No code.
use Rattle.std.proofs.Common.{◌≡◌, ℕ, ◌+◌, ◌-◌, ◌*◌, ◌/◌, ◌%◌, ◌^◌, ◌<◌, ◌≤◌, List, [], ◌++◌, length, get_or, take}
use Rattle.std.proofs.Common.{drop, set, sym, refl, ap, ◌∙◌, append_assoc, append-nil, add-zero, mul-le-mul_right}
use Rattle.std.proofs.Common.{add-mul, mul-pos, one-mul, lt_of_not-le, div-add-mod', zero-mul, mul-one, arith}
use Rattle.std.proofs.Common.{length-append, length-drop, length-set, length-take, length-take-le, get_or-drop}
use Rattle.std.proofs.Common.{get_or-set_other, get_or-take, get_or-set_same, drop-cons, drop-drop, min}
use Rattle.std.proofs.Common.{get_or-append-add, ext_get_or, take-add, below_more, eq-eqb, ne_eqb}
use native.Mathlib.Decide.{dec_le, ℕ_discrete}
use lib.ListN.{get_or-append}
use Rattle.rules.specs.declared.Opening.{Opening}
use Rattle.rules.specs.Bytes.{tally}
use Rattle.luma_laws.specs.Past.{previous}
use Rattle.luma_laws.specs.Tallies.{in_block, block_tally}
use Rattle.luma_laws.proofs.Pictures.{bytes-append, bytes_take}
use Rattle.luma_laws.proofs.Tally.{tally-cut, tally-shift}
use Rattle.luma_laws.proofs.Blocks.{earlier, row_of, column-of}
use Rattle.luma_sums.specs.Sums.{run, in_column}
use Rattle.luma_blocks.specs.Rows.{SumsOf}
use Rattle.luma_blocks.specs.Pixels.{RowsOf}
use Rattle.luma_tiles.specs.Bins.{CountedRow}
use Rattle.luma_changes.specs.declared.sums.Moves.{Moves}
use Rattle.luma_changes.specs.Figures.{Compared}
use Rattle.luma_state.specs.declared.Grid.{Grid}
use Rattle.luma_state.specs.declared.Progress.{Progress}
use Rattle.luma_state.specs.State.{slot, Drawn, Place, drawing, passing, Live}
use Rattle.luma_rows.specs.Contract.{moved_to, next_row, Puts, AtPlainRows, CountedRows, PlainRows, Taking, Took}
use Rattle.luma_rows.proofs.Rows.{of_slices, at-drawing, bytes_of, elsewhere, apart, figures-in}

-- ---- the loops

pub puts_none : (base : ℕ) (rest a : List ℕ) → Puts base 0 rest a a
puts_none base rest a =
    record { size = refl; same = λ e j h. absurd (omega arith); low = λ q h. refl; high = λ q h. refl }

pub puts-more : {base j v : ℕ} {rest a b : List ℕ} → Puts base j rest a b → base + j < 14104 → v ≡ get_or rest j 0 →
    Puts base (j + 1) rest a (set b (base + j) v)
puts-more {base} {j} {v} {rest} {a} {b} f h e =
    record {
      size = length-set b (base + j) v ∙ f.size;
      same =
          λ z.
          below_more (λ (i : ℕ). get_or (set b (base + j) v) (base + i) 0 ≡ get_or rest i 0) j
          (λ i l. get_or-set_other b (base + j) (base + i) v 0 (λ m. omega arith) ∙ f.same z i l)
          (get_or-set_same b (base + j) v 0 (omega (arith, f.size)) ∙ e);
      low = λ q l. get_or-set_other b (base + j) q v 0 (λ m. omega arith) ∙ f.low q l;
      high = λ q l. get_or-set_other b (base + j) q v 0 (λ m. omega arith) ∙ f.high q (omega arith);
    }

-- t pixels more, after the first c
pub compared-on : {kept rest : List ℕ} {c t : ℕ} {m n r : Moves} → Compared kept 0 rest 0 c m n →
    Compared kept c rest c t n r → c ≤ length rest → Compared kept 0 rest 0 (c + t) m r
compared-on {kept} {rest} {c} {t} f g h =
    record {
      more = λ old p e s.
          let first = take c (drop 0 rest) in
          let q = p ++ first in
          let size : length first ≡ c = length-take-le c (drop 0 rest) (simp length-drop (omega arith)) in
          let here : length q ≡ length p + c = omega (arith, length-append p first) in
          let next : (j : ℕ) → j < t → get_or old (length q + j) 0 ≡ get_or kept (c + j) 0 =
          λ j l.
          let a : length q + j ≡ length p + (c + j) = omega arith in
          let b : 0 + (c + j) ≡ c + j = omega arith in
          rw a (e (c + j) (omega arith) ∙ ap (λ (x : ℕ). get_or kept x 0) b) in
          let z : 0 + c ≡ c = omega arith in
          rw (take-add c t (drop 0 rest), drop-drop c 0 rest, z, ← append_assoc p first (take t (drop c rest)))
          (g.more old q next (f.more old p (λ j l. e j (omega arith)) s));
    }

-- t pixels more, by their slices
pub compared-more : {kept rest : List ℕ} (c t : ℕ) {m n r : Moves} →
    Compared kept 0 rest 0 (min c (length rest)) m n → c + t ≤ length rest →
    Compared (take (c + t - c) (drop c kept)) 0 (take (c + t - c) (drop c rest)) 0
    (length (take (c + t - c) (drop c rest))) n r →
    Compared kept 0 rest 0 (c + t) m r
compared-more {kept} {rest} c t f l g =
    let long : c + t - c ≡ t = omega arith in
    let size : length (take (c + t - c) (drop c rest)) ≡ t = simp (length-take, length-drop) (omega arith) in
    let here : min c (length rest) ≡ c = omega arith in
    compared-on (rw here at f)
    (of_slices c c t (ap (λ n. take n (drop c kept)) long) (ap (λ n. take n (drop c rest)) long) size g)
    (omega arith)

pub counted_none : (w h r base : ℕ) (pixels a : List ℕ) → CountedRows w h r 0 base pixels a a
counted_none w h r base pixels a =
    record {
      kept = record { size = refl; low = λ i l. refl; high = λ i l. refl };
      more = λ size p e c. rw (zero-mul w, append-nil p) c;
    }

pub counted-more : {w h r i base : ℕ} {pixels a b z : List ℕ} → CountedRows w h r i base pixels a b →
    CountedRow w h (r + i) base pixels b z → (r + i) * w + w ≤ 14104 → CountedRows w h r (i + 1) base pixels a z
counted-more {w} {h} {r} {i} {base} {pixels} {a} {b} {z} f g k =
    record {
      kept = record {
        size = g.kept.size ∙ f.kept.size;
        low = λ j l. g.kept.low j l ∙ f.kept.low j l;
        high = λ j l. g.kept.high j l ∙ f.kept.high j l;
      };
      more = λ size p e c.
          let first = run pixels (r * w) (i * w) in
          let up : (i + 1) * w ≡ i * w + w = omega (arith, add-mul i 1 w) in
          let at : r * w + i * w ≡ (r + i) * w = sym (add-mul r i w) in
          let long : length first ≡ i * w =
          length-take-le (i * w) (drop (r * w) pixels) (simp length-drop (omega arith)) in
          rw (
            up,
            take-add (i * w) w (drop (r * w) pixels),
            drop-drop (i * w) (r * w) pixels,
            at,
            ← append_assoc p first (run pixels ((r + i) * w) w),
          )
          (g.more (p ++ first) (omega (arith, length-append p first)) (f.more size p e c));
    }

pub counted-one : {w h r base : ℕ} {pixels a z : List ℕ} → length pixels ≡ 14104 →
    CountedRows w h r 1 base pixels a z → CountedRow w h r base pixels a z
counted-one {w} size f = record { kept = f.kept; more = λ p e c. rw (one-mul w) at (f.more size p e c) }

-- ---- blocks of one byte

one_byte : (c : ℕ) (t : List ℕ) → c < length t → tally (in_column 1 c) 0 t ≡ get_or t c 0
unfolding tally
one_byte c t h =
    tally-cut 1 c (λ b. b) t (omega arith) ∙ rw (mul-one c, drop-cons t c 0 h) (omega arith)

-- the block in row r and column c is the byte at place r × W + c
alone : (W r c q b : ℕ) → c < W → in_block W 1 r c q b ≡ in_column 1 (r * W + c) q b
alone W r c q b h = go (ℕ_discrete q (r * W + c))
  where
    go : Dec (q ≡ r * W + c) → in_block W 1 r c q b ≡ in_column 1 (r * W + c) q b
    go (yes e) =
        let row : q / W ≡ r = ap (λ (x : ℕ). x / W) e ∙ row_of W r c h in
        let col : q % W ≡ c = ap (λ (x : ℕ). x % W) e ∙ column-of W r c h in
        rw (
          eq-eqb (q / W / 1) r (omega arith),
          eq-eqb (q % W / 1) c (omega arith),
          eq-eqb (q / 1) (r * W + c) (omega arith),
        )
    go (no n) = rw (ne_eqb (q / 1) (r * W + c) (λ e. n (omega arith))) (other (ℕ_discrete (q / W) r))
      where
        other : Dec (q / W ≡ r) → in_block W 1 r c q b ≡ 0
        other (no k) = rw (ne_eqb (q / W / 1) r (λ e. k (omega arith)))
        other (yes k) =
            let whole : q / W * W + q % W ≡ q = div-add-mod' q W in
            rw (
              eq-eqb (q / W / 1) r (omega arith),
              ne_eqb (q % W / 1) c (λ e. n (omega (arith, rw k at whole))),
            )

block-byte : (W r c : ℕ) (p : List ℕ) → c < W → r * W + c < length p → block_tally W 1 r c p ≡ get_or p (r * W + c) 0
block-byte W r c p h k =
    tally-shift (in_block W 1 r c) (in_column 1 (r * W + c)) 0 0 p (λ j b l. alone W r c (0 + j) b h)
    ∙ one_byte (r * W + c) p k

-- sums of nothing stand for every row that is to come
sums_on : {w b b' : ℕ} {p q sums : List ℕ} → 0 < w → length p ≤ b * 1 * w → length q ≤ b' * 1 * w →
    SumsOf w 1 w b p sums → SumsOf w 1 w b' q sums
sums_on {w} {b} {b'} {p} {q} some h k s =
    record {
      size = s.size;
      each = λ c l. s.each c l
          ∙ ap (λ (x : ℕ). x % 2 ^ 32)
          (earlier w 1 b c p (omega arith) some h ∙ sym (earlier w 1 b' c q (omega arith) some k));
    }

-- ---- the pixels

module _ (w b j : ℕ) (cur rest : List ℕ) {picture picture' : List ℕ} (long : length cur ≡ b * w)
    (there : j * w ≤ length rest) (fill : (b + j) * w ≤ 14104)
    (puts : Puts (b * w) (j * w) rest picture picture') where
  up : (b + j) * w ≡ b * w + j * w
  up = add-mul b j w

  new-pixel : (i c : ℕ) (t : List ℕ) → c < w → i < j →
      block_tally w 1 (b + i) c ((cur ++ take (j * w) rest) ++ t) ≡ get_or rest (i * w + c) 0
  new-pixel i c t hc hi =
      let chunk = take (j * w) rest in
      let size : length chunk ≡ j * w = length-take-le (j * w) rest there in
      let next : i + 1 ≤ j = omega arith in
      let k : i * w + c < j * w = omega (arith, add-mul i 1 w, mul-le-mul_right w next) in
      let at : (b + i) * w + c ≡ length cur + (i * w + c) = omega (arith, add-mul b i w) in
      let low : (b + i) * w + c < length (cur ++ chunk) = omega (arith, length-append cur chunk) in
      block-byte w (b + i) c ((cur ++ chunk) ++ t) hc (omega (arith, length-append (cur ++ chunk) t))
      ∙ get_or-append (cur ++ chunk) t 0 ((b + i) * w + c) low
      ∙ ap (λ (z : ℕ). get_or (cur ++ chunk) z 0) at
      ∙ get_or-append-add cur chunk (i * w + c) 0
      ∙ get_or-take (j * w) rest (i * w + c) 0 k

  rows-put : RowsOf w 1 w b cur picture → RowsOf w 1 w (b + j) (cur ++ take (j * w) rest) picture'
  rows-put rows =
      record {
        size = puts.size ∙ rows.size;
        each = λ r c hr hc t. go r c hr hc t (dec_le b r);
      }
    where
      go : (r c : ℕ) → r < b + j → c < w → (t : List ℕ) → Dec (b ≤ r) →
          get_or picture' (r * w + c) 0 ≡ block_tally w 1 r c ((cur ++ take (j * w) rest) ++ t) / (1 * 1)
      go r c hr hc t (no k) =
          let less : r < b = lt_of_not-le k in
          let next : r + 1 ≤ b = omega arith in
          puts.low (r * w + c) (omega (arith, add-mul r 1 w, mul-le-mul_right w next))
          ∙ rw (append_assoc cur (take (j * w) rest) t) (rows.each r c less hc (take (j * w) rest ++ t))
      go r c hr hc t (yes k) =
          let i = r - b in
          let e : r ≡ b + i = omega arith in
          let hi : i < j = omega arith in
          let next : i + 1 ≤ j = omega arith in
          let low : i * w + c < j * w = omega (arith, add-mul i 1 w, mul-le-mul_right w next) in
          let at : (b + i) * w + c ≡ b * w + (i * w + c) = omega (arith, add-mul b i w) in
          let pixel = new-pixel i c t hc hi in
          rw (e, at) (puts.same rows.size (i * w + c) low ∙ omega (arith, pixel))

  same_bytes : length picture ≡ 14104 → take (j * w) (drop (b * w) picture') ≡ take (j * w) (drop 0 rest)
  same_bytes full =
      let size : length picture' ≡ 14104 = puts.size ∙ full in
      let a : length (take (j * w) (drop (b * w) picture')) ≡ j * w =
      length-take-le (j * w) (drop (b * w) picture') (simp length-drop (omega arith)) in
      let z : length (take (j * w) (drop 0 rest)) ≡ j * w =
      length-take-le (j * w) (drop 0 rest) (simp length-drop (omega arith)) in
      ext_get_or 0 (take (j * w) (drop (b * w) picture')) (take (j * w) (drop 0 rest)) (a ∙ sym z)
      (λ i l.
      let low : i < j * w = omega arith in
      let e : 0 + i ≡ i = omega arith in
      rw (
        get_or-take (j * w) (drop (b * w) picture') i 0 low,
        get_or-take (j * w) (drop 0 rest) i 0 low,
        get_or-drop (b * w) picture' i 0,
        get_or-drop 0 rest i 0,
        e,
      ) (puts.same full i low))

  rows_more : length picture ≡ 14104 →
      take ((b + j) * w) picture' ≡ take (b * w) picture ++ take (j * w) (drop (b * w) picture')
  rows_more full =
      let size : length picture' ≡ 14104 = puts.size ∙ full in
      let a : length (take (b * w) picture') ≡ b * w = length-take-le (b * w) picture' (omega arith) in
      let z : length (take (b * w) picture) ≡ b * w = length-take-le (b * w) picture (omega arith) in
      let same : take (b * w) picture' ≡ take (b * w) picture =
      ext_get_or 0 (take (b * w) picture') (take (b * w) picture) (a ∙ sym z)
      (λ i l.
      let low : i < b * w = omega arith in
      rw (get_or-take (b * w) picture' i 0 low, get_or-take (b * w) picture i 0 low) (puts.low i low)) in
      rw (up, take-add (b * w) (j * w) picture', same)

-- ---- the state

pub rows-room : (g : Grid) (s : Progress) (rest : List ℕ) (j : ℕ) → AtPlainRows g s rest j →
    s.line * g.columns + j * g.columns ≤ 14101
rows-room g s rest j at =
    omega (arith, add-mul s.line j g.columns, mul-le-mul_right g.columns at.lines, at.fits.room)

module _ (g : Grid) (s : Progress) {j : ℕ} {bins picture rest bins' picture' : List ℕ} {m₀ m : Moves}
    (at : AtPlainRows g s rest j) (small : (i : ℕ) → get_or rest i 0 < 256)
    (start : (m₀.up ≡ s.ups % 2 ^ 32) × (m₀.down ≡ s.downs % 2 ^ 32) × (m₀.squares ≡ s.squares % 2 ^ 32))
    (compared : Compared picture (s.line * g.columns) rest 0 (j * g.columns) m₀ m)
    (puts : Puts (s.line * g.columns) (j * g.columns) rest picture picture')
    (counted : CountedRows g.columns g.lines s.line j (slot s.pictures) picture' bins bins') where
  some : 0 < g.columns
  some = omega (arith, at.fits.wide)

  inside : (s.line + j) * g.columns ≤ g.lines * g.columns
  inside = mul-le-mul_right g.columns at.lines

  -- the columns are the rows' bytes
  wide : (n : ℕ) → n * g.side * g.width ≡ n * g.columns
  wide n = rw (at.side, at.same, mul-one n)

  plain-drawn : (pxs : List (List ℕ)) (cur : List ℕ) → s.pictures ≡ length pxs →
      length cur ≡ s.line * g.columns → Drawn g s pxs cur bins picture →
      Drawn g (next_row g (moved_to s 0 0 (j * g.columns)) j m) pxs (cur ++ take (j * g.columns) rest) bins' picture'
  plain-drawn pxs cur number long d =
      let b = s.line in
      let w = g.columns in
      let both : (b + j) * w ≡ b * w + j * w = add-mul b j w in
      let full = d.rows.size in
      let fill : (b + j) * w ≤ 14104 = omega (arith, inside, at.fits.room) in
      let size : length (take (b * w) picture) ≡ b * w = length-take-le (b * w) picture (omega (arith, full)) in
      let more = rows_more w b j cur rest long at.there fill puts full in
      let same = same_bytes w b j cur rest long at.there fill puts full in
      record {
        rows = rw (at.same, at.side)
            (rows-put w b j cur rest long at.there fill puts (rw (at.same, at.side) at d.rows));
        rest = λ q l k. puts.high q (omega arith) ∙ d.rest q (omega arith) k;
        counts = rw (more, ← number)
            (counted.more (puts.size ∙ full) (take (b * w) picture) size (rw number d.counts));
        moves = rw (more, same)
            (compared.more (previous pxs) (take (b * w) picture)
            (λ i l.
            let to : b * w + i < g.lines * w = omega (arith, inside) in
            rw size (sym (d.rest (b * w + i) (omega arith) to)))
            (figures-in s start d.moves));
      }

  plain-place : (cur sums : List ℕ) → length cur ≡ s.line * g.columns →
      SumsOf g.width g.side g.columns s.line cur sums →
      Place g (next_row g (moved_to s 0 0 (j * g.columns)) j m) (cur ++ take (j * g.columns) rest) sums
  plain-place cur sums long sum = go (dec_le g.lines (s.line + j))
    where
      chunk : List ℕ
      chunk = take (j * g.columns) rest

      all : length (cur ++ take (j * g.columns) rest) ≡ (s.line + j) * g.columns
      all = omega (
        arith,
        length-append cur (take (j * g.columns) rest),
        length-take-le (j * g.columns) rest at.there,
        add-mul s.line j g.columns,
      )

      nothing : (b : ℕ) (q : List ℕ) → length q ≤ b * g.columns →
          SumsOf g.width g.side g.columns b q sums
      nothing b q h =
          let own : length cur ≤ s.line * 1 * g.columns = rw (mul-one s.line) (omega arith) in
          rw (at.same, at.side)
          (sums_on some own (rw (mul-one b) h) (rw (at.same, at.side) at sum))

      go : Dec (g.lines ≤ s.line + j) →
          Place g (next_row g (moved_to s 0 0 (j * g.columns)) j m) (cur ++ take (j * g.columns) rest) sums
      go (no k) =
          drawing (lt_of_not-le k) (omega (arith, all, wide (s.line + j), place (s.line + j)))
          (nothing (s.line + j) (cur ++ take (j * g.columns) rest) (omega (arith, all)))
        where
          place : (n : ℕ) → (n * g.side + 0) * g.width + 0 ≡ n * g.columns
          place n = rw (add-zero (n * g.side), add-zero (n * g.side * g.width)) (wide n)
      go (yes k) =
          let last : s.line + j ≡ g.lines = omega (arith, at.lines) in
          let full : length (cur ++ take (j * g.columns) rest) ≡ g.lines * g.columns = rw last at all in
          let low : 0 < g.lines = omega (arith, at.fits.high) in
          passing last (omega (arith, full, wide g.lines, at.fits.rows)) (rw full (mul-pos low some))
          (nothing 0 [] (omega arith))

  plain-live : (o : Opening) (luma sums joined : List ℕ) → Live g o s luma sums bins picture joined →
      Live g o (next_row g (moved_to s 0 0 (j * g.columns)) j m) luma sums bins' picture'
      (joined ++ take (j * g.columns) rest)
  plain-live o luma sums joined v =
      let chunk = take (j * g.columns) rest in
      let size : length chunk ≡ j * g.columns = length-take-le (j * g.columns) rest at.there in
      let line : s.line < g.lines = omega (arith, at.some, at.lines) in
      let p = at-drawing line v.place in
      let first : s.line * 1 + 0 ≡ s.line = omega arith in
      let long : length v.cur ≡ s.line * g.columns + 0 =
      rw (at.side, at.row, at.col, at.same, first) at p.0 in
      record {
        whole = v.whole;
        cur = v.cur ++ chunk;
        pxs = v.pxs;
        grid = v.grid;
        split = rw v.split (append_assoc v.whole v.cur chunk);
        full = v.full;
        reduced = v.reduced;
        few = v.few;
        room = λ e. absurd (omega (arith, v.pictures, at.more));
        bytes = bytes-append joined chunk v.bytes (bytes_take (j * g.columns) rest (bytes_of rest small));
        status = v.status;
        fed = omega (arith, v.fed, length-append joined chunk, size);
        pictures = v.pictures;
        fresh = v.fresh;
        words = v.words;
        ring = λ i a b.
            elsewhere (rw v.pictures at counted.kept) (apart i (length v.pxs) a b) (v.ring i a b);
        drawn = plain-drawn v.pxs v.cur v.pictures (omega arith) v.drawn;
        place = plain-place v.cur sums (omega arith) p.1;
      }

  pub plain_rows : (r : Progress) → r ≡ next_row g (moved_to s 0 0 (j * g.columns)) j m →
      PlainRows g s j bins picture rest r bins' picture'
  plain_rows r e = record { state = m; is = e; goes = λ luma sums o joined v. rw e (plain-live o luma sums joined v) }

-- what `draw` promises
pub took-plain : (g : Grid) (s : Progress) {j : ℕ} {sums bins picture rest bins' picture' : List ℕ} {r : Progress} →
    Taking g s rest → AtPlainRows g s rest j → PlainRows g s j bins picture rest r bins' picture' →
    Took g s sums bins picture rest (record { used = j * g.columns; state = r }) sums bins' picture'
took-plain g s {j} {sums} {bins} {picture} {rest} {bins'} {picture'} {r} taking at f =
    let wide : 0 < g.columns = omega (arith, at.fits.wide) in
    record {
      some = mul-pos at.some wide;
      most = at.there;
      loose = rw f.is
          (record {
            few = taking.sane.few;
            line = at.lines;
            row = λ h. at.fits.some;
            col = λ h. omega (arith, at.fits.least);
          });
      same = ap (λ (x : Progress). x.pictures) f.is;
      goes = λ luma. f.goes luma sums;
    }
