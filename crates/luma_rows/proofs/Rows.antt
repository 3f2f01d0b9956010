-- A block row of the current picture, and its end. No code.
use Rattle.std.proofs.Common.{take_all, get_or-drop}
use Rattle.std.proofs.Common.{◌≡◌, ℕ, suc, ◌+◌, ◌*◌, ◌/◌, ◌%◌, ◌^◌, ◌<◌, ◌≤◌, ◌⊎◌, List, [], ◌∷◌, ◌++◌, length}
use Rattle.std.proofs.Common.{get_or, take, drop, sym, refl, ap, ◌∙◌, inl, inr, append_assoc, append-nil}
use Rattle.std.proofs.Common.{add-zero, mul-le-mul_right, mod-lt, div-lt_iff_lt-mul, add-mul, mul-pos, lt_of_not-le}
use Rattle.std.proofs.Common.{div-add-mod', arith, length-append, length-take-le}
use Rattle.std.proofs.Common.{get_or-take, ext_get_or, take-add}
use native.Mathlib.Decide.{dec_le}
use Rattle.rules.specs.declared.Opening.{Opening}
use Rattle.rules.specs.Bytes.{empty, and, Bytes}
use Rattle.luma_laws.proofs.Pictures.{bytes-append, bytes_take}
use Rattle.luma_laws.proofs.Blocks.{earlier}
use Rattle.luma_laws.specs.Past.{previous}
use Rattle.luma_blocks.specs.declared.Spot.{Spot}
use Rattle.luma_blocks.specs.Rows.{SumsOf, FedRows}
use Rattle.luma_blocks.specs.Pixels.{RowsOf, RowDone}
use Rattle.luma_tiles.specs.Bins.{Counts, Kept, CountedRow}
use Rattle.luma_changes.specs.declared.sums.Moves.{Moves}
use Rattle.luma_changes.specs.Figures.{Figures, Compared}
use Rattle.luma_state.specs.declared.Grid.{Grid}
use Rattle.luma_state.specs.declared.Progress.{Progress}
use Rattle.luma_state.specs.State.{moves_in, slot, Drawn, Place, drawing, passing, Live, Fits}
use Rattle.luma_rows.specs.Contract.{Keeps, moved_to, next_row, AtRowEnd, RowEnded, Took, Taking}

-- ---- pixels compared by slices

pub of_slices : {kept made xs ys : List ℕ} {m r : Moves} (a b k : ℕ) → xs ≡ take k (drop a kept) →
    ys ≡ take k (drop b made) → length ys ≡ k → Compared xs 0 ys 0 (length ys) m r → Compared kept a made b k m r
of_slices {kept} {made} {xs} {ys} {m} {r} a b k ex ey l f =
    record {
      more = λ old p e s.
          let all : take (length ys) (drop 0 ys) ≡ take k (drop b made) =
          take_all (length ys) ys (omega arith) ∙ ey in
          let at : (j : ℕ) → j < length ys → get_or old (length p + j) 0 ≡ get_or xs (0 + j) 0 =
          λ j h.
          let here : 0 + j ≡ j = omega arith in
          rw (here, ex, get_or-take k (drop a kept) j 0 (omega arith), get_or-drop a kept j 0) (e j (omega arith)) in
          rw all at (f.more old p at s);
    }

-- ---- bytes

pub bytes-right : (s t : List ℕ) → Bytes (s ++ t) → Bytes t
bytes-right [] t h = h
bytes-right (b ∷ s) t (and k h) = bytes-right s t h

-- ---- the place

pub at-drawing : {g : Grid} {s : Progress} {cur sums : List ℕ} → s.line < g.lines → Place g s cur sums →
    (length cur ≡ (s.line * g.side + s.row) * g.width + s.col)
    × SumsOf g.width g.side g.columns s.line cur sums
at-drawing h (drawing a b c) = (b, c)
at-drawing h (passing a b c d) = absurd (omega arith)

pub record Passing (g : Grid) (s : Progress) (cur sums : List ℕ) : Type 0 where
  pub ends : length cur + s.left ≡ g.bytes
  pub some : 0 < length cur
  pub clear : SumsOf g.width g.side g.columns 0 [] sums

pub at-passing : {g : Grid} {s : Progress} {cur sums : List ℕ} → s.line ≡ g.lines → Place g s cur sums →
    Passing g s cur sums
at-passing h (drawing a b c) = absurd (omega arith)
at-passing h (passing a b c d) = record { ends = b; some = c; clear = d }

-- ---- the pixels that are done

same-below : {W n w b e : ℕ} {p m out : List ℕ} → 0 < w → b ≤ e → RowsOf W n w b p m → RowsOf W n w e p out →
    (q : ℕ) →
    q < b * w → get_or out q 0 ≡ get_or m q 0
same-below {W} {n} {w} {b} {e} {p} {m} {out} hw h x y q l =
    let r : q / w < b = (div-lt_iff_lt-mul hw).1 l in
    let c : q % w < w = mod-lt q hw in
    let here : q / w * w + q % w ≡ q = div-add-mod' q w in
    ap (λ (i : ℕ). get_or out i 0) (sym here)
    ∙ y.each (q / w) (q % w) (omega arith) c []
    ∙ sym (x.each (q / w) (q % w) r c [])
    ∙ ap (λ (i : ℕ). get_or m i 0) here

-- a row more
take_row : {W n w b : ℕ} {p m out : List ℕ} → 0 < w → b * w + w ≤ 14104 → RowsOf W n w b p m →
    RowsOf W n w (b + 1) p out →
    take ((b + 1) * w) out ≡ take (b * w) m ++ take w (drop (b * w) out)
take_row {W} {n} {w} {b} {p} {m} {out} hw k x y =
    let e : (b + 1) * w ≡ b * w + w = omega (arith, add-mul b 1 w) in
    let a : length (take (b * w) out) ≡ b * w = length-take-le (b * w) out (omega (arith, y.size)) in
    let z : length (take (b * w) m) ≡ b * w = length-take-le (b * w) m (omega (arith, x.size)) in
    let same : take (b * w) out ≡ take (b * w) m =
    ext_get_or 0 (take (b * w) out) (take (b * w) m) (a ∙ sym z)
    (λ i l.
    let low : i < b * w = omega arith in
    rw (get_or-take (b * w) out i 0 low, get_or-take (b * w) m i 0 low) (same-below hw (omega arith) x y i low)) in
    rw (e, take-add (b * w) w out, same)

-- ---- the ring

-- counts elsewhere in the ring stay
pub elsewhere : {w h base other : ℕ} {p a z : List ℕ} → Kept base a z → (base + 144 ≤ other) ⊎ (other + 144 ≤ base) →
    Counts w h other p a → Counts w h other p z
elsewhere {w} {h} {base} {other} {p} {a} {z} k (inl f) c =
    record {
      size = k.size ∙ c.size;
      each = λ t b ht hb. rw (k.high (other + (16 * t + b)) (omega arith)) (c.each t b ht hb);
    }
elsewhere {w} {h} {base} {other} {p} {a} {z} k (inr f) c =
    record {
      size = k.size ∙ c.size;
      each = λ t b ht hb. rw (k.low (other + (16 * t + b)) (omega arith)) (c.each t b ht hb);
    }

-- two of five neighbouring pictures have their own slots
pub apart : (i j : ℕ) → i < j → j ≤ i + 4 → (slot j + 144 ≤ slot i) ⊎ (slot i + 144 ≤ slot j)
apart i j h k = elim (dec_le (i % 5) (j % 5)) [
  | yes l ↦ inr (omega arith)
  | no l ↦ inl (omega (arith, lt_of_not-le l))
]

-- ---- the end of a block row

pub figures-in : {old p : List ℕ} (s : Progress) {m : Moves} →
    (m.up ≡ s.ups % 2 ^ 32) × (m.down ≡ s.downs % 2 ^ 32) × (m.squares ≡ s.squares % 2 ^ 32) →
    Figures old p (moves_in s) → Figures old p m
figures-in s e f = record {
  up = omega (arith, e.0, f.up);
  down = omega (arith, e.1, f.down);
  both = omega (arith, e.2, f.both);
}

pub line-room : (g : Grid) (r : ℕ) → r < g.lines → r * g.columns + g.columns ≤ g.lines * g.columns
line-room g r h =
    let up : r + 1 ≤ g.lines = omega arith in
    omega (arith, add-mul r 1 g.columns, mul-le-mul_right g.columns up)

pub row_room : (g : Grid) (s : Progress) → s.line < g.lines →
    s.line * g.columns + g.columns ≤ g.lines * g.columns
row_room g s h = line-room g s.line h

module _ (g : Grid) (s : Progress) {sums bins picture before kept sums' bins' picture' : List ℕ} {m₀ m : Moves}
    (fits : Fits g) (line : s.line < g.lines)
    (row : s.row ≡ g.side) (col : s.col ≡ 0) (fresh : length before ≡ 240)
    (keeps : Keeps (s.line * g.columns) g.columns picture before kept)
    (done : RowDone g.side g.columns s.line picture sums picture' sums')
    (counted : CountedRow g.columns g.lines s.line (slot s.pictures) picture' bins bins')
    (start : (m₀.up ≡ s.ups % 2 ^ 32) × (m₀.down ≡ s.downs % 2 ^ 32) × (m₀.squares ≡ s.squares % 2 ^ 32))
    (compared : Compared kept 0 picture' (s.line * g.columns) g.columns m₀ m) where
  row-drawn : (pxs : List (List ℕ)) (cur : List ℕ) → s.pictures ≡ length pxs → Bytes cur →
      length cur ≡ (s.line * g.side + s.row) * g.width + s.col →
      SumsOf g.width g.side g.columns s.line cur sums → Drawn g s pxs cur bins picture →
      Drawn g (next_row g s 1 m) pxs cur bins' picture'
  row-drawn pxs cur number small long sum d =
      let b = s.line in
      let n = g.columns in
      let some : 0 < n = omega (arith, fits.wide) in
      let base = s.line * g.columns in
      let whole : length cur ≡ (s.line * g.side + g.side) * g.width = rw (row, col, add-zero) at long in
      let rows = done.drawn g.width cur (omega (arith, fits.least)) whole small sum d.rows in
      let fill : base + n ≤ 14104 = omega (arith, row_room g s line, fits.room) in
      let more = take_row some fill d.rows rows in
      let size : length (take base picture) ≡ base = length-take-le base picture (omega (arith, d.rows.size)) in
      record {
        rows = rows;
        rest =
            λ q l k.
            let up : base + n ≤ q = omega (arith, add-mul b 1 n) in
            done.rest q up ∙ d.rest q (omega arith) k;
        counts = rw (more, ← number) (counted.more (take base picture) size (rw number d.counts));
        moves =
            rw more
            (compared.more (previous pxs) (take base picture)
            (λ j l.
            let to : base + j < g.lines * n = omega (arith, row_room g s line) in
            let here : 0 + j ≡ j = omega arith in
            rw (size, here) (sym (d.rest (base + j) (omega arith) to) ∙ sym (keeps.same fresh j l)))
            (figures-in s start d.moves));
      }

  row-place : (cur : List ℕ) → length cur ≡ (s.line * g.side + s.row) * g.width + s.col →
      SumsOf g.width g.side g.columns s.line cur sums →
      Place g (next_row g s 1 m) cur sums'
  row-place cur long sum = go (dec_le g.lines (s.line + 1))
    where
      wide : 0 < g.width
      wide = omega (arith, fits.least)

      whole : length cur ≡ (s.line * g.side + g.side) * g.width
      whole = rw (row, col, add-zero) at long

      next : SumsOf g.width g.side g.columns (s.line + 1) cur sums'
      next = done.next g.width cur wide whole sum

      rows : (s.line + 1) * g.side ≡ s.line * g.side + g.side
      rows = omega (arith, add-mul s.line 1 g.side)

      go : Dec (g.lines ≤ s.line + 1) → Place g (next_row g s 1 m) cur sums'
      go (no k) = drawing (lt_of_not-le k) (rw (rows, add-zero) (omega (arith, whole))) next
      go (yes k) =
          let last : s.line + 1 ≡ g.lines = omega arith in
          let all : g.lines * g.side ≡ s.line * g.side + g.side = rw (← last) rows in
          let full : length cur ≡ g.lines * g.side * g.width = rw all whole in
          let low : 0 < s.line * g.side + g.side = omega (arith, fits.some) in
          passing last (omega (arith, full, fits.rows)) (rw whole (mul-pos low wide))
          (record {
            size = next.size;
            each =
                λ c h.
                next.each c h
                ∙ ap (λ (x : ℕ). x % 2 ^ 32)
                (earlier g.width g.side (s.line + 1) c cur fits.some wide (rw rows (omega (arith, whole)))
                ∙ sym (earlier g.width g.side 0 c [] fits.some wide (omega arith)));
          })

  pub row-live : (o : Opening) (luma joined : List ℕ) → Live g o s luma sums bins picture joined →
      Live g o (next_row g s 1 m) luma sums' bins' picture' (joined ++ [])
  row-live o luma joined v =
      let p = at-drawing line v.place in
      let small : Bytes v.cur = bytes-right v.whole v.cur (rw v.split at v.bytes) in
      rw (append-nil joined)
      (record {
        whole = v.whole;
        cur = v.cur;
        pxs = v.pxs;
        grid = v.grid;
        split = v.split;
        full = v.full;
        reduced = v.reduced;
        few = v.few;
        room = v.room;
        bytes = v.bytes;
        status = v.status;
        fed = v.fed;
        pictures = v.pictures;
        fresh = v.fresh;
        words = v.words;
        ring =
            λ j a b. elsewhere (rw v.pictures at counted.kept) (apart j (length v.pxs) a b) (v.ring j a b);
        drawn = row-drawn v.pxs v.cur v.pictures small p.0 p.1 v.drawn;
        place = row-place v.cur p.0 p.1;
      })

  pub row-ended : (r : Progress) → r ≡ next_row g s 1 m → RowEnded g s sums bins picture r sums' bins' picture'
  row-ended r e = record { state = m; is = e; goes = λ luma o joined v. rw e (row-live o luma joined v) }

-- ---- bytes of a block row

pub bytes_of : (s : List ℕ) → ((i : ℕ) → get_or s i 0 < 256) → Bytes s
bytes_of [] h = empty
bytes_of (b ∷ s) h = and (h 0) (bytes_of s (λ i. h (suc i)))

-- where there is something to take in, something is
pub some-used : {W n w row col : ℕ} {rest a z : List ℕ} {p : Spot} → FedRows W n w row col rest a p z → row < n →
    col < W → 0 < length rest → 0 < p.used
some-used {W} {n} {w} {row} {col} {rest} {a} {z} {p} f h k l = elim (dec_le 1 p.used) [
  | yes y ↦ y
  | no y ↦
      let zero : p.used ≡ 0 = omega (arith, lt_of_not-le y) in
      let end : p.row ≡ n = f.all (omega arith) in
      let first : p.col ≡ 0 = f.going.stops end in
      let up : row + 1 ≤ n = omega arith in
      let place : n * W ≡ row * W + col = omega (arith, rw end at f.going.place) in
      absurd (omega (arith, add-mul row 1 W, mul-le-mul_right W up))
]

pub drew-live : {g : Grid} {o : Opening} {s : Progress} {luma sums bins picture joined rest sums' : List ℕ}
    {p : Spot} → s.line < g.lines → s.pictures < 750 →
    Bytes (take p.used rest) → FedRows g.width g.side g.columns s.row s.col rest sums p sums' →
    Live g o s luma sums bins picture joined →
    Live g o (moved_to s p.row p.col p.used) luma sums' bins picture (joined ++ take p.used rest)
drew-live {g} {o} {s} {luma} {sums} {bins} {picture} {joined} {rest} {sums'} {p} line more small f v =
    let chunk = take p.used rest in
    let size : length chunk ≡ p.used = length-take-le p.used rest f.going.used in
    let q = at-drawing line v.place in
    let long = length-append v.cur chunk in
    let b = s.line * g.side in
    record {
      whole = v.whole;
      cur = v.cur ++ chunk;
      pxs = v.pxs;
      grid = v.grid;
      split = rw v.split (append_assoc v.whole v.cur chunk);
      full = v.full;
      reduced = v.reduced;
      few = v.few;
      room = λ e. absurd (omega (arith, v.pictures));
      bytes = bytes-append joined chunk v.bytes small;
      status = v.status;
      fed = omega (arith, v.fed, length-append joined chunk, size);
      pictures = v.pictures;
      fresh = v.fresh;
      words = v.words;
      ring = v.ring;
      drawn = record {
        rows = record {
          size = v.drawn.rows.size;
          each = λ r c hr hc t. rw (append_assoc v.cur chunk t) (v.drawn.rows.each r c hr hc (chunk ++ t));
        };
        rest = v.drawn.rest;
        counts = v.drawn.counts;
        moves = v.drawn.moves;
      };
      place = drawing line
          (omega (
            arith,
            long,
            size,
            q.0,
            f.going.place,
            add-mul b p.row g.width,
            add-mul b s.row g.width,
          ))
          (f.going.sums s.line v.cur q.0 q.1);
    }

-- ---- what `draw` promises

pub at-row-end : (g : Grid) (s : Progress) {sums rest sums' : List ℕ} {p : Spot} → Taking g s rest →
    s.line < g.lines →
    FedRows g.width g.side g.columns s.row s.col rest sums p sums' → (t : Progress) →
    t ≡ moved_to s p.row p.col p.used → p.row ≡ g.side →
    AtRowEnd g t
at-row-end g s taking line f t e end =
    rw e (record { fits = taking.fits; few = taking.sane.few; line = line; row = end; col = f.going.stops end })

module _ (g : Grid) (s : Progress) {sums bins picture rest sums' : List ℕ} {p : Spot} (taking : Taking g s rest)
    (line : s.line < g.lines)
    (small : (i : ℕ) → get_or rest i 0 < 256)
    (f : FedRows g.width g.side g.columns s.row s.col rest sums p sums') where
  pub within-row : (t : Progress) → t ≡ moved_to s p.row p.col p.used → (p.row ≡ g.side → ⊥) →
      Took g s sums bins picture rest (record { used = p.used; state = t }) sums' bins picture
  within-row t e short =
      let fed = bytes_take p.used rest (bytes_of rest small) in
      rw e
      (record {
        some = some-used f (taking.sane.row line) (taking.sane.col line) taking.some;
        most = f.going.used;
        loose = record {
          few = taking.sane.few;
          line = taking.sane.line;
          row = λ h. omega (arith, f.going.below, short);
          col = λ h. f.going.left;
        };
        same = refl;
        goes = λ luma o joined v. drew-live line taking.more fed f v;
      })

  pub to-row-end : (t : Progress) {r : Progress} {bins' picture' sums'' : List ℕ} →
      t ≡ moved_to s p.row p.col p.used →
      RowEnded g t sums' bins picture r sums'' bins' picture' →
      Took g s sums bins picture rest (record { used = p.used; state = r }) sums'' bins' picture'
  to-row-end t {r} {bins'} {picture'} {sums''} e ended =
      let fed = bytes_take p.used rest (bytes_of rest small) in
      let at : r ≡ next_row g (moved_to s p.row p.col p.used) 1 ended.state =
      ended.is ∙ ap (λ (x : Progress). next_row g x 1 ended.state) e in
      record {
        some = some-used f (taking.sane.row line) (taking.sane.col line) taking.some;
        most = f.going.used;
        loose = rw at
            (record {
              few = taking.sane.few;
              line = omega arith;
              row = λ h. taking.fits.some;
              col = λ h. omega (arith, taking.fits.least);
            });
        same = ap (λ (x : Progress). x.pictures) at;
        goes = λ luma o joined v.
            rw append-nil
            at (ended.goes luma o (joined ++ take p.used rest) (rw e (drew-live line taking.more fed f v)));
      }
