-- The end of a picture. No code.
use Rattle.std.proofs.Common.{◌≡◌, ℕ, ◌+◌, ◌-◌, ◌*◌, ◌%◌, ◌^◌, ◌<◌, ◌≤◌, Bool, true, false, not, eqb, ◌⊎◌, List, []}
use Rattle.std.proofs.Common.{◌∷◌, ◌++◌, map, length, get_or, take, sym, refl, ap, ◌∙◌, append-nil, mul_comm, add-mul}
use Rattle.std.proofs.Common.{zero-mul, arith, length-append, get_or-take}
use native.Mathlib.Nat.{one-le-mul}
use native.Mathlib.Decide.{ℕ_discrete}
use Rattle.rules.specs.declared.Opening.{Opening}
use Rattle.rules.specs.Bytes.{pick, parts, count, empty, and, Bytes}
use Rattle.rules.specs.Editions.{rounds_to_nearest}
use Rattle.rules.specs.Opening.{side, columns, lines}
use Rattle.rules.specs.Pictures.{picture_size, pixels}
use Rattle.rules.specs.Changes.{repeats}
use Rattle.luma_laws.proofs.Pictures.{pixels-small, pixels-length}
use Rattle.luma_laws.specs.Past.{previous, next_repeat}
use Rattle.luma_laws.proofs.Past.{get_or-last, get_or-other, reduced-more, previous-more, previous-at, fresh-more}
use Rattle.luma_blocks.specs.Pixels.{RowsOf}
use Rattle.luma_blocks.proofs.Drawn.{picture-whole}
use Rattle.luma_tiles.specs.Bins.{Counts, Cleared}
use Rattle.luma_changes.specs.Figures.{Figures}
use Rattle.luma_state.specs.declared.Grid.{Grid}
use Rattle.luma_state.specs.declared.Progress.{Progress}
use Rattle.luma_picture.specs.declared.Settled.{Settled}
use Rattle.luma_state.specs.State.{slot, opening_in, moves_in, Words, Ring, Drawn, drawing, Live}
use Rattle.luma_rows.proofs.Rows.{bytes-right, at-passing, elsewhere, apart}
use Rattle.luma_picture.specs.Contract.{again_of, ChangeOf, ScoreOf, noted, next_picture, AtPictureEnd}
use Rattle.luma_picture.specs.Contract.{PictureEnded}
use Rattle.luma_picture.proofs.Notes.{Whole, each-px, score-is, kept-is, change-is, again-is, words_more}
use Rattle.luma_state.proofs.Opens.{still}

pub bytes_left : (s t : List ℕ) → Bytes (s ++ t) → Bytes s
bytes_left [] t h = empty
bytes_left (b ∷ s) t (and k h) = and k (bytes_left s t h)

-- ---- of a live state at a picture's end

module _ (g : Grid) (s : Progress) {o : Opening} {luma sums bins picture joined : List ℕ} (at : AtPictureEnd g s)
    (v : Live g o s luma sums bins picture joined) where
  wide : g.columns ≡ columns o
  wide = ap (λ (x : Grid). x.columns) v.grid

  high : g.lines ≡ lines o
  high = ap (λ (x : Grid). x.lines) v.grid

  small-whole : Bytes v.whole
  small-whole = bytes_left v.whole v.cur (rw v.split at v.bytes)

  small-cur : Bytes v.cur
  small-cur = bytes-right v.whole v.cur (rw v.split at v.bytes)

  ends : length v.cur ≡ picture_size o
  ends =
      let p = at-passing at.line v.place in
      let b : g.bytes ≡ picture_size o = ap (λ (x : Grid). x.bytes) v.grid in
      omega (arith, p.ends, at.left)

  -- the pixels that are done are the picture's
  drawn-is : take (s.line * g.columns) picture ≡ pixels o v.cur
  drawn-is =
      let a : g.width ≡ o.width = ap (λ (x : Grid). x.width) v.grid in
      let b : g.side ≡ side o = ap (λ (x : Grid). x.side) v.grid in
      let rows : RowsOf o.width (side o) (columns o) (lines o) v.cur picture =
      rw (at.line, a, b, wide, high) at v.drawn.rows in
      let room : lines o * columns o ≤ 14104 = rw (← wide, ← high) (omega (arith, at.fits.room)) in
      rw (at.line, high, wide) (picture-whole o v.cur [] rows room ∙ ap (pixels o) (append-nil v.cur))

  size_is : length (pixels o v.cur) ≡ g.lines * g.columns
  size_is = pixels-length o v.cur ∙ mul_comm (columns o) (lines o) ∙ rw (wide, high) refl

  each : (j : ℕ) → j < length v.pxs → Whole o (get_or v.pxs j [])
  each j h = each-px o v.pxs v.whole v.reduced small-whole j h

  before : 0 < length v.pxs → Bytes (previous v.pxs) × (length (previous v.pxs) ≡ length (pixels o v.cur))
  before h =
      let e = each (length v.pxs - 1) (omega arith) in
      rw (previous-at v.pxs h) (e.small, e.size ∙ sym (pixels-length o v.cur))

  moved : Figures (previous v.pxs) (pixels o v.cur) (moves_in s)
  moved = rw drawn-is at v.drawn.moves

  counted : Counts (columns o) (lines o) (slot (length v.pxs)) (pixels o v.cur) bins
  counted = rw (drawn-is, wide, high) at v.drawn.counts

  some-pixels : 1 ≤ g.lines * g.columns
  some-pixels =
      let a : 1 ≤ g.lines = omega (arith, at.fits.high) in
      let b : 1 ≤ g.columns = omega (arith, at.fits.wide) in
      one-le-mul a b

  again-as : again_of s ≡ pick (next_repeat v.pxs (pixels o v.cur)) 1 0
  again-as = again-is o g s (pixels o v.cur) size_is some-pixels at.fits.room
      (pixels-small o v.cur small-cur) v.pxs v.pictures moved before

  -- the words name the edition
  edition-is : (opening_in luma).edition ≡ o.edition
  edition-is = ap (λ (x : Opening). x.edition) v.words.opening

  noted-words : {q : ℕ} {t : Settled} → ChangeOf g s (rounds_to_nearest (opening_in luma).edition) q →
      ScoreOf bins s.pictures (get_or luma 17 0) t →
      Words o (v.pxs ++ pixels o v.cur ∷ []) (noted luma s.pictures q (again_of s) t.score t.kept)
  noted-words c t =
      let last : length (pixels o v.cur) < 2 ^ 32 = omega (arith, size_is, at.fits.room) in
      let few : (j : ℕ) → j < length v.pxs → length (get_or v.pxs j []) < 2 ^ 32 =
      λ j h. omega (arith, (each j h).size, pixels-length o v.cur) in
      let ring : (j : ℕ) → j < length v.pxs → length v.pxs ≤ j + 4 →
      Counts (columns o) (lines o) (slot j) (get_or v.pxs j []) bins =
      λ j h k. rw (wide, high) at (v.ring j h k) in
      let here : Counts (columns o) (lines o) (slot s.pictures) (pixels o v.cur) bins =
      rw v.pictures counted in
      words_more o v.pxs (pixels o v.cur) v.pictures at.more v.words
      (change-is o g s (pixels o v.cur) size_is some-pixels at.fits.room (pixels-small o v.cur small-cur)
      (rounds_to_nearest o.edition) v.pxs _ v.pictures (rw edition-is at c) moved before)
      again-as
      (score-is o v.pxs (pixels o v.cur) t v.pictures ring here few last v.words.kept)
      (kept-is o v.pxs (pixels o v.cur) t v.pictures ring here few last)

  next_drawn : {bins' : List ℕ} → Cleared (slot (s.pictures + 1)) bins bins' →
      Drawn g (next_picture s (again_of s)) (v.pxs ++ pixels o v.cur ∷ []) [] bins' picture
  next_drawn {bins'} c =
      let n : s.pictures + 1 ≡ length (v.pxs ++ pixels o v.cur ∷ []) =
      omega (arith, length-append v.pxs (pixels o v.cur ∷ []), v.pictures) in
      record {
        rows = record { size = v.drawn.rows.size; each = λ r k h l t. absurd (omega arith) };
        rest =
            λ q a b.
            let l : q < s.line * g.columns = rw at.line b in
            rw (previous-more v.pxs (pixels o v.cur))
            (sym (get_or-take (s.line * g.columns) picture q 0 l) ∙ ap (λ (x : List ℕ). get_or x q 0) drawn-is);
        counts = rw (zero-mul g.columns, ← n) (c.none v.drawn.counts.size g.columns g.lines);
        moves = rw (zero-mul g.columns)
            (still (previous (v.pxs ++ pixels o v.cur ∷ [])) (next_picture s (again_of s)) refl refl refl);
      }

  next-ring : {bins' : List ℕ} → Cleared (slot (s.pictures + 1)) bins bins' →
      Ring g (v.pxs ++ pixels o v.cur ∷ []) bins'
  next-ring {bins'} c j h k = go (ℕ_discrete j (length v.pxs))
    where
      long : length (v.pxs ++ pixels o v.cur ∷ []) ≡ s.pictures + 1
      long = length-append v.pxs (pixels o v.cur ∷ []) ∙ omega (arith, v.pictures)

      away : (slot (s.pictures + 1) + 144 ≤ slot j) ⊎ (slot j + 144 ≤ slot (s.pictures + 1))
      away = apart j (s.pictures + 1) (omega (arith, long)) (omega (arith, long))

      go : Dec (j ≡ length v.pxs) →
          Counts g.columns g.lines (slot j) (get_or (v.pxs ++ pixels o v.cur ∷ []) j []) bins'
      go (yes e) =
          elsewhere c.kept away
          (rw (e, get_or-last v.pxs (pixels o v.cur) [], wide, high) counted)
      go (no e) =
          elsewhere c.kept away
          (rw (get_or-other v.pxs (pixels o v.cur) [] j e)
          (v.ring j (omega (arith, long, v.pictures, e)) (omega (arith, long, v.pictures))))

  pub next-live : {luma' bins' : List ℕ} {q : ℕ} {t : Settled} →
      ChangeOf g s (rounds_to_nearest (opening_in luma).edition) q →
      ScoreOf bins s.pictures (get_or luma 17 0) t →
      luma' ≡ noted luma s.pictures q (again_of s) t.score t.kept →
      Cleared (slot (s.pictures + 1)) bins bins' →
      Live g o (next_picture s (again_of s)) luma' sums bins' picture (joined ++ [])
  next-live {luma'} {bins'} {q} {t} change scored words cleared =
      let px = pixels o v.cur in
      let long : length (v.pxs ++ px ∷ []) ≡ length v.pxs + 1 = length-append v.pxs (px ∷ []) in
      let p = at-passing at.line v.place in
      rw (append-nil joined)
      (record {
        whole = v.whole ++ v.cur;
        cur = [];
        pxs = v.pxs ++ px ∷ [];
        grid = v.grid;
        split = v.split ∙ sym (append-nil (v.whole ++ v.cur));
        full = rw long (omega (
          arith,
          length-append v.whole v.cur,
          v.full,
          ends,
          add-mul (length v.pxs) 1 (picture_size o),
        ));
        reduced =
            ap (λ (x : List (List ℕ)). x ++ px ∷ []) v.reduced
            ∙ sym (reduced-more o (length v.pxs) v.whole v.cur v.full ends)
            ∙ ap (λ (n : ℕ). map (pixels o) (parts n (picture_size o) (v.whole ++ v.cur))) (sym long);
        few = omega (arith, long, v.pictures, at.more);
        room = λ e. refl;
        bytes = v.bytes;
        status = v.status;
        fed = v.fed;
        pictures = omega (arith, long, v.pictures);
        fresh = unrepeated (next_repeat v.pxs px) (count not (repeats v.pxs))
            (count not (repeats (v.pxs ++ px ∷ []))) (again_of s) s.fresh again-as (fresh-more v.pxs px)
            v.fresh;
        words = rw words (noted-words change scored);
        ring = next-ring cleared;
        drawn = next_drawn cleared;
        place = drawing (omega (arith, at.fits.high)) (rw (zero-mul g.side, zero-mul g.width) refl) p.clear;
      })
    where
      unrepeated : (b : Bool) (old new a x : ℕ) → a ≡ pick b 1 0 → new ≡ old + pick b 0 1 → x ≡ old % 2 ^ 64 →
          (x + (1 - a)) % 2 ^ 64 ≡ new % 2 ^ 64
      unrepeated true old new a x e f h = omega arith
      unrepeated false old new a x e f h = omega arith

pub picture-ended : (g : Grid) (s : Progress) {luma bins luma' bins' : List ℕ} {r : Progress} {q : ℕ} {t : Settled} →
    AtPictureEnd g s → ChangeOf g s (rounds_to_nearest (opening_in luma).edition) q →
    ScoreOf bins s.pictures (get_or luma 17 0) t →
    luma' ≡ noted luma s.pictures q (again_of s) t.score t.kept → Cleared (slot (s.pictures + 1)) bins bins' →
    r ≡ next_picture s (again_of s) →
    PictureEnded g s luma bins r luma' bins'
picture-ended g s at change scored words cleared e =
    record { is = e; goes = λ sums picture o joined v. rw e (next-live g s at v change scored words cleared) }

pub again-small : (s : Progress) → again_of s ≤ 1
again-small s = go (eqb s.pictures 0) (eqb (s.squares % 2 ^ 32) 0)
  where
    go : (a b : Bool) → pick a 0 (pick b 1 0) ≤ 1
    go true b = omega arith
    go false true = omega arith
    go false false = omega arith
