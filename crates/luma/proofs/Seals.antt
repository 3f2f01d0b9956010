-- What a seal needs of the luma side: every figure is the rule's. No code.
use Rattle.std.proofs.Common.{◌≡◌, ℕ, ◌+◌, ◌*◌, ◌%◌, ◌^◌, ◌<◌, ◌≤◌, not, eqb, List, [], length, get_or, sym, ap, ◌∙◌}
use Rattle.std.proofs.Common.{mod-eq_of_lt, mul-pos, zero-mul, arith, length-append, eq-eqb, ne_eqb}
use native.Mathlib.Nat.{mul-add-mod_self_right}
use native.Mathlib.Decide.{ℕ_discrete}
use Rattle.rules.specs.declared.Opening.{Opening}
use Rattle.rules.specs.Bytes.{pick}
use Rattle.rules.specs.Refusals.{Fault, none, fault, ◌or_else◌}
use Rattle.rules.specs.Opening.{opening_fault}
use Rattle.rules.specs.Pictures.{picture_size, picture_count, luma_fault}
use Rattle.rules.specs.Histograms.{histograms}
use Rattle.rules.specs.Changes.{repeats}
use Rattle.rules.specs.Seal.{reduced, unrepeated, luma_unfinished}
use Rattle.luma_laws.proofs.Sizes.{good, sizes}
use Rattle.rules.proofs.Laws.Lists.{count-few}
use Rattle.luma_laws.proofs.Past.{count-whole, reduced-whole, length-repeats}
use Rattle.luma_cuts.specs.Counts.{tiles_at}
use Rattle.luma_state.specs.declared.Grid.{Grid}
use Rattle.luma_state.specs.declared.Progress.{Progress}
use Rattle.luma_state.specs.State.{loaded, slot, Place, drawing, passing, Stands, refused, live, Fits}
use Rattle.luma.specs.declared.Summary.{Summary}
use Rattle.luma.specs.Contract.{inside_of, Known, SummaryPost}
use Rattle.luma_picture.proofs.Notes.{each-px, tiles-are}
use Rattle.luma_picture.proofs.Ends.{bytes_left}
use Rattle.luma_state.proofs.Kept.{fits-of}
use Rattle.luma.proofs.Posts.{short, not-past, no_fault, Alive, alive}

-- ---- inside a picture or not

outside : (a b n w : ℕ) → a ≡ 0 → b ≡ 0 → (a * n + b) * w ≡ 0
outside a b n w e f = rw (e, f, zero-mul n) (zero-mul w)

within : (a b n w : ℕ) → 0 < a + b → 0 < n → 0 < w → 0 < (a * n + b) * w
within a b n w h k l = mul-pos (some (ℕ_discrete a 0)) l
  where
    some : Dec (a ≡ 0) → 0 < a * n + b
    some (yes e) = omega arith
    some (no e) = let p : 0 < a = omega (arith, e) in omega (arith, mul-pos p k)

inside_is : {g : Grid} {s : Progress} {cur sums : List ℕ} (f : Fault) → Fits g → Place g s cur sums →
    pick (eqb (length cur) 0) none f ≡ pick (inside_of s) f none
inside_is {g} {s} {cur} f fits (passing h e k c) =
    rw (ne_eqb (length cur) 0 (λ z. omega arith), ne_eqb s.line 0 (λ z. omega (arith, fits.high)))
inside_is {g} {s} {cur} f fits (drawing h e c) =
    go (ℕ_discrete s.line 0) (ℕ_discrete s.row 0) (ℕ_discrete s.col 0)
  where
    wide : 0 < g.width
    wide = omega (arith, fits.least)

    go : Dec (s.line ≡ 0) → Dec (s.row ≡ 0) → Dec (s.col ≡ 0) →
        pick (eqb (length cur) 0) none f ≡ pick (inside_of s) f none
    go (no a) b d =
        let p = within s.line s.row g.side g.width (omega (arith, a)) fits.some wide in
        rw (ne_eqb (length cur) 0 (λ z. omega (arith, e)), ne_eqb s.line 0 a)
    go (yes a) (no b) d =
        let p = within s.line s.row g.side g.width (omega (arith, b)) fits.some wide in
        rw (ne_eqb (length cur) 0 (λ z. omega (arith, e)), eq-eqb s.line 0 a, ne_eqb s.row 0 b)
    go (yes a) (yes b) (no d) =
        let p = outside s.line s.row g.side g.width a b in
        rw (
          ne_eqb (length cur) 0 (λ z. d (omega (arith, e))),
          eq-eqb s.line 0 a,
          eq-eqb s.row 0 b,
          ne_eqb s.col 0 d,
        )
    go (yes a) (yes b) (yes d) =
        let p = outside s.line s.row g.side g.width a b in
        rw (eq-eqb (length cur) 0 (omega (arith, e)), eq-eqb s.line 0 a, eq-eqb s.row 0 b, eq-eqb s.col 0 d)

-- ---- the figures of a live state

module _ (o : Opening) (s : Progress) {luma sums bins picture joined : List ℕ}
    (a : Alive s luma sums bins picture o joined) where
  less : length a.live.cur < picture_size o
  less = short (fits-of o a.good) a.sane a.live.place

  pub pictures-are : picture_count o joined ≡ length a.live.pxs
  pictures-are = rw a.live.split (count-whole o (length a.live.pxs) a.live.whole a.live.cur a.good
      a.live.full less a.live.few)

  pub reduced-are : reduced o joined ≡ a.live.pxs
  reduced-are =
      ap (reduced o) a.live.split
      ∙ reduced-whole o (length a.live.pxs) a.live.whole a.live.cur a.good a.live.full less
      a.live.few
      ∙ sym a.live.reduced

  fed-is : s.fed ≡ length joined
  fed-is =
      a.live.fed ∙ mod-eq_of_lt (omega (arith, not-past o a.good a.sane a.live, (fits-of o a.good).small))

  open_is : luma_unfinished o joined ≡ pick (inside_of s) (fault 13 (length joined)) none
  unfolding luma_unfinished
  open_is =
      let long : length joined ≡ length a.live.pxs * picture_size o + length a.live.cur =
      ap length a.live.split ∙ length-append a.live.whole a.live.cur
      ∙ ap (λ (n : ℕ). n + length a.live.cur) a.live.full in
      let rest : length joined % picture_size o ≡ length a.live.cur =
      ap (λ (n : ℕ). n % picture_size o) long
      ∙ mul-add-mod_self_right (length a.live.pxs) (picture_size o) (length a.live.cur) ∙ mod-eq_of_lt less in
      rw rest (inside_is (fault 13 (length joined)) (fits-of o a.good) a.live.place)

  fresh-is : s.fresh ≡ unrepeated o joined
  unfolding unrepeated
  fresh-is =
      rw reduced-are
      (a.live.fresh ∙ mod-eq_of_lt (omega (
        arith,
        count-few not (repeats a.live.pxs),
        length-repeats a.live.pxs,
        a.live.few,
      )))

  pub known : (r : Summary) → r.fed ≡ s.fed → r.inside ≡ inside_of s → r.pictures ≡ s.pictures →
      r.fresh ≡ s.fresh → Known luma o joined r
  known r ef ei ep er =
      record {
        opened = a.good;
        clear = no_fault o a.good a.sane a.live;
        bytes = a.live.bytes;
        fed = ef ∙ fed-is;
        inside = rw ei open_is;
        pictures = ep ∙ a.live.pictures ∙ sym pictures-are;
        fresh = er ∙ fresh-is;
        words = rw reduced-are a.live.words;
      }

  -- The ring has the rule's own histograms of the last four whole pictures. (Of each, every pixel adds one to one bin
  -- of one tile: the rules' laws, Tiles.)
  pub ring-is : ((i : ℕ) → get_or bins i 0 < 2 ^ 32) → (j : ℕ) → j < picture_count o joined →
      picture_count o joined ≤ j + 4 →
      tiles_at bins (slot j) ≡ histograms o (get_or (reduced o joined) j [])
  ring-is small j h k =
      let v = a.live in
      let n = pictures-are in
      let whole = bytes_left v.whole v.cur (rw v.split at v.bytes) in
      let e = each-px o v.pxs v.whole v.reduced whole j (omega arith) in
      let z = sizes o (good o a.good) in
      let few : length (get_or v.pxs j []) < 2 ^ 32 =
      omega (arith, e.size, native.Mathlib.Nat.mul-le-mul z.columns_high z.lines_high) in
      rw reduced-are (tiles-are o (slot j) (get_or v.pxs j []) (v.ring j (omega arith) (omega arith)) few small)

pub summarised : (luma : List ℕ) (s : Progress) (r : Summary) → s ≡ loaded luma → r.status ≡ s.status →
    r.place ≡ s.place → r.fed ≡ s.fed → r.inside ≡ inside_of s →
    r.pictures ≡ s.pictures → r.fresh ≡ s.fresh → SummaryPost luma r
summarised luma s r is es el ef ei ep er sums bins picture o joined h =
    record {
      refused = λ p. stands p h.stands;
      live = λ z. known o s (alive s is (sym es ∙ z) o joined h) r ef ei ep er;
    }
  where
    stands : 0 < r.status → Stands o (loaded luma) luma sums bins picture joined →
        opening_fault o or_else luma_fault o joined ≡ fault r.status r.place
    stands p (refused e k f) = rw (es, el, is) e
    stands p (live e sane v) = absurd (omega (arith, es, ap (λ (x : Progress). x.status) is, v.status))
