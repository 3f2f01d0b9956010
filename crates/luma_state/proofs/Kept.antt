-- The scalars in the words, and a place inside a picture. No code.
use Prim.Native.Nat.{ℕ, suc, ◌+◌, ◌/◌, ◌≤◌}
use native.Mathlib.Omega.{arith}
use native.Mathlib.Nat.{mul-le-mul, mul-le-mul_right, mul_comm, div-mul-le_self, div-le_self}
use mathlib.Core.Path.{◌≡◌, refl, ap, ◌∙◌}
use mathlib.Core.List.{List, [], ◌∷◌, ◌++◌}
use lib.ListN.{length, get_or, set, length-append, length-set}
use lib.Seq.{sets, sets-eq, get_or-set_other}
use Rattle.rules.specs.declared.Opening.{Opening}
use Rattle.rules.specs.Refusals.{none}
use Rattle.rules.specs.Opening.{opening_fault, side, columns, lines, pixel_count}
use Rattle.rules.specs.Pictures.{picture_size}
use Rattle.luma_laws.proofs.Blocks.{side-some}
use Rattle.rules.specs.Seal.{reduced}
use Rattle.luma_laws.proofs.Sizes.{good, sizes}
use Rattle.luma_laws.proofs.Columns.{boundary-is}
use Rattle.luma_laws.proofs.Full.{full-reduced}
use Rattle.luma_state.specs.declared.Grid.{Grid}
use Rattle.luma_state.specs.declared.Progress.{Progress}
use Rattle.luma_state.specs.State.{Holding, Full, Fits, loaded, opening_in, grid_of, Words, Live, Stands}
use Rattle.luma_state.specs.State.{refused, live, Means}
use Rattle.luma_state.specs.Contract.{Stored}

-- ---- the sizes of an opening that is not refused

pub fits-of : (o : Opening) → opening_fault o ≡ none → Fits (grid_of o)
unfolding pixel_count picture_size lines
fits-of o e =
    let g = good o e in
    let z = sizes o g in
    record {
      some = side-some o;
      few = z.side_high;
      wide = z.columns_low;
      narrow = z.columns_high;
      high = z.lines_low;
      low = z.lines_high;
      least = g.width_low;
      most = g.width_high;
      room = rw (mul_comm (o.height / side o) (columns o)) z.pixels_high;
      rows = rw (mul_comm o.width o.height) (mul-le-mul_right o.width (div-mul-le_self o.height (side o)));
      small = mul-le-mul g.width_high g.height_high;
      boundary = boundary-is 1 (columns o);
      boundary_2 = boundary-is 2 (columns o);
    }

-- of a refused opening too
pub columns-most : (o : Opening) → columns o ≤ o.width
unfolding columns
columns-most o = div-le_self o.width (side o)

-- ---- a place inside a picture

-- ---- the scalars in the words

sets-kept : (vs l : List ℕ) (i k : ℕ) → i + length vs ≤ k → get_or (sets l i vs) k 0 ≡ get_or l k 0
sets-kept [] l i k h = refl
sets-kept (v ∷ vs) l i k h =
    sets-kept vs (set l i v) (suc i) k (omega arith) ∙ get_or-set_other l i k v 0 (λ e. omega arith)

abbrev listed : Progress → List ℕ
listed s =
    s.status
    ∷ s.place
    ∷ s.fed
    ∷ s.pictures
    ∷ s.fresh
    ∷ s.line
    ∷ s.row
    ∷ s.col
    ∷ s.left
    ∷ s.ups
    ∷ s.downs
    ∷ s.squares
    ∷ []

pub stored : (w : List ℕ) (s : Progress) → Stored w s (sets w 0 (listed s))
stored w s =
    record {
      size = simp length-set;
      loads = λ e. ap loaded (sets-eq (listed s) w 0 (omega arith));
      kept = λ i h. sets-kept (listed s) w 0 i (omega arith);
    }

opening-kept : (w z : List ℕ) → ((i : ℕ) → 12 ≤ i → get_or z i 0 ≡ get_or w i 0) → opening_in z ≡ opening_in w
opening-kept w z k =
    rw (k 12 (omega arith), k 13 (omega arith), k 14 (omega arith), k 15 (omega arith), k 16 (omega arith))

words-kept : {o : Opening} {pxs : List (List ℕ)} {w z : List ℕ} → length z ≡ length w →
    ((i : ℕ) → 12 ≤ i → get_or z i 0 ≡ get_or w i 0) → Words o pxs w → Words o pxs z
words-kept {o} {pxs} {w} {z} n k h =
    record {
      size = n ∙ h.size;
      opening = opening-kept w z k ∙ h.opening;
      scores = λ i l. k (100 + i) (omega arith) ∙ h.scores i l;
      changes = λ i l. k (850 + i) (omega arith) ∙ h.changes i l;
      repeats = λ j l. k (64 + j) (omega arith) ∙ h.repeats j l;
      kept = λ l. k 17 (omega arith) ∙ h.kept l;
    }

live-kept : {g : Grid} {o : Opening} {s : Progress} {w z sums bins picture joined : List ℕ} → length z ≡ length w →
    ((i : ℕ) → 12 ≤ i → get_or z i 0 ≡ get_or w i 0) →
    Live g o s w sums bins picture joined → Live g o s z sums bins picture joined
live-kept n k v =
    record {
      whole = v.whole;
      cur = v.cur;
      pxs = v.pxs;
      grid = v.grid;
      split = v.split;
      full = v.full;
      reduced = v.reduced;
      few = v.few;
      room = v.room;
      bytes = v.bytes;
      status = v.status;
      fed = v.fed;
      pictures = v.pictures;
      fresh = v.fresh;
      words = words-kept n k v.words;
      ring = v.ring;
      drawn = v.drawn;
      place = v.place;
    }

stands-kept : {o : Opening} {s : Progress} {w z sums bins picture joined : List ℕ} → length z ≡ length w →
    ((i : ℕ) → 12 ≤ i → get_or z i 0 ≡ get_or w i 0) →
    Stands o s w sums bins picture joined → Stands o s z sums bins picture joined
stands-kept n k (refused e h f) =
    refused e h (λ g.
    record {
      there = (f g).there;
      pictures = (f g).pictures;
      fresh = (f g).fresh;
      words =
          words-kept n k (f g).words;
    })
stands-kept n k (live e sane v) = live e sane (live-kept n k v)

-- bytes behind 750 pictures
pub full-more : {o : Opening} {s : Progress} {luma joined : List ℕ} (piece : List ℕ) → opening_fault o ≡ none →
    Full o s luma joined → Full o s luma (joined ++ piece)
full-more {o} {s} {luma} {joined} piece g f =
    let same : reduced o (joined ++ piece) ≡ reduced o joined = full-reduced o g joined piece f.there in
    record {
      there = simp length-append (omega (arith, f.there));
      pictures = f.pictures;
      fresh = rw same f.fresh;
      words = rw same f.words;
    }

pub means-stored : {o : Opening} {r : Progress} {w z sums bins picture joined : List ℕ} → Stored w r z →
    Holding o r w sums bins picture joined → Means z sums bins picture o joined
means-stored {o} {r} {w} {z} st h =
    record {
      size = st.size ∙ h.size;
      opening = opening-kept w z st.kept ∙ h.opening;
      stands = rw (st.loads h.size) (stands-kept st.size st.kept h.stands);
    }
