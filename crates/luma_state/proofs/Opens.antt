-- The opening. No code.
use Prim.Native.Nat.{ℕ, zero, suc, ◌+◌, ◌*◌, ◌^◌, ◌≤◌, ◌<◌}
use native.Mathlib.Omega.{arith}
use native.Mathlib.Nat.{zero-mul, mod-eq_of_lt, lt_of_not-le}
use native.Mathlib.Decide.{dec_le}
use borrow.Author.Tests.{le-leb, lt-leb, le-ltb}
use mathlib.Core.Path.{◌≡◌, refl, sym, ap, ◌∙◌}
use mathlib.Core.List.{List, [], map}
use mathlib.Core.Bool.{Bool}
use lib.ListN.{length, get_or, set, replicate, length-set, length-replicate}
use lib.Seq.{get_or-set_other, drop-nil}
use Rattle.rules.specs.declared.Opening.{Opening}
use Rattle.rules.specs.Bytes.{tally, parts, count, All}
use Rattle.rules.specs.Refusals.{none, fault}
use Rattle.rules.specs.Opening.{opening_fault, side, columns}
use Rattle.rules.specs.Pictures.{picture_size}
use Rattle.rules.specs.Histograms.{histograms}
use Rattle.rules.specs.Cuts.{cut_score}
use Rattle.rules.specs.Changes.{repeats, changes}
use Rattle.luma_laws.specs.Past.{previous, last_from, ones, map_word}
use Rattle.figures.specs.Opening.{numbered, OpeningFault}
use Rattle.luma_changes.specs.Figures.{Figures}
use Rattle.luma_state.specs.declared.Progress.{Progress}
use Rattle.luma_state.specs.State.{Fits, Means, moves_in, opening_in, grid_of, slot, Words, drawing, Live, refused}
use Rattle.luma_state.specs.State.{live}
use Rattle.luma_state.proofs.Kept.{fits-of}

-- no pixel has moved
pub still : (old : List ℕ) (s : Progress) → s.ups ≡ 0 → s.downs ≡ 0 → s.squares ≡ 0 → Figures old [] (moves_in s)
unfolding tally
still old s a b c = record { up = rw a; down = rw b; both = rw c }

-- a list of zeros, read anywhere
pub Zeros : List ℕ → Type 0
Zeros xs = (i : ℕ) → get_or xs i 0 ≡ 0

zeros : (n : ℕ) → Zeros (replicate n 0)
unfolding Zeros
zeros zero i = refl
zeros (suc n) zero = refl
zeros (suc n) (suc i) = zeros n i

abbrev started : Progress
started =
    record {
      status = 0;
      place = 0;
      fed = 0;
      pictures = 0;
      fresh = 0;
      line = 0;
      row = 0;
      col = 0;
      left = 0;
      ups = 0;
      downs = 0;
      squares = 0;
    }

no_words : (o : Opening) (luma : List ℕ) → length luma ≡ 1600 → opening_in luma ≡ o →
    ((i : ℕ) → 17 ≤ i → get_or luma i 0 ≡ 0) → Words o [] luma
unfolding cut_score changes repeats map_word ones
no_words o luma n e z =
    record {
      size = n;
      opening = e;
      scores = λ i h. z (100 + i) (omega arith) ∙ sym (none_yet i);
      changes = λ i h. z (850 + i) (omega arith);
      repeats = λ j h. z (64 + j) (omega arith) ∙ sym (no_bits j);
      kept = λ h. absurd (omega arith);
    }
  where
    none_yet : (i : ℕ) → cut_score (map (histograms o) []) i ≡ 0
    none_yet i = elim (dec_le 2 i) [
      | yes h ↦ rw (le-leb 2 i h, le-ltb (i + 2) 0 (omega arith))
      | no h ↦ rw (lt-leb 2 i (lt_of_not-le h))
    ]

    no_bits : (j : ℕ) → map_word [] j ≡ 0
    no_bits j = rw (drop-nil {A = Bool} (64 * j))

open-live : (o : Opening) {luma sums bins picture : List ℕ} → Fits (grid_of o) → Words o [] luma → length sums ≡ 240 →
    length bins ≡ 720 → length picture ≡ 14104 →
    Zeros sums → Zeros bins → Zeros picture → Live (grid_of o) o started luma sums bins picture []
unfolding Zeros tally parts count repeats previous last_from
open-live o {luma} {sums} {bins} {picture} f w ls lb lp zs zb zp =
    record {
      whole = [];
      cur = [];
      pxs = [];
      grid = refl;
      split = refl;
      full = sym (zero-mul (picture_size o));
      reduced = refl;
      few = omega arith;
      room = λ e. refl;
      bytes = All.empty;
      status = refl;
      fed = refl;
      pictures = refl;
      fresh = refl;
      words = w;
      ring = λ j h k. absurd (omega arith);
      drawn = record {
        rows = record { size = lp; each = λ r c h k t. absurd (omega arith) };
        rest = λ q h k. zp q;
        counts =
            rw (zero-mul (columns o)) (record { size = lb; each = λ t b h k. rw (zb (slot 0 + (16 * t + b))) refl });
        moves = rw (zero-mul (columns o)) (still [] started refl refl refl);
      };
      place = drawing (omega (arith, f.high)) (rw (zero-mul (side o), zero-mul o.width) refl)
          (record { size = ls; each = λ c h. rw (zs c) refl });
    }

-- ---- what `open` leaves

abbrev pub opened_words : Opening → ℕ → List ℕ
opened_words o f =
    set (set (set (set (set (set (replicate 1600 0) 0 f) 12 o.width) 13 o.height) 14 o.time) 15 o.pid)
    16 o.edition

pub record Small (o : Opening) : Type 0 where
  pub width : o.width < 2 ^ 32
  pub height : o.height < 2 ^ 32
  pub time : o.time < 2 ^ 32
  pub pid : o.pid < 2 ^ 32
  pub edition : o.edition < 2 ^ 32

module _ (o : Opening) (f : ℕ) (small : Small o) where
  size : length (opened_words o f) ≡ 1600
  size = simp length-set (length-replicate {A = ℕ} 1600 0)

  behind : (i : ℕ) → 17 ≤ i → get_or (opened_words o f) i 0 ≡ 0
  unfolding Zeros
  behind i h =
      let l : List ℕ = replicate 1600 0 in
      get_or-set_other (set (set (set (set (set l 0 f) 12 o.width) 13 o.height) 14 o.time) 15 o.pid) 16 i
      o.edition 0 (λ e. omega arith)
      ∙ get_or-set_other (set (set (set (set l 0 f) 12 o.width) 13 o.height) 14 o.time) 15 i o.pid 0
      (λ e. omega arith)
      ∙ get_or-set_other (set (set (set l 0 f) 12 o.width) 13 o.height) 14 i o.time 0 (λ e. omega arith)
      ∙ get_or-set_other (set (set l 0 f) 12 o.width) 13 i o.height 0 (λ e. omega arith)
      ∙ get_or-set_other (set l 0 f) 12 i o.width 0 (λ e. omega arith)
      ∙ get_or-set_other l 0 i f 0 (λ e. omega arith)
      ∙ zeros 1600 i

  opening-in : opening_in (opened_words o f) ≡ o
  opening-in = rw (
    mod-eq_of_lt small.width,
    mod-eq_of_lt small.height,
    mod-eq_of_lt small.time,
    mod-eq_of_lt small.pid,
    mod-eq_of_lt small.edition,
  )

  pub opened-live : OpeningFault o f → f ≡ 0 →
      Means (opened_words o f) (replicate 240 0) (replicate 720 0) (replicate 14104 0) o []
  opened-live w z =
      let e : opening_fault o ≡ none = w.shown ∙ ap numbered z in
      let fits = fits-of o e in
      record {
        size = size;
        opening = opening-in;
        stands = rw z
            (live e
            (record {
              few = omega arith;
              line = omega arith;
              row = λ h. fits.some;
              col = λ h. omega (arith, fits.least);
              left = λ h. absurd (omega (arith, fits.high));
            })
            (open-live o fits (rw z at (no_words o (opened_words o f) size opening-in behind))
            (length-replicate {A = ℕ} 240 0)
            (length-replicate {A = ℕ} 720 0) (length-replicate {A = ℕ} 14104 0) (zeros 240) (zeros 720)
            (zeros 14104)));
      }

never : {p q : ℕ} → fault p q ≡ none → ⊥
never e = let z : ◌≡◌ {A = ℕ} 0 1 = cc in omega arith

pub opened : (o : Opening) (f : ℕ) → Small o → OpeningFault o f →
    Means (opened_words o f) (replicate 240 0) (replicate 720 0) (replicate 14104 0) o []
opened o zero small w = opened-live o 0 small w refl
opened o (suc k) small w =
    record {
      size = size o (suc k) small;
      opening = opening-in o (suc k) small;
      stands = refused (rw w.shown) (omega arith) (λ g. absurd (never (sym w.shown ∙ g)));
    }
