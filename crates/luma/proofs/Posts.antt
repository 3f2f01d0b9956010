-- What the functions within promise makes what the calls promise. No code.
use Rattle.std.proofs.Common.{◌≡◌, ℕ, zero, suc, ◌+◌, ◌*◌, ◌<◌, ◌≤◌, Bool, true, false, List, ◌++◌, length, get_or}
use Rattle.std.proofs.Common.{sym, refl, ap, ◌∙◌, mul-le-mul_right, add-mul, lt_of_not-le, arith, length-append}
use Rattle.std.proofs.Common.{le-ltb}
use native.Mathlib.Decide.{dec_le}
use Rattle.rules.specs.declared.Opening.{Opening}
use Rattle.std.specs.Prelude.{Ok, Err}
use Rattle.rules.specs.Refusals.{Answer, Fault, none, fault, ◌or_else◌}
use Rattle.rules.specs.Opening.{opening_fault, open_answer}
use Rattle.rules.specs.Pictures.{picture_size, luma_fault}
use Rattle.rules.specs.Seal.{luma_answer}
use Rattle.luma_laws.proofs.Pictures.{luma-kept}
use Rattle.figures.specs.Opening.{numbered, OpeningFault}
use Rattle.luma_state.specs.declared.Grid.{Grid}
use Rattle.luma_state.specs.declared.Progress.{Progress}
use Rattle.luma_state.specs.State.{loaded, opening_in, grid_of, Place, drawing, passing, Live, Sane, Stands, refused}
use Rattle.luma_state.specs.State.{live, Means, Fits, Holding}
use Rattle.luma_state.specs.Contract.{Stored, Placed}
use Rattle.luma.specs.Contract.{FeedPost, Ran, Replied}
use Rattle.luma_state.proofs.Kept.{fits-of, full-more, means-stored}

-- ---- the opening

pub open-refused : (o : Opening) (f : ℕ) → OpeningFault o f → (f ≡ 0 → ⊥) →
    Err (record { number = f; place = 0 }) ≡ open_answer o
unfolding open_answer
open-refused o zero w n = absurd (n refl)
open-refused o (suc k) w n = rw w.shown

pub open_done : (o : Opening) (f : ℕ) → OpeningFault o f → f ≡ 0 → Ok 0 ≡ open_answer o
unfolding open_answer
open_done o f w z =
    let e : opening_fault o ≡ none = w.shown ∙ ap numbered z in
    rw e

-- ---- a place inside a picture

-- the bytes of the current picture are fewer than a picture's
pub short : {g : Grid} {s : Progress} {cur sums : List ℕ} → Fits g → Sane g s → Place g s cur sums →
    length cur < g.bytes
short {g} {s} {cur} f sane (drawing h e k) =
    let n = g.side in
    let a = s.line * g.side in
    let up : s.line + 1 ≤ g.lines = omega arith in
    let row = sane.row h in
    let below : a + s.row + 1 ≤ g.lines * n = omega (arith, mul-le-mul_right n up, add-mul s.line 1 n) in
    omega (arith, e, sane.col h, mul-le-mul_right g.width below, add-mul (a + s.row) 1 g.width, f.rows)
short f sane (passing h e k c) = omega (arith, e, sane.left h)

-- and no byte is past 750 pictures
pub not-past : (o : Opening) {s : Progress} {luma sums bins picture joined : List ℕ} → opening_fault o ≡ none →
    Sane (grid_of o) s →
    Live (grid_of o) o s luma sums bins picture joined → length joined ≤ 750 * picture_size o
not-past o {s} {luma} {sums} {bins} {picture} {joined} e sane v = rw v.split (go (dec_le 750 (length v.pxs)))
  where
    long : length (v.whole ++ v.cur) ≡ length v.pxs * picture_size o + length v.cur
    long = length-append v.whole v.cur ∙ ap (λ (n : ℕ). n + length v.cur) v.full

    go : Dec (750 ≤ length v.pxs) → length (v.whole ++ v.cur) ≤ 750 * picture_size o
    go (yes h) =
        let n : length v.pxs ≡ 750 = omega (arith, v.few) in
        omega (arith, long, ap length (v.room n), ap (λ (k : ℕ). k * picture_size o) n)
    go (no h) =
        let up : length v.pxs + 1 ≤ 750 = omega (arith, lt_of_not-le h) in
        omega (
          arith,
          long,
          short (fits-of o e) sane v.place,
          mul-le-mul_right (picture_size o) up,
          add-mul (length v.pxs) 1 (picture_size o),
        )

pub no_fault : (o : Opening) {s : Progress} {luma sums bins picture joined : List ℕ} → opening_fault o ≡ none →
    Sane (grid_of o) s →
    Live (grid_of o) o s luma sums bins picture joined → luma_fault o joined ≡ none
unfolding luma_fault
no_fault o {s} {luma} {sums} {bins} {picture} {joined} e sane v =
    rw (le-ltb (750 * picture_size o) (length joined) (not-past o e sane v))

-- ---- refusals

pub fault-kept : (o : Opening) (s t : List ℕ) (k p : ℕ) → opening_fault o or_else luma_fault o s ≡ fault k p →
    opening_fault o or_else luma_fault o (s ++ t) ≡ fault k p
fault-kept o s t k p h = go (opening_fault o) h
  where
    go : (f : Fault) → f or_else luma_fault o s ≡ fault k p → f or_else luma_fault o (s ++ t) ≡ fault k p
    go none e = luma-kept o s t k p e
    go (fault a b) e = e

pub reply-stopped : (s : Progress) (n : ℕ) → (s.status ≡ 0 → ⊥) →
    Replied s n (Err (record { number = s.status; place = s.place }))
unfolding luma_answer
reply-stopped s n h o luma sums bins picture joined (refused e k f) = rw e
reply-stopped s n h o luma sums bins picture joined (live e sane v) = absurd (h v.status)

pub reply-done : (s : Progress) (n : ℕ) → s.status ≡ 0 → Replied s n (Ok n)
unfolding luma_answer
reply-done s n h o luma sums bins picture joined (refused e k f) = absurd (omega arith)
reply-done s n h o luma sums bins picture joined (live e sane v) = rw (e, no_fault o e sane v)

-- ---- a feed

-- no refusal stands: what the meaning says then
pub record Alive (s : Progress) (luma sums bins picture : List ℕ) (o : Opening) (joined : List ℕ) : Type 0 where
  pub good : opening_fault o ≡ none
  pub sane : Sane (grid_of o) s
  pub live : Live (grid_of o) o s luma sums bins picture joined

module _ {luma sums bins picture : List ℕ} (s : Progress) (is : s ≡ loaded luma) where
  pub alive : s.status ≡ 0 → (o : Opening) (joined : List ℕ) → Means luma sums bins picture o joined →
      Alive s luma sums bins picture o joined
  alive n o joined h = go h.stands
    where
      go : Stands o (loaded luma) luma sums bins picture joined → Alive s luma sums bins picture o joined
      go (refused e k f) = absurd (omega (arith, ap (λ (x : Progress). x.status) is))
      go (live e sane v) = record { good = e; sane = rw is sane; live = rw is v }

  pub wrong-opening : (f : ℕ) → s.status ≡ 0 → OpeningFault (opening_in luma) f → (f ≡ 0 → ⊥) →
      (o : Opening) (joined : List ℕ) → Means luma sums bins picture o joined → ⊥
  wrong-opening zero n w m o joined h = m refl
  wrong-opening (suc k) n w m o joined h =
      let e : fault (suc k) 0 ≡ none = sym w.shown ∙ ap opening_fault h.opening ∙ (alive n o joined h).good in
      let z : ◌≡◌ {A = ℕ} 0 1 = cc in
      omega arith

  pub wrong-place : {p : Bool} (g : Grid) → s.status ≡ 0 → g ≡ grid_of (opening_in luma) → Placed g s p → p ≡ false →
      (o : Opening) (joined : List ℕ) →
      Means luma sums bins picture o joined → ⊥
  wrong-place {p} g n e w f o joined h =
      let same : g ≡ grid_of o = e ∙ ap grid_of h.opening in
      let t : p ≡ true = w.whole (rw same (alive n o joined h).sane) in
      let z : ◌≡◌ {A = ℕ} 0 1 = cc in
      omega arith

module _ {luma sums bins picture piece : List ℕ} (s : Progress) (is : s ≡ loaded luma) where
  -- a refusal stands
  pub feed-stopped : (s.status ≡ 0 → ⊥) →
      FeedPost luma sums bins picture piece (Err (record { number = s.status; place = s.place }))
      luma sums bins picture
  feed-stopped n =
      record {
        means = λ o joined h. record { size = h.size; opening = h.opening; stands = still o joined h.stands };
        answer = λ o joined h. reply-stopped s (length piece) n o luma sums bins picture (joined ++ piece)
            (rw is (still o joined h.stands));
      }
    where
      still : (o : Opening) (joined : List ℕ) → Stands o (loaded luma) luma sums bins picture joined →
          Stands o (loaded luma) luma sums bins picture (joined ++ piece)
      still o joined (refused e k f) =
          refused (fault-kept o joined piece (get_or luma 0 0) (get_or luma 1 0) e) k (λ g. full-more piece g (f g))
      still o joined (live e sane v) = absurd (n (ap (λ (x : Progress). x.status) is ∙ v.status))

  -- words that no call made
  pub feed-forged : {a : Answer ℕ} → ((o : Opening) (joined : List ℕ) → Means luma sums bins picture o joined → ⊥) →
      FeedPost luma sums bins picture piece a luma sums bins picture
  feed-forged n = record { means = λ o joined h. absurd (n o joined h); answer = λ o joined h. absurd (n o joined h) }

  pub feed-post : {a : Answer ℕ} {r : Progress} {luma' luma'' sums' bins' picture' : List ℕ} (g : Grid) →
      s.status ≡ 0 →
      g ≡ grid_of (opening_in luma) →
      Ran g s luma sums bins picture piece r luma' sums' bins' picture' → Stored luma' r luma'' →
      Replied r (length piece) a →
      FeedPost luma sums bins picture piece a luma'' sums' bins' picture'
  feed-post {a} {r} {luma'} {luma''} {sums'} {bins'} {picture'} g n e ran st reply =
      record {
        means = λ o joined h. means-stored st (holds o joined h);
        answer = λ o joined h. reply o luma' sums' bins' picture' (joined ++ piece) (holds o joined h).stands;
      }
    where
      holds : (o : Opening) (joined : List ℕ) → Means luma sums bins picture o joined →
          Holding o r luma' sums' bins' picture' (joined ++ piece)
      holds o joined h =
          let same : g ≡ grid_of o = e ∙ ap grid_of h.opening in
          let v = alive s is n o joined h in
          ran o joined v.good same (rw same v.live)
