-- From step to step through a piece. No code.
use Rattle.std.proofs.Common.{◌≡◌, ℕ, ◌+◌, ◌-◌, ◌*◌, ◌<◌, ◌≤◌, List, [], ◌++◌, length, get_or, take, drop, sym, refl}
use Rattle.std.proofs.Common.{ap, ◌∙◌, append_assoc, append-nil, arith, length-append, length-drop, take-append-drop}
use Rattle.std.proofs.Common.{length-take-le, take_all, take-add, lt-ltb}
use Rattle.rules.specs.declared.Opening.{Opening}
use Rattle.rules.specs.Pictures.{picture_size, luma_fault}
use Rattle.rules.specs.Bytes.{Bytes}
use Rattle.rules.specs.Seal.{reduced}
use Rattle.luma_laws.proofs.Past.{reduced-whole}
use Rattle.luma_laws.proofs.Full.{size-some, full-reduced}
use Rattle.luma_laws.proofs.Pictures.{bytes-append, bytes_take}
use Rattle.luma_state.specs.declared.Grid.{Grid}
use Rattle.luma_state.specs.declared.Progress.{Progress}
use Rattle.luma_rows.specs.declared.Taken.{Taken}
use Rattle.luma_state.specs.State.{passing, Live, Sane, refused, live, Fits, Goes}
use Rattle.luma_rows.specs.Contract.{Took, Taking}
use Rattle.luma_rows.proofs.Rows.{at-passing, bytes_of}
use Rattle.luma.specs.Contract.{Finishing, Finished, Passed, Stepped, Ran, passed_on, stopped_at}

-- ---- bytes of the surplus rows

pub passed-live : {g : Grid} {o : Opening} {s : Progress} {luma sums bins picture joined : List ℕ} (chunk : List ℕ) →
    s.line ≡ g.lines → s.pictures < 750 → Bytes chunk →
    length chunk ≤ s.left → Live g o s luma sums bins picture joined →
    Live g o (passed_on s (length chunk)) luma sums bins picture (joined ++ chunk)
passed-live {g} {o} {s} {luma} {sums} {bins} {picture} {joined} chunk line more small few v =
    let q = at-passing line v.place in
    let long = length-append v.cur chunk in
    record {
      whole = v.whole;
      cur = v.cur ++ chunk;
      pxs = v.pxs;
      grid = v.grid;
      split = rw v.split (append_assoc v.whole v.cur chunk);
      full = v.full;
      reduced = v.reduced;
      few = v.few;
      room = λ e. absurd (omega (arith, v.pictures));
      bytes = bytes-append joined chunk v.bytes small;
      status = v.status;
      fed = omega (arith, v.fed, length-append joined chunk);
      pictures = v.pictures;
      fresh = v.fresh;
      words = v.words;
      ring = v.ring;
      drawn = record {
        rows = record {
          size = v.drawn.rows.size;
          each = λ r c hr hc t. rw (append_assoc v.cur chunk t) (v.drawn.rows.each r c hr hc (chunk ++ t));
        };
        rest = v.drawn.rest;
        counts = v.drawn.counts;
        moves = v.drawn.moves;
      };
      place = passing line (omega (arith, long, q.ends)) (omega (arith, long, q.some)) q.clear;
    }

pub passed : (g : Grid) (s : Progress) {rest : List ℕ} {t : ℕ} {r : Taken} → Taking g s rest → s.line ≡ g.lines →
    ((i : ℕ) → get_or rest i 0 < 256) → 0 < t →
    t ≤ length rest → t ≤ s.left → (r.used ≡ t) × (r.state ≡ passed_on s t) → Passed g s rest r
passed g s {rest} {t} {r} taking line small some most few e sums bins picture =
    let size : length (take t rest) ≡ t = length-take-le t rest most in
    rw (e.0, e.1)
    (record {
      some = some;
      most = most;
      loose = record {
        few = taking.sane.few;
        line = taking.sane.line;
        row = taking.sane.row;
        col = taking.sane.col;
      };
      same = refl;
      goes = λ luma o joined v.
          rw size at (passed-live (take t rest) line taking.more (bytes_take t rest (bytes_of rest small))
          (omega arith) v);
    })

-- ---- a picture's end, where it is reached

pub goes_none : (g : Grid) (s : Progress) (luma sums bins picture : List ℕ) →
    Goes g s luma sums bins picture [] s luma sums bins picture
goes_none g s luma sums bins picture o joined v = rw append-nil v

-- ---- a step

pub stepped : (g : Grid) (s : Progress) {t r : Taken}
    {luma sums bins picture rest sums' bins' picture' luma'' bins'' : List ℕ} →
    Took g s sums bins picture rest t sums' bins' picture' → Finished g t luma bins' r luma'' bins'' →
    Stepped g s luma sums bins picture rest r luma'' sums' bins'' picture'
stepped g s {t} {r} {luma} {sums} {bins} {picture} {rest} {sums'} {bins'} {picture'} took f =
    record {
      some = rw f.used took.some;
      most = rw f.used took.most;
      sane = f.sane;
      goes = λ o joined v.
          rw f.used
          (rw append-nil at (f.goes sums' picture' o (joined ++ take t.used rest) (took.goes luma o joined v)));
    }

pub to-finish : (g : Grid) (s : Progress) {t : Taken} {sums bins picture rest sums' bins' picture' : List ℕ} →
    Taking g s rest →
    Took g s sums bins picture rest t sums' bins' picture' → Finishing g t
to-finish g s taking took =
    record { fits = taking.fits; loose = took.loose; more = omega (arith, took.same, taking.more) }

-- ---- the loop

pub goes-more : (g : Grid) (s r : Progress) (t : Taken) (piece : List ℕ) (at : ℕ)
    {luma sums bins picture luma' sums' bins' picture' luma'' sums'' bins'' picture'' : List ℕ} →
    Goes g s luma sums bins picture (take at piece) r luma' sums' bins' picture' →
    Stepped g r luma' sums' bins' picture' (drop at piece) t luma'' sums'' bins'' picture'' →
    Goes g s luma sums bins picture (take (at + t.used) piece) t.state luma'' sums'' bins'' picture''
goes-more g s r t piece at f st o joined v =
    rw (take-add at t.used piece, ← append_assoc joined (take at piece) (take t.used (drop at piece)))
    (st.goes o (joined ++ take at piece) (f o joined v))

-- all is taken in
pub ran-all : (g : Grid) (s r : Progress) (piece : List ℕ) (at : ℕ)
    {luma sums bins picture luma' sums' bins' picture' : List ℕ} → Sane g r →
    Goes g s luma sums bins picture (take at piece) r luma' sums' bins' picture' → length piece ≤ at →
    Ran g s luma sums bins picture piece r luma' sums' bins' picture'
ran-all g s r piece at sane f h o joined good e v =
    let w = rw (take_all at piece h) at (f o joined v) in
    record { size = w.words.size; opening = w.words.opening; stands = live good (rw e at sane) (rw e at w) }

-- a byte more than 750 pictures
pub ran_over : (g : Grid) (s r q : Progress) (piece : List ℕ) (at : ℕ)
    {luma sums bins picture luma' sums' bins' picture' : List ℕ} →
    Goes g s luma sums bins picture (take at piece) r luma' sums' bins' picture' → at < length piece →
    r.pictures ≡ 750 → q ≡ stopped_at g r →
    Ran g s luma sums bins picture piece q luma' sums' bins' picture'
unfolding luma_fault
ran_over g s r q piece at f h n e o joined good same v =
    let w = f o joined v in
    let b : g.bytes ≡ picture_size o = ap (λ (x : Grid). x.bytes) same in
    let split : joined ++ piece ≡ (joined ++ take at piece) ++ drop at piece =
    ap (λ (x : List ℕ). joined ++ x) (sym (take-append-drop at piece))
    ∙ sym (append_assoc joined (take at piece) (drop at piece)) in
    let n750 : length w.pxs ≡ 750 = sym w.pictures ∙ n in
    let full : length w.whole ≡ 750 * picture_size o = w.full ∙ ap (λ (k : ℕ). k * picture_size o) n750 in
    let long : length (joined ++ take at piece) ≡ length w.whole + length w.cur =
    ap length w.split ∙ length-append w.whole w.cur in
    let past : 750 * picture_size o < length (joined ++ piece) =
    omega (
      arith,
      ap length split,
      length-append (joined ++ take at piece) (drop at piece),
      length-drop at piece,
      full,
      long,
    ) in
    let none_open : w.cur ≡ [] = w.room n750 in
    let short : length w.cur < picture_size o = rw none_open (size-some o good) in
    let there : 750 * picture_size o ≤ length (joined ++ take at piece) = omega arith in
    let all : w.pxs ≡ reduced o (joined ++ piece) =
    w.reduced ∙ sym (reduced-whole o (length w.pxs) w.whole w.cur good w.full short w.few)
    ∙ ap (reduced o) (sym w.split)
    ∙ sym (full-reduced o good (joined ++ take at piece) (drop at piece) there) ∙ ap (reduced o) (sym split) in
    rw e
    (record {
      size = w.words.size;
      opening = w.words.opening;
      stands = refused (rw (good, lt-ltb (750 * picture_size o) (length (joined ++ piece)) past, b)) (omega arith)
          (λ g. record {
            there = omega arith;
            pictures = n;
            fresh = rw all at w.fresh;
            words = rw all at w.words;
          });
    })

-- ---- the rest of a piece, as a part of it

part-rest : (piece : List ℕ) (at : ℕ) → take (length piece - at) (drop at piece) ≡ drop at piece
part-rest piece at = take_all (length piece - at) (drop at piece) (simp length-drop (omega arith))

pub taking-rest : (g : Grid) (s : Progress) (piece : List ℕ) (at : ℕ) → Fits g → Sane g s →
    s.pictures < 750 → at < length piece →
    Taking g s (take (length piece - at) (drop at piece))
taking-rest g s piece at f sane more h =
    rw (part-rest piece at) (record { fits = f; sane = sane; more = more; some = simp length-drop (omega arith) })

pub on-rest : (piece : List ℕ) (at : ℕ) {g : Grid} {s : Progress} {t : Taken}
    {luma sums bins picture luma' sums' bins' picture' : List ℕ} →
    Stepped g s luma sums bins picture (take (length piece - at) (drop at piece)) t luma' sums' bins' picture' →
    Stepped g s luma sums bins picture (drop at piece) t luma' sums' bins' picture'
on-rest piece at st = rw (part-rest piece at) at st

-- where it stands after the step
pub record Onward (piece : List ℕ) (at used : ℕ) : Type 0 where
  pub some : 0 < used
  pub most : at + used ≤ length piece

pub onward : (piece : List ℕ) (at : ℕ) {g : Grid} {s : Progress} {t : Taken}
    {luma sums bins picture luma' sums' bins' picture' : List ℕ} → at < length piece →
    Stepped g s luma sums bins picture (take (length piece - at) (drop at piece)) t luma' sums' bins' picture' →
    Onward piece at t.used
onward piece at h st =
    let e = on-rest piece at st in
    record { some = e.some; most = omega (arith, e.most, length-drop at piece) }
