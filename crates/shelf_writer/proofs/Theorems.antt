-- What is proved of writing: a shelf that was written is read back record by record, every list of records that may
-- stand on a shelf is written, no two of them alike, and refusals have numbers of the table.
use Prim.Native.Nat.{ℕ, ◌+◌, ◌≤◌}
use native.Mathlib.Omega.{arith}
use mathlib.Core.Path.{◌≡◌, refl, sym, ap, ◌∙◌}
use mathlib.Core.Bool.{Bool, true, false}
use mathlib.Core.List.{List, [], ◌∷◌, map}
use lib.ListN.{length, take, drop, length-map}
use lib.Seq.{take_at, drop_at}
use borrow.Author.Tests.{le-leb, le-ltb, eq-eqb}
use Rattle.std.specs.Prelude.{Ok}
use Rattle.rules.specs.Bytes.{total, end_to_end}
use Rattle.rules.specs.Refusals.{Fault, none, fault, unless, ◌or_else◌, answer}
use Rattle.rules.specs.Seal.{no_room, over}
use Rattle.rules.specs.Reading.{reading_fault}
use Rattle.rules.specs.Shelf.{records, refused_at, first_refused, shelf_of, Shelved}
use Rattle.rules.proofs.Laws.Listed.{Numbered, of_either, of-unless, room}
use Rattle.shelf.proofs.Written.{joined_length, none-refused, every-shelf}
use Rattle.shelf_writer.specs.Writing.{cut_up, good_lengths, shelf_length, writing_fault, writing_answer}
use Rattle.shelf_writer.specs.Writing.{written_buffer, EveryWriting, EveryRecords, OneWriting}
use Rattle.shelf_writer.proofs.Laws.{good, cut-count, cut-lengths, cut-joined, cut-back, each-taken, shelf-length}

either-none : (f g : Fault) → (f or_else g) ≡ none → (f ≡ none) × (g ≡ none)
either-none none g e = (refl, e)
either-none (fault k p) g e = absurd (let z : ◌≡◌ {A = ℕ} 0 1 = cc in omega arith)

unless-none : (b : Bool) (k : ℕ) → unless b k ≡ none → b ≡ true
unless-none true k e = refl
unless-none false k e = absurd (let z : ◌≡◌ {A = ℕ} 0 1 = cc in omega arith)

answer-done : (f : Fault) (m n : ℕ) → answer f m ≡ Ok n → (f ≡ none) × (m ≡ n)
answer-done none m n e = (refl, (cc))
answer-done (fault k p) m n e = absurd (let z : ◌≡◌ {A = ℕ} 0 1 = cc in omega arith)

-- ---- a call that was not refused

module _ (s ls b : List ℕ) (n : ℕ) (e : writing_answer s ls (length b) ≡ Ok n) where
  done : (writing_fault s ls (length b) ≡ none) × (shelf_length ls ≡ n)
  unfolding writing_answer
  done = answer-done (writing_fault s ls (length b)) (shelf_length ls) n e

  passed : (good_lengths ls (length s) ≡ true) × (first_refused 0 (cut_up s ls) ≡ none)
  unfolding writing_fault
  passed =
      let first = unless (good_lengths ls (length s)) 27 in
      let second = first_refused 0 (cut_up s ls) in
      let third = no_room (length b) (shelf_length ls) in
      let x = either-none first (second or_else third) done.0 in
      (unless-none (good_lengths ls (length s)) 27 x.0, (either-none second third x.1).0)

  fits : (length ls ≤ 4096) × (total ls ≡ length s)
  fits = good s ls passed.0

  shelved : Shelved (cut_up s ls)
  shelved = record { few = omega (arith, cut-count s ls, fits.0); each = each-taken 0 (cut_up s ls) passed.1 }

  long : length (shelf_of (cut_up s ls)) ≡ n
  long = shelf-length (cut_up s ls) ∙ ap shelf_length (cut-lengths s ls fits.1) ∙ done.1

  after : written_buffer s ls b ≡ over (shelf_of (cut_up s ls)) b
  unfolding written_buffer
  after = rw e

  front : take n (written_buffer s ls b) ≡ shelf_of (cut_up s ls)
  unfolding over
  front = let x = shelf_of (cut_up s ls) in ap (take n) after ∙ take_at x (drop (length x) b) n long

  past : drop n (written_buffer s ls b) ≡ drop n b
  unfolding over
  past =
      let x = shelf_of (cut_up s ls) in
      ap (drop n) after ∙ drop_at x (drop (length x) b) n long ∙ ap (λ (k : ℕ). drop k b) long

pub every-writing : EveryWriting
every-writing s ls b n e =
    let back = every-shelf (cut_up s ls) (shelved s ls b n e) in
    record {
      accepted = rw (front s ls b n e) back.accepted;
      back = ap records (front s ls b n e) ∙ back.back;
      whole = cut-joined s ls (fits s ls b n e).1;
      behind = past s ls b n e;
    }

-- ---- any records

module _ (rs : List (List ℕ)) (h : Shelved rs) (b : List ℕ) (fit : length (shelf_of rs) ≤ length b) where
  lengths-good : good_lengths (map length rs) (length (end_to_end rs)) ≡ true
  unfolding good_lengths
  lengths-good =
      rw (
        le-leb (length (map length rs)) 4096 (omega (arith, length-map rs length, h.few)),
        eq-eqb (total (map length rs)) (length (end_to_end rs)) (sym (joined_length rs)),
      )

  answered : writing_answer (end_to_end rs) (map length rs) (length b) ≡ Ok (length (shelf_of rs))
  unfolding writing_answer writing_fault no_room
  answered =
      rw (
        lengths-good,
        cut-back rs,
        none-refused 0 h.each,
        ← shelf-length rs,
        le-ltb (length b) (length (shelf_of rs)) fit,
      )

  stored : written_buffer (end_to_end rs) (map length rs) b ≡ over (shelf_of rs) b
  unfolding written_buffer
  stored = rw (answered, cut-back rs)

pub every-records : EveryRecords
every-records rs b h fit = record { answered = answered rs h b fit; written = stored rs h b fit }

-- ---- no two alike

pub one-writing : OneWriting
one-writing s t ls ms b c n m d e same =
    let x = every-writing s ls b n d in
    let y = every-writing t ms c m e in
    let equal : cut_up s ls ≡ cut_up t ms = sym x.back ∙ (ap records same ∙ y.back) in (
      sym x.whole ∙ (ap end_to_end equal ∙ y.whole),
      sym (cut-lengths s ls (fits s ls b n d).1)
          ∙ (ap (map length) equal ∙ cut-lengths t ms (fits t ms c m e).1),
    )

-- ---- the numbers are the table's

of-refused : (f : Fault) (j : ℕ) → Numbered (refused_at f j)
of-refused none j = tt
of-refused (fault k p) j = refl

of-records : (j : ℕ) (rs : List (List ℕ)) → Numbered (first_refused j rs)
unfolding first_refused
of-records j [] = tt
of-records j (r ∷ rs) =
    of_either (refused_at (reading_fault r) j) (first_refused (j + 1) rs) (of-refused (reading_fault r) j)
    (of-records (j + 1) rs)

pub writing-numbered : (s ls : List ℕ) (m : ℕ) → Numbered (writing_fault s ls m)
unfolding writing_fault
writing-numbered s ls m =
    of_either (unless (good_lengths ls (length s)) 27) _ (of-unless (good_lengths ls (length s)) 27 refl)
    (of_either (first_refused 0 (cut_up s ls)) _ (of-records 0 (cut_up s ls)) (room m (shelf_length ls)))
