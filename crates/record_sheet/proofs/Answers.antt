-- The whole sheet, put part by part, and the answers of the call.
use Prim.Native.Nat.{ℕ, zero, suc, ◌+◌, ◌*◌, ◌/◌, ◌≤◌, ◌<◌}
use native.Mathlib.Omega.{arith}
use mathlib.Core.Path.{◌≡◌, refl, sym, ap, ◌∙◌}
use mathlib.Core.List.{List, ◌∷◌, ◌++◌, append_assoc, append-nil}
use mathlib.Core.Bool.{Bool, true, false}
use lib.ListN.{length, replicate}
use lib.Dec.{ltb}
use borrow.Author.Tests.{lt-ltb, le-ltb, ltb-false}
use Rattle.std.specs.Int.{div_ceil}
use Rattle.std.specs.Prelude.{Ok, Err}
use Rattle.rules.specs.declared.refusals.Refusal.{Refusal}
use Rattle.rules.proofs.Laws.Answers.{ok-same, ok-err}
use Rattle.rules.specs.Refusals.{refused, Fault, none, fault, ◌or_else◌, answer}
use Rattle.rules.specs.Bytes.{pick, word32, table, end_to_end}
use Rattle.rules.specs.Editions.{knows_damage}
use Rattle.rules.specs.Reading.{header_of, unit_at, scene_at, reading_fault}
use Rattle.rules.specs.Seal.{no_room, over}
use Rattle.record_reader.proofs.Answers.{AcceptedAs}
use Rattle.words.proofs.Behind.{over-written}
use Rattle.record_lines.specs.Put.{Put, lines_to}
use Rattle.rules.specs.Sheet.{header_line, unit_line, scene_line, blank_line, record_lines, line_count, pages_for}
use Rattle.rules.specs.Sheet.{blanks_for, sheet_lines, sheet_of, sheet_length, sheet_answer, sheet_buffer}
use Rattle.rules.proofs.Laws.Lists.{end_to_end-append}
use Rattle.record_lines.proofs.Puts.{join, same-put}

-- ---- the lines of u units and v scenes, and the blank ones

-- blank lines, by number
blank-lines : (n from : ℕ) → table n from (λ j. blank_line) ≡ replicate n blank_line
unfolding table
blank-lines zero from = refl
blank-lines (suc n) from = ap (λ (x : List (List ℕ)). blank_line ∷ x) (blank-lines n (suc from))

-- the sheet, part by part
sheet-parts : (r : List ℕ) → sheet_of r ≡
    header_line (header_of r)
    ++ lines_to (word32 r 8) (λ j. unit_line (knows_damage (word32 r 0)) j (unit_at r j))
    ++ lines_to (word32 r 16) (λ j. scene_line j (scene_at r j))
    ++ lines_to (blanks_for (line_count r)) (λ j. blank_line)
unfolding sheet_of sheet_lines record_lines lines_to end_to_end
sheet-parts r =
    rw (blank-lines (blanks_for (line_count r)) 0)
    (simp (end_to_end-append, append_assoc, append-nil))

module _ (r : List ℕ) (u v : ℕ) (is-u : u ≡ word32 r 8) (is-v : v ≡ word32 r 16) where
  is-count : 1 + u + v ≡ line_count r
  unfolding line_count
  is-count = rw (is-u, is-v)

  pub sheet-size : sheet_length r ≡ 101 + 101 * u + 101 * v + 101 * blanks_for (1 + u + v)
  unfolding sheet_length pages_for blanks_for
  sheet-size = rw (← is-count) (omega arith)

  pub sheet-put : {a b d e : ℕ} {s s₁ s₂ s₃ s₄ : List ℕ} (k : Bool) → k ≡ knows_damage (word32 r 0) →
      sheet_length r ≤ length s →
      Put 0 101 (header_line (header_of r)) s a s₁ →
      Put a (101 * u) (lines_to u (λ j. unit_line k j (unit_at r j))) s₁ b s₂ →
      Put b (101 * v) (lines_to v (λ j. scene_line j (scene_at r j))) s₂ d s₃ →
      Put d (101 * blanks_for (1 + u + v)) (lines_to (blanks_for (1 + u + v)) (λ j. blank_line)) s₃ e s₄ →
      s₄ ≡ over (sheet_of r) s
  sheet-put {e = e} {s = s} k is-k room p q x y =
      let z = sheet-size in
      let whole = join (join (join p q (omega arith)) x (omega arith)) y (omega arith) in
      let w =
      same-put (sheet_length r) e (sheet_of r) whole (omega arith) refl
      (rw (is-count, is-u, is-v, is-k) (sym (sheet-parts r)))
      in
      w.puts ∙ over-written (sheet_of r) s

-- the pages, as the library counts them
pub whole-pages : (n k : ℕ) → k ≡ div_ceil n 60 → (n + 59) / 60 ≡ k
whole-pages n k e = omega arith

-- ---- the answer of a buffer of n bytes

module _ (r : List ℕ) (n : ℕ) where
  pub refused-answer : (d : Refusal) → reading_fault r ≡ fault d.number d.place → Err d ≡ sheet_answer r n
  unfolding sheet_answer
  refused-answer d e = rw e

  module _ (u v : ℕ) (a : AcceptedAs r u v) where
    pub needed : sheet_length r ≡ 6060 * ((1 + u + v + 59) / 60)
    unfolding sheet_length line_count pages_for
    needed = rw (← a.units, ← a.scenes)

    pub short-answer : n < 6060 * ((1 + u + v + 59) / 60) →
        refused 15 (6060 * ((1 + u + v + 59) / 60)) ≡ sheet_answer r n
    unfolding sheet_answer no_room
    short-answer h = rw (a.fault, needed, lt-ltb n (6060 * ((1 + u + v + 59) / 60)) h)

    pub done-answer : 6060 * ((1 + u + v + 59) / 60) ≤ n → Ok (6060 * ((1 + u + v + 59) / 60)) ≡ sheet_answer r n
    unfolding sheet_answer no_room
    done-answer h = rw (a.fault, needed, le-ltb n (6060 * ((1 + u + v + 59) / 60)) h)

-- what was done had room
room : (f : Fault) (n m k : ℕ) → Ok k ≡ answer (f or_else no_room n m) m → k ≤ n
unfolding no_room
room (fault i p) n m k e = absurd (ok-err e)
room none n m k e = go (ltb n m) refl e
  where
    go : (b : Bool) → ltb n m ≡ b → Ok k ≡ answer (pick b (fault 15 m) none) m → k ≤ n
    go true t e = absurd (ok-err e)
    go false t e = let same = ok-same e in omega (arith, same, ltb-false n m t)

pub done-fits : (r : List ℕ) (n k : ℕ) → Ok k ≡ sheet_answer r n → k ≤ n
unfolding sheet_answer
done-fits r n k e = room (reading_fault r) n (sheet_length r) k e

-- ---- the buffer afterwards

module _ (r b : List ℕ) where
  pub refused-buffer : (d : Refusal) → Err d ≡ sheet_answer r (length b) → b ≡ sheet_buffer r b
  unfolding sheet_buffer
  refused-buffer d e = rw (← e)

  pub done-buffer : (n : ℕ) (t : List ℕ) →
      Ok n ≡ sheet_answer r (length b) → t ≡ over (sheet_of r) b → t ≡ sheet_buffer r b
  unfolding sheet_buffer
  done-buffer n t e h = rw (← e) h
