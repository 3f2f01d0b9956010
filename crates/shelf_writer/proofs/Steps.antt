-- Writing a shelf, step by step: what each record that was read, each word that was put and each test shows.
use Prim.Native.Nat.{ℕ, ◌+◌, ◌-◌, ◌*◌, ◌≤◌, ◌<◌}
use native.Mathlib.Omega.{arith}
use native.Mathlib.Nat.{zero-add}
use native.Mathlib.Numerals.{add-one}
use mathlib.Core.Path.{◌≡◌, refl, sym, ap, ◌∙◌}
use mathlib.Core.Bool.{Bool, true, false}
use mathlib.Core.List.{List, [], ◌∷◌, ◌++◌, map, map-append, append-nil}
use lib.ListN.{length, take, drop, get_or, length-append, drop_of_length-le}
use lib.Seq.{take-suc, take_all, length-take-le}
use lib.Dec.{eqb}
use borrow.Author.Tests.{lt-ltb, le-ltb, lt-leb, le-leb}
use Rattle.std.specs.Prelude.{Ok, Err}
use Rattle.std.specs.Result.{is_err}
use Rattle.rules.specs.declared.refusals.Refusal.{Refusal}
use Rattle.rules.proofs.Laws.Answers.{given-none, refused-fault}
use Rattle.record_reader.specs.declared.RowCounts.{RowCounts}
use Rattle.rules.specs.Refusals.{Answer, refused, Fault, none, fault, ◌or_else◌, answer}
use Rattle.rules.specs.Bytes.{bytes_of, total, end_to_end}
use Rattle.rules.specs.Reading.{reading_fault}
use Rattle.rules.specs.Seal.{no_room, over}
use Rattle.rules.specs.Shelf.{head_length, refused_at, first_refused, offsets_from, head_bytes, shelf_of}
use Rattle.rules.proofs.Laws.Lists.{end_to_end-append}
use Rattle.words.specs.Written.{written}
use Rattle.words.proofs.Laws.{length-bytes_of}
use Rattle.words.proofs.Behind.{next, over-written}
use Rattle.record_text.proofs.Texts.{none_yet}
use Rattle.record_reader.specs.Opened.{opened_as}
use Rattle.shelf.proofs.Written.{offset-is, offsets-count, words-length}
use Rattle.shelf_writer.specs.Writing.{cut_up, good_lengths, shelf_length, offset_bytes, writing_answer}
use Rattle.shelf_writer.specs.Writing.{writing_fault, written_buffer}
use Rattle.shelf_writer.proofs.Laws.{total-more, total-part, cut-next, cut-lengths, cut-joined}

-- ---- lengths, one by one

pub no-sum : (ls : List ℕ) → 0 ≡ total (take 0 ls)
unfolding total
no-sum ls = refl

pub too_many : (ls : List ℕ) (n : ℕ) → 4096 < length ls → false ≡ good_lengths ls n
unfolding good_lengths
too_many ls n h = rw (lt-leb (length ls) 4096 h)

pub sum-tested : (ls : List ℕ) (n sum : ℕ) → length ls ≤ 4096 → sum ≡ total ls → eqb sum n ≡ good_lengths ls n
unfolding good_lengths
sum-tested ls n sum h e = rw (le-leb (length ls) 4096 h, e)

-- ---- records, one by one

pub cut-start : (s ls : List ℕ) → first_refused 0 (cut_up s ls) ≡ first_refused 0 (cut_up (drop 0 s) (drop 0 ls))
cut-start s ls = refl

module _ (s ls : List ℕ) (fits : total ls ≡ length s) (start j : ℕ) (h : j < length ls) where
  -- record j lies within the bytes
  pub cut_inside : start ≡ total (take j ls) → start + get_or ls j 0 ≤ length s
  cut_inside e = omega (arith, total-more ls j h, total-part ls (j + 1))

reads : {X : Type 0} (f : Fault) (x : X) → is_err (answer f x) ≡ false → f ≡ none
reads none x e = refl
reads (fault k p) x e = absurd (let z : ◌≡◌ {A = ℕ} 0 1 = cc in omega arith)

refuses : {X : Type 0} (f : Fault) (x : X) (j : ℕ) → is_err (answer f x) ≡ true → refused_at f j ≡ fault 28 j
refuses none x j e = absurd (let z : ◌≡◌ {A = ℕ} 0 1 = cc in omega arith)
refuses (fault k p) x j e = refl

module _ (s ls : List ℕ) (start j : ℕ) (h : j < length ls) (f : Fault)
    (rest : f ≡ first_refused j (cut_up (drop start s) (drop j ls))) (l : ℕ) (is-l : l ≡ get_or ls j 0)
    (o : Answer RowCounts) (e : o ≡ opened_as (take (start + l - start) (drop start s))) (b : Bool)
    (b-is : b ≡ is_err o) where
  record-next : f ≡ (refused_at (reading_fault (take l (drop start s))) j or_else
      first_refused (j + 1) (cut_up (drop (start + l) s) (drop (j + 1) ls)))
  unfolding first_refused
  record-next = rest ∙ (ap (first_refused j) (cut-next s ls start j h) ∙ rw is-l)

  opened : is_err (opened_as (take l (drop start s))) ≡ b
  opened =
      let size : start + l - start ≡ l = omega arith in
      sym (b-is ∙ ap is_err e ∙ ap (λ (k : ℕ). is_err (opened_as (take k (drop start s)))) size)

  pub cut-more : b ≡ false → f ≡ first_refused (j + 1) (cut_up (drop (start + l) s) (drop (j + 1) ls))
  unfolding opened_as
  cut-more d = record-next ∙ rw (reads (reading_fault (take l (drop start s))) _ (opened ∙ d))

  pub cut-stop : b ≡ true → f ≡ fault 28 j
  unfolding opened_as
  cut-stop d = record-next ∙ rw (refuses (reading_fault (take l (drop start s))) _ j (opened ∙ d))

pub cut-end : (s ls : List ℕ) (start j : ℕ) (f : Fault) → length ls ≤ j →
    f ≡ first_refused j (cut_up (drop start s) (drop j ls)) → f ≡ none
unfolding first_refused cut_up
cut-end s ls start j f h e =
    e ∙ ap (λ (z : List ℕ). first_refused j (cut_up (drop start s) z)) (drop_of_length-le ls h)

-- ---- words, one by one

-- the first j of some words
abbrev pub words_to : ℕ → List ℕ → List ℕ
words_to j xs = end_to_end (map (bytes_of 4) (take j xs))

words_more : (xs : List ℕ) (j : ℕ) → j < length xs → words_to (j + 1) xs ≡ words_to j xs ++ bytes_of 4 (get_or xs j 0)
unfolding end_to_end
words_more xs j h =
    let last = get_or xs j 0 in
    let joined = end_to_end-append (map (bytes_of 4) (take j xs)) (bytes_of 4 last ∷ []) in
    rw (add-one j, take-suc xs j 0 h, map-append (bytes_of 4) (take j xs) (last ∷ []), joined)
    (ap (λ (x : List ℕ). end_to_end (map (bytes_of 4) (take j xs)) ++ x) (append-nil (bytes_of 4 last)))

abbrev pub offsets : List ℕ → List ℕ
offsets ls = offsets_from (head_length (length ls)) ls

pub no_words : (ls b : List ℕ) → b ≡ written 8 (words_to 0 (offsets ls)) b
unfolding end_to_end
no_words ls b = none_yet b [] 8

module _ (ls b : List ℕ) (j : ℕ) {b₁ : List ℕ} (room : head_length (length ls) ≤ length b)
    (e : b₁ ≡ written 8 (words_to j (offsets ls)) b) where
  pub word_more : (start : ℕ) {b₂ : List ℕ} → start ≡ head_length (length ls) + total (take j ls) → j < length ls →
      b₂ ≡ written (8 + 4 * j) (bytes_of 4 start) b₁ → b₂ ≡ written 8 (words_to (j + 1) (offsets ls)) b
  word_more start {b₂} is h d =
      let xs = offsets ls in
      let count = offsets-count (head_length (length ls)) ls in
      let ws = words_to j xs in
      let size : length ws ≡ 4 * j =
      words-length (take j xs) ∙ ap (λ (k : ℕ). 4 * k) (length-take-le j xs (omega (arith, count)))
      in
      let same : bytes_of 4 start ≡ bytes_of 4 (get_or xs j 0) =
      ap (bytes_of 4) (is ∙ sym (offset-is (head_length (length ls)) ls j h))
      in
      next 8 (4 * j) ws (bytes_of 4 start) b size (omega arith) e d
      ∙ ap (λ (z : List ℕ). written 8 (ws ++ z) b) same
      ∙ ap (λ (z : List ℕ). written 8 z b) (sym (words_more xs j (omega (arith, count))))

  pub all_words : length ls ≤ j → b₁ ≡ written 8 (offset_bytes ls) b
  unfolding offset_bytes
  all_words h =
      let all : take j (offsets ls) ≡ offsets ls =
      take_all j (offsets ls) (omega (arith, offsets-count (head_length (length ls)) ls))
      in
      e ∙ ap (λ (z : List ℕ). written 8 (end_to_end (map (bytes_of 4) z)) b) all

-- ---- the shelf, put part by part

module _ (s ls b : List ℕ) (size : ℕ) (is : size ≡ shelf_length ls) (fits : total ls ≡ length s)
    (room : size ≤ length b) where
  head-size : length (bytes_of 4 (length ls) ++ bytes_of 4 size) ≡ 8
  head-size = simp (length-append, length-bytes_of)

  offsets-size : length (offset_bytes ls) ≡ 4 * length ls
  unfolding offset_bytes
  offsets-size =
      words-length (offsets ls) ∙ ap (λ (k : ℕ). 4 * k) (offsets-count (head_length (length ls)) ls)

  shelf-is : bytes_of 4 (length ls) ++ bytes_of 4 size ++ offset_bytes ls ++ s ≡ shelf_of (cut_up s ls)
  unfolding shelf_of head_bytes offset_bytes shelf_length
  shelf-is = rw (cut-lengths s ls fits, cut-joined s ls fits, is)

  pub shelf-put : {b₁ b₂ b₃ b₄ : List ℕ} →
      b₁ ≡ written 0 (bytes_of 4 (length ls)) b → b₂ ≡ written 4 (bytes_of 4 size) b₁ →
      b₃ ≡ written 8 (offset_bytes ls) b₂ → b₄ ≡ written (8 + 4 * length ls) s b₃ →
      b₄ ≡ over (shelf_of (cut_up s ls)) b
  unfolding shelf_length
  shelf-put {b₁} {b₂} {b₃} {b₄} e₁ e₂ e₃ e₄ =
      let count = bytes_of 4 (length ls) in
      let front = count ++ bytes_of 4 size in
      let long : length (front ++ offset_bytes ls) ≡ 8 + 4 * length ls =
      length-append front (offset_bytes ls) ∙ omega (arith, head-size, offsets-size)
      in
      let two = next 0 4 count (bytes_of 4 size) b (length-bytes_of 4 (length ls)) (omega arith) e₁ e₂ in
      let three = next 0 8 front (offset_bytes ls) b head-size (omega arith) two e₃ in
      let last = e₄ ∙ ap (λ (k : ℕ). written k s b₃) (sym (zero-add (8 + 4 * length ls))) in
      next 0 (8 + 4 * length ls) (front ++ offset_bytes ls) s b long (omega arith) three last
      ∙ over-written (front ++ offset_bytes ls ++ s) b
      ∙ ap (λ (z : List ℕ). over z b) shelf-is

-- ---- the answers

pub size_is : (s ls : List ℕ) → total ls ≡ length s → 8 + 4 * length ls + length s ≡ shelf_length ls
unfolding shelf_length
size_is s ls e = omega arith

module _ (s ls : List ℕ) (m : ℕ) where
  pub not_good : good_lengths ls (length s) ≡ false → refused 27 0 ≡ writing_answer s ls m
  unfolding writing_answer writing_fault
  not_good e = rw e

-- of an answer a of reading the records
module _ (s ls : List ℕ) (a : Answer (Unit {0})) (e : a ≡ answer (first_refused 0 (cut_up s ls)) tt) where
  pub all_read : a ≡ Ok tt → first_refused 0 (cut_up s ls) ≡ none
  all_read d = given-none (first_refused 0 (cut_up s ls)) _ _ (sym e ∙ d)

  module _ (good : good_lengths ls (length s) ≡ true) (m : ℕ) where
    pub record-refused : (d : Refusal) → a ≡ Err d → Err d ≡ writing_answer s ls m
    unfolding writing_answer writing_fault
    record-refused d h = rw (good, refused-fault (first_refused 0 (cut_up s ls)) _ d (sym e ∙ h))

    module _ (d : a ≡ Ok tt) (size : ℕ) (is : size ≡ shelf_length ls) where
      pub no_room_lem : m < size → refused 15 size ≡ writing_answer s ls m
      unfolding writing_answer writing_fault no_room
      no_room_lem h = rw (good, all_read d, ← is, lt-ltb m size h)

      pub wrote : size ≤ m → Ok size ≡ writing_answer s ls m
      unfolding writing_answer writing_fault no_room
      wrote h = rw (good, all_read d, ← is, le-ltb m size h)

-- and the buffer
module _ (s ls b : List ℕ) where
  pub stands : (d : Refusal) → Err d ≡ writing_answer s ls (length b) → b ≡ written_buffer s ls b
  unfolding written_buffer
  stands d e = rw (← e)

  pub stored : (n : ℕ) {t : List ℕ} → Ok n ≡ writing_answer s ls (length b) → t ≡ over (shelf_of (cut_up s ls)) b →
      t ≡ written_buffer s ls b
  unfolding written_buffer
  stored n e d = rw (← e) d
