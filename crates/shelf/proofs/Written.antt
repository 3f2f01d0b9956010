-- A shelf written from records that the reader takes: it is accepted, and gives each of them back byte by byte; so
-- two different lists never have one shelf.
use Prim.Native.Nat.{ℕ, zero, suc, ◌+◌, ◌-◌, ◌*◌, ◌^◌, ◌≤◌, ◌<◌}
use native.Mathlib.Omega.{arith}
use native.Mathlib.Nat.{suc-mul}
use native.Mathlib.Numerals.{add-one}
use native.Mathlib.Decide.{dec_lt}
use mathlib.Core.Path.{◌≡◌, refl, sym, ap, ◌∙◌}
use mathlib.Core.Bool.{true}
use mathlib.Core.List.{List, [], ◌∷◌, ◌++◌, map, append_assoc}
use lib.ListN.{length, take, drop, get_or, length-append, length-map}
use lib.Seq.{take_at, drop_at, take_all}
use borrow.Author.Tests.{lt-ltb, le-leb, eq-eqb}
use Rattle.rules.specs.Bytes.{word32, bytes_of, total, table, end_to_end, All, empty, and}
use Rattle.rules.specs.Refusals.{none}
use Rattle.rules.specs.Reading.{reading_fault}
use Rattle.rules.specs.Shelf.{record_count, head_length, edge, rising, laid_out, part, records, first_refused}
use Rattle.rules.specs.Shelf.{shelf_fault}
use Rattle.rules.specs.Shelf.{offsets_from, head_bytes, shelf_of, Shelved, EveryShelf, OneList}
use Rattle.record_laws.proofs.Words.{length-bytes, word32-bytes}
use Rattle.record_reader.proofs.Promise.{taken-length}
use Rattle.shelf.proofs.Laws.{edge-inside, edge-end}

-- ---- records and their lengths

some_bytes : {rs : List (List ℕ)} → All (λ (r : List ℕ). reading_fault r ≡ none) rs →
    All (λ (l : ℕ). 0 < l) (map length rs)
some_bytes empty = empty
some_bytes (and {x = r} h hs) = and {x = length r} (omega (arith, (taken-length r h).0)) (some_bytes hs)

pub few_bytes : {rs : List (List ℕ)} → All (λ (r : List ℕ). reading_fault r ≡ none) rs →
    total (map length rs) ≤ length rs * 32064
unfolding total
few_bytes empty = omega arith
few_bytes (and {x = r} {xs = rs} h hs) = omega (arith, (taken-length r h).1, few_bytes hs, suc-mul (length rs) 32064)

pub joined_length : (rs : List (List ℕ)) → length (end_to_end rs) ≡ total (map length rs)
unfolding end_to_end total
joined_length [] = refl
joined_length (r ∷ rs) = length-append r (end_to_end rs) ∙ omega (arith, joined_length rs)

-- sums of the first lengths grow
grows : (ls : List ℕ) → All (λ (l : ℕ). 0 < l) ls → (k : ℕ) → k < length ls →
    total (take k ls) < total (take (suc k) ls)
unfolding total
grows [] f k h = absurd (omega arith)
grows (l ∷ ls) (and f fs) zero h = omega arith
grows (l ∷ ls) (and f fs) (suc k) h = omega (arith, grows ls fs k (omega arith))

-- ---- offsets

pub offset-is : (at : ℕ) (ls : List ℕ) (k : ℕ) → k < length ls →
    get_or (offsets_from at ls) k 0 ≡ at + total (take k ls)
unfolding offsets_from total
offset-is at [] k h = absurd (omega arith)
offset-is at (l ∷ ls) zero h = omega arith
offset-is at (l ∷ ls) (suc k) h = omega (arith, offset-is (at + l) ls k (omega arith))

offsets-below : (at m : ℕ) (ls : List ℕ) → at + total ls < m → All (λ (x : ℕ). x < m) (offsets_from at ls)
unfolding offsets_from total
offsets-below at m [] h = empty
offsets-below at m (l ∷ ls) h = and {x = at} (omega arith) (offsets-below (at + l) m ls (omega arith))

pub offsets-count : (at : ℕ) (ls : List ℕ) → length (offsets_from at ls) ≡ length ls
unfolding offsets_from
offsets-count at [] = refl
offsets-count at (l ∷ ls) = ap suc (offsets-count (at + l) ls)

pub words-length : (xs : List ℕ) → length (end_to_end (map (bytes_of 4) xs)) ≡ 4 * length xs
unfolding end_to_end
words-length [] = refl
words-length (x ∷ xs) =
    length-append (bytes_of 4 x) (end_to_end (map (bytes_of 4) xs)) ∙ omega (arith, length-bytes 4 x, words-length xs)

-- word j of some that stand behind p
words-read : (xs p t : List ℕ) (j : ℕ) → j < length xs → All (λ (x : ℕ). x < 2 ^ 32) xs →
    word32 (p ++ end_to_end (map (bytes_of 4) xs) ++ t) (length p + 4 * j) ≡ get_or xs j 0
unfolding end_to_end
words-read [] p t j h f = absurd (omega arith)
words-read (x ∷ xs) p t zero h (and f fs) =
    let more = end_to_end (map (bytes_of 4) xs) in
    let here : length p + 4 * 0 ≡ length p = omega arith in
    let same : p ++ (bytes_of 4 x ++ more) ++ t ≡ p ++ bytes_of 4 x ++ (more ++ t) = simp append_assoc in
    ap (word32 (p ++ (bytes_of 4 x ++ more) ++ t)) here
    ∙ ap (λ (z : List ℕ). word32 z (length p)) same
    ∙ word32-bytes p (more ++ t) x f
words-read (x ∷ xs) p t (suc j) h (and f fs) =
    let more = end_to_end (map (bytes_of 4) xs) in
    let size = length-append p (bytes_of 4 x) in
    let here : length p + 4 * suc j ≡ length (p ++ bytes_of 4 x) + 4 * j = omega (arith, length-bytes 4 x) in
    let same : p ++ (bytes_of 4 x ++ more) ++ t ≡ p ++ bytes_of 4 x ++ more ++ t = simp append_assoc in
    ap (word32 (p ++ (bytes_of 4 x ++ more) ++ t)) here
    ∙ ap (λ (z : List ℕ). word32 z (length (p ++ bytes_of 4 x) + 4 * j)) same
    ∙ words-read xs (p ++ bytes_of 4 x) t j (omega arith) fs

-- ---- the head

pub head-length : (ls : List ℕ) → length (head_bytes ls) ≡ head_length (length ls)
unfolding head_bytes
head-length ls =
    let head = head_length (length ls) in
    simp (length-append, length-bytes) (omega (arith, words-length (offsets_from head ls), offsets-count head ls))

-- ---- a shelf's edges and parts

-- parts that stand behind `pre`, from record j on
parts-back : (s pre : List ℕ) (j : ℕ) (rs : List (List ℕ)) → s ≡ pre ++ end_to_end rs →
    ((k : ℕ) → k ≤ length rs → edge s (j + k) ≡ length pre + total (take k (map length rs))) →
    table (length rs) j (part s) ≡ rs
unfolding table part end_to_end total
parts-back s pre j [] e h = refl
parts-back s pre j (r ∷ rs) e h =
    let more = end_to_end rs in
    let none : j + 0 ≡ j = omega arith in
    let start : edge s j ≡ length pre = ap (edge s) (sym none) ∙ h 0 (omega arith) ∙ omega arith in
    let end : edge s (j + 1) ≡ length pre + length r = h 1 (omega arith) ∙ omega arith in
    let size : edge s (j + 1) - edge s j ≡ length r = omega arith in
    let first : take (edge s (j + 1) - edge s j) (drop (edge s j) s) ≡ r =
    ap (λ (k : ℕ). take k (drop (edge s j) s)) size
    ∙ ap (λ (k : ℕ). take (length r) (drop k s)) start
    ∙ ap (λ (z : List ℕ). take (length r) (drop (length pre) z)) e
    ∙ ap (take (length r)) (drop_at pre (r ++ more) (length pre) refl)
    ∙ take_at r more (length r) refl
    in
    let rest : table (length rs) (suc j) (part s) ≡ rs =
    parts-back s (pre ++ r) (suc j) rs (e ∙ sym (append_assoc pre r more))
    (λ k l.
    let next : suc j + k ≡ j + suc k = omega arith in
    ap (edge s) next ∙ h (suc k) (omega arith) ∙ omega (arith, length-append pre r))
    in
    ap (λ (x : List ℕ). x ∷ table (length rs) (suc j) (part s)) first ∙ ap (λ (xs : List (List ℕ)). r ∷ xs) rest

rises : (s : List ℕ) (n j : ℕ) → ((k : ℕ) → k < j + n → edge s k < edge s (k + 1)) → rising s n j ≡ true
unfolding rising
rises s zero j h = refl
rises s (suc n) j h =
    rw (lt-ltb (edge s j) (edge s (j + 1)) (h j (omega arith)), rises s n (j + 1) (λ k l. h k (omega arith)))

pub none-refused : (j : ℕ) {rs : List (List ℕ)} → All (λ (r : List ℕ). reading_fault r ≡ none) rs →
    first_refused j rs ≡ none
unfolding first_refused
none-refused j empty = refl
none-refused j (and h hs) = rw (h, none-refused (j + 1) hs)

module _ (rs : List (List ℕ)) (h : Shelved rs) where
  s : List ℕ
  s = shelf_of rs

  ls : List ℕ
  ls = map length rs

  n : ℕ
  n = length rs

  count-lengths : length ls ≡ n
  unfolding ls n
  count-lengths = length-map rs length

  fits : head_length n + total ls < 2 ^ 32
  unfolding ls n
  fits = omega (arith, few_bytes h.each, h.few)

  whole : length s ≡ head_length n + total ls
  unfolding s ls n shelf_of
  whole =
      length-append (head_bytes (map length rs)) (end_to_end rs)
      ∙ omega (arith, head-length (map length rs), length-map rs length, joined_length rs)

  counted : record_count s ≡ n
  unfolding s ls n shelf_of head_bytes
  counted =
      let size = length (map length rs) in
      let head = head_length size in
      let second = bytes_of 4 (head + total (map length rs)) in
      let more = end_to_end (map (bytes_of 4) (offsets_from head (map length rs))) in
      let same : bytes_of 4 size ++ second ++ more ++ end_to_end rs ≡ bytes_of 4 size
      ++ (second ++ more ++ end_to_end rs) =
      simp append_assoc
      in
      ap (λ (z : List ℕ). word32 z 0) same
      ∙ word32-bytes [] (second ++ more ++ end_to_end rs) size (omega (arith, length-map rs length, h.few))
      ∙ length-map rs length

  total-said : word32 s 4 ≡ length s
  unfolding s ls n shelf_of head_bytes
  total-said =
      let size = length (map length rs) in
      let head = head_length size in
      let all = head + total (map length rs) in
      let more = end_to_end (map (bytes_of 4) (offsets_from head (map length rs))) in
      let front = bytes_of 4 size ++ bytes_of 4 all in
      let same : front ++ more ++ end_to_end rs ≡ front ++ (more ++ end_to_end rs) = simp append_assoc in
      let same_size = length-map rs length in
      ap (λ (z : List ℕ). word32 z 4) same
      ∙ ap (word32 (bytes_of 4 size ++ bytes_of 4 all ++ (more ++ end_to_end rs))) (sym (length-bytes 4 size))
      ∙ word32-bytes (bytes_of 4 size) (more ++ end_to_end rs) all (omega (arith, fits))
      ∙ omega (arith, whole)

  edge-is : (k : ℕ) → k ≤ n → edge s k ≡ head_length n + total (take k ls)
  unfolding s ls n shelf_of head_bytes
  edge-is k few = elim (dec_lt k n) [
    | yes l ↦
        let size = length (map length rs) in
        let head = head_length size in
        let front = bytes_of 4 size ++ bytes_of 4 (head + total (map length rs)) in
        let same_size = length-map rs length in
        let at : 8 + 4 * k ≡ length front + 4 * k =
        omega (
          arith,
          length-append (bytes_of 4 size) (bytes_of 4 (head + total (map length rs))),
          length-bytes 4 size,
          length-bytes 4 (head + total (map length rs)),
        )
        in
        edge-inside s k (omega (arith, counted))
        ∙ ap (word32 s) at
        ∙ words-read (offsets_from head (map length rs)) front (end_to_end rs) k
        (omega (arith, offsets-count head (map length rs)))
        (offsets-below head (2 ^ 32) (map length rs) (omega (arith, fits)))
        ∙ offset-is head (map length rs) k (omega arith)
        ∙ omega arith
    | no l ↦
        let all : take k ls ≡ ls = take_all k ls (omega (arith, count-lengths)) in
        edge-end s k (omega (arith, counted)) ∙ whole ∙ ap (λ (z : List ℕ). head_length n + total z) (sym all)
  ]

  shelf-is : s ≡ head_bytes ls ++ end_to_end rs
  unfolding s ls shelf_of
  shelf-is = refl

  few-of : (k : ℕ) → k ≤ length rs → k ≤ n
  unfolding n
  few-of k l = l

  all-some : All (λ (l : ℕ). 0 < l) ls
  unfolding ls
  all-some = some_bytes h.each

  few-records : n ≤ 4096
  unfolding n
  few-records = h.few

  edge-behind : (k : ℕ) → k ≤ length rs → edge s (0 + k) ≡ length (head_bytes ls) + total (take k (map length rs))
  unfolding ls
  edge-behind k l =
      let same : 0 + k ≡ k = omega arith in
      ap (edge s) same ∙ edge-is k (few-of k l) ∙ omega (arith, head-length ls, count-lengths)

  back : records s ≡ rs
  unfolding records n
  back = ap (λ (m : ℕ). table m 0 (part s)) counted ∙ parts-back s (head_bytes ls) 0 rs shelf-is edge-behind

  laid : laid_out s ≡ true
  unfolding laid_out total
  laid =
      let size = whole in
      let first : edge s 0 ≡ head_length n = edge-is 0 (omega arith) ∙ omega arith in
      let up : rising s n 0 ≡ true =
      rises s n 0
      (λ k l. omega (
        arith,
        edge-is k (omega arith),
        edge-is (k + 1) (omega arith),
        grows ls all-some k (omega (arith, count-lengths)),
        ap (λ (z : ℕ). total (take z ls)) (add-one k),
      ))
      in
      rw (
        counted,
        le-leb 8 (length s) (omega arith),
        le-leb n 4096 few-records,
        le-leb (head_length n) (length s) (omega arith),
        eq-eqb (word32 s 4) (length s) total-said,
        eq-eqb (edge s 0) (head_length n) first,
        up,
      )

  accepted : shelf_fault s ≡ none
  unfolding shelf_fault
  accepted = rw (laid, back) (none-refused 0 h.each)

pub every-shelf : EveryShelf
unfolding s
every-shelf rs h = record { accepted = accepted rs h; back = back rs h }

pub one_list : OneList
unfolding s
one_list rs qs h k e = sym (back rs h) ∙ ap records e ∙ back qs k
