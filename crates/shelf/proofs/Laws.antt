-- The laws of a shelf: its edges rise to its end, its parts joined are what stands behind the head, and 64 bits hold
-- its total of lost cells.
use Prim.Native.Nat.{ℕ, zero, suc, ◌+◌, ◌-◌, ◌*◌, ◌^◌, ◌≤◌, ◌<◌}
use native.Mathlib.Omega.{arith}
use native.Mathlib.Nat.{add-zero, zero-add, suc-mul}
use native.Mathlib.Numerals.{add-one}
use mathlib.Core.Path.{◌≡◌, refl, ap, ◌∙◌}
use mathlib.Core.Bool.{Bool, true, false}
use mathlib.Core.List.{List, ◌∷◌, map}
use lib.ListN.{length, take, drop, length-drop, length-take, get_or-eq_default}
use lib.Seq.{take_all, drop-drop, take-add, get_or-drop, get_or-take}
use lib.Dec.{leb, ltb, eqb}
use borrow.Author.Tests.{ltb-true, ltb-false, leb-true, eqb-true, lt-ltb, le-ltb}
use Rattle.rules.specs.Bytes.{byte, word32, total, table, end_to_end}
use Rattle.rules.specs.Reading.{header_answer, unit_answer}
use Rattle.record_laws.proofs.Words.{EachByte}
use Rattle.rules.proofs.Laws.Lists.{both}
use Rattle.record_reader.proofs.Promise.{units-few, lost-fits}
use Rattle.rules.specs.Shelf.{record_count, head_length, edge, rising, laid_out, part, records}
use Rattle.rules.specs.Shelf.{units_given, lost_given, record_lost, shelf_lost, PartsAreTheShelf}

-- ---- edges

pub edge-inside : (s : List ℕ) (j : ℕ) → j < record_count s → edge s j ≡ word32 s (8 + 4 * j)
unfolding edge
edge-inside s j h = rw (lt-ltb j (record_count s) h)

pub edge-end : (s : List ℕ) (j : ℕ) → record_count s ≤ j → edge s j ≡ length s
unfolding edge
edge-end s j h = rw (le-ltb j (record_count s) h)

module _ (s : List ℕ) where
  -- of n rising edges from edge i on, each is below the next, and the first at most the last
  rising-split : (n i : ℕ) → rising s (suc n) i ≡ true → (edge s i < edge s (i + 1)) × (rising s n (i + 1) ≡ true)
  unfolding rising
  rising-split n i e =
      let b = both (ltb (edge s i) (edge s (i + 1))) (rising s n (i + 1)) e in
      (ltb-true (edge s i) (edge s (i + 1)) b.0, b.1)

  rising-at : (n i k : ℕ) → rising s n i ≡ true → k < n → edge s (i + k) < edge s (i + k + 1)
  rising-at zero i k e h = absurd (omega arith)
  rising-at (suc n) i zero e h = rw (add-zero i) (rising-split n i e).0
  rising-at (suc n) i (suc k) e h =
      let next : i + suc k ≡ i + 1 + k = omega arith in
      rw next (rising-at n (i + 1) k (rising-split n i e).1 (omega arith))

  rising-last : (n i : ℕ) → rising s n i ≡ true → edge s i ≤ edge s (i + n)
  rising-last zero i e = rw (add-zero i) (omega arith)
  rising-last (suc n) i e =
      let next : i + suc n ≡ i + 1 + n = omega arith in
      rw next (omega (arith, (rising-split n i e).0, rising-last n (i + 1) (rising-split n i e).1))

  rising-below : (n i k : ℕ) → rising s n i ≡ true → k ≤ n → edge s (i + k) ≤ edge s (i + n)
  rising-below n i zero e h = rw (add-zero i) (rising-last n i e)
  rising-below zero i (suc k) e h = absurd (omega arith)
  rising-below (suc n) i (suc k) e h =
      let near : i + suc k ≡ i + 1 + k = omega arith in
      let far : i + suc n ≡ i + 1 + n = omega arith in
      rw (near, far) (rising-below n (i + 1) k (rising-split n i e).1 (omega arith))

  -- the parts of n rising edges, joined
  joined-from : (n i : ℕ) → rising s n i ≡ true →
      end_to_end (table n i (part s)) ≡ take (edge s (i + n) - edge s i) (drop (edge s i) s)
  unfolding table end_to_end part
  joined-from zero i e = let z : edge s (i + 0) - edge s i ≡ 0 = rw (add-zero i) (omega arith) in rw z
  joined-from (suc n) i e =
      let f = rising-split n i e in
      let next : i + suc n ≡ i + 1 + n = omega arith in
      let size : edge s (i + suc n) - edge s i ≡ (edge s (i + 1) - edge s i) + (edge s (i + suc n) - edge s (i + 1)) =
      rw next (omega (arith, f.0, rising-last n (i + 1) f.1)) in
      let seam : edge s i + (edge s (i + 1) - edge s i) ≡ edge s (i + 1) = omega (arith, f.0) in
      rw (
        size,
        take-add (edge s (i + 1) - edge s i) (edge s (i + suc n) - edge s (i + 1)) (drop (edge s i) s),
        drop-drop (edge s (i + 1) - edge s i) (edge s i) s,
        seam,
        ← add-one i,
        joined-from n (i + 1) f.1,
        next,
      )

-- ---- what is laid out as a shelf

pub record LaidOut (s : List ℕ) : Type 0 where
  pub few : record_count s ≤ 4096
  pub head : head_length (record_count s) ≤ length s
  pub size : word32 s 4 ≡ length s
  pub first : edge s 0 ≡ head_length (record_count s)
  pub rises : rising s (record_count s) 0 ≡ true

pub laid_out_lem : (s : List ℕ) → laid_out s ≡ true → LaidOut s
unfolding laid_out
laid_out_lem s e =
    let n = record_count s in
    let b₁ = both _ (rising s n 0) e in
    let b₂ = both _ (eqb (edge s 0) (head_length n)) b₁.0 in
    let b₃ = both _ (eqb (word32 s 4) (length s)) b₂.0 in
    let b₄ = both _ (leb (head_length n) (length s)) b₃.0 in
    let b₅ = both (leb 8 (length s)) (leb n 4096) b₄.0 in
    record {
      few = leb-true n 4096 b₅.1;
      head = leb-true (head_length n) (length s) b₄.1;
      size = eqb-true (word32 s 4) (length s) b₃.1;
      first = eqb-true (edge s 0) (head_length n) b₂.1;
      rises = b₁.1;
    }

module _ (s : List ℕ) (l : LaidOut s) where
  -- record j has its part within the shelf
  pub part-inside : (j : ℕ) → j < record_count s → (edge s j < edge s (j + 1)) × (edge s (j + 1) ≤ length s)
  part-inside j h =
      let n = record_count s in
      let low : edge s j < edge s (j + 1) = rw zero-add at (rising-at s n 0 j l.rises h) in
      let high : edge s (j + 1) ≤ edge s n =
      rw (zero-add (j + 1), zero-add n) at (rising-below s n 0 (j + 1) l.rises (omega arith))
      in
      (low, omega (arith, high, edge-end s n (omega arith)))

  -- the parts joined are what stands behind the head
  pub joined : end_to_end (records s) ≡ drop (head_length (record_count s)) s
  unfolding records
  joined =
      let n = record_count s in
      let end : edge s (0 + n) ≡ length s = rw (zero-add n) (edge-end s n (omega arith)) in
      joined-from s n 0 l.rises
      ∙ rw (end, l.first)
      (take_all (length s - head_length n) (drop (head_length n) s) (simp length-drop (omega arith)))

pub parts-are-the-shelf : PartsAreTheShelf
parts-are-the-shelf s e = joined s (laid_out_lem s e)

-- ---- lost cells

-- what is left of a sum over a table
pub table-next : (f : ℕ → ℕ) (n i : ℕ) → i < n →
    total (table (n - i) i f) ≡ f i + total (table (n - (i + 1)) (i + 1) f)
unfolding table total
table-next f n i h =
    let more : n - i ≡ suc (n - (i + 1)) = omega arith in
    rw (more, add-one i)

table-most : (f : ℕ → ℕ) (most n i : ℕ) → ((k : ℕ) → f k ≤ most) → total (table n i f) ≤ n * most
unfolding table total
table-most f most zero i h = omega arith
table-most f most (suc n) i h = omega (arith, h i, table-most f most n (suc i) h, suc-mul n most)

map-table : {A : Type 0} (g : A → ℕ) (f : ℕ → A) (n i : ℕ) → map g (table n i f) ≡ table n i (λ (k : ℕ). g (f k))
unfolding table
map-table g f zero i = refl
map-table g f (suc n) i = ap (λ (xs : List ℕ). g (f i) ∷ xs) (map-table g f n (suc i))

-- a record's: what the reader promises of units and lost holds every sum
module _ (r : List ℕ) where
  pub record-fits : EachByte r → record_lost r ≤ 3221225471250
  unfolding record_lost
  record-fits b =
      omega (
        arith,
        units-few r,
        table-most (λ (i : ℕ). lost_given (unit_answer r i)) 4294967295 (units_given (header_answer r)) 0
            (lost-fits r b),
      )

module _ (s : List ℕ) where
  part_bytes : EachByte s → (j : ℕ) → EachByte (part s j)
  unfolding part
  part_bytes b j i = go (edge s (j + 1) - edge s j) (ltb i (edge s (j + 1) - edge s j)) refl
    where
      go : (n : ℕ) (t : Bool) → ltb i n ≡ t → byte (take n (drop (edge s j) s)) i < 256
      go n true e =
          rw (get_or-take n (drop (edge s j) s) i 0 (ltb-true i n e), get_or-drop (edge s j) s i 0) (b (edge s j + i))
      go n false e =
          let short : length (take n (drop (edge s j) s)) ≤ i = simp length-take (omega (arith, ltb-false i n e)) in
          rw (get_or-eq_default (take n (drop (edge s j) s)) 0 short) (omega arith)

  pub shelf-lost : shelf_lost s ≡ total (table (record_count s) 0 (λ (j : ℕ). record_lost (part s j)))
  unfolding shelf_lost records
  shelf-lost = ap total (map-table record_lost (part s) (record_count s) 0)

  -- 64 bits hold the total
  pub shelf-fits : EachByte s → laid_out s ≡ true → shelf_lost s < 2 ^ 64
  shelf-fits b e =
      omega (
        arith,
        shelf-lost,
        (laid_out_lem s e).few,
        table-most (λ (j : ℕ). record_lost (part s j)) 3221225471250 (record_count s) 0
            (λ j. record-fits (part s j) (part_bytes b j)),
      )
