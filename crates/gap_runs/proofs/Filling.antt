-- How the code fills its entries: one gap's runs added to a sum, the start, and one gap more from the last entry to
-- the first.
use Prim.Native.Nat.{ℕ, zero, suc, ◌+◌, ◌-◌, ◌^◌, ◌≤◌, ◌<◌}
use native.Mathlib.Omega.{arith}
use native.Mathlib.Nat.{zero-add, le_trans, pow-le-pow_right, zero-lt-suc}
use native.Mathlib.Numerals.{add-one}
use mathlib.Core.Path.{◌≡◌, refl, sym, ap, ◌∙◌}
use mathlib.Core.List.{List, ◌∷◌, ◌++◌, append-nil, append_assoc}
use mathlib.Core.Bool.{Bool, true, false}
use lib.ListN.{length, get_or, set, take, drop, replicate, length-append, length-take}
use lib.Seq.{set_at, take-suc, get_or-take, length-take-le, take_at, take_all}
use lib.Dec.{leb, lit≤}
use borrow.Author.Tests.{le-leb, le-ltb}
use Rattle.rules.specs.Bytes.{pick, total, count, table}
use Rattle.rules.proofs.Laws.Lists.{length-table}
use Rattle.luma_laws.proofs.Tables.{get_or-table, same-table}
use Rattle.rules.specs.Seal.{no_room, over}
use Rattle.std.specs.Prelude.{Ok}
use Rattle.rules.specs.GapRuns.{gap_lost, lost_in, gaps, runs, runs_losing, entry_count, gap_table, gap_fault}
use Rattle.rules.specs.GapRuns.{gap_answer, table_after}
use Rattle.gap_runs.proofs.Counting.{gaps-table, total-same, more-runs, few as few-runs, no-further}
use Rattle.gap_runs.specs.Entries.{entry_at, one_more, Small, started, grown}

-- ---- sums over tables

-- the sum of what is left of a table from place i on: its first and the rest; nothing behind its end
pub total_left : (n i : ℕ) (f : ℕ → ℕ) → i < n →
    total (table (n - i) i f) ≡ f i + total (table (n - (i + 1)) (i + 1) f)
unfolding total table
total_left n i f h =
    let more : n - i ≡ suc (n - (i + 1)) = omega arith in
    rw (more, add-one)

pub total-all : (n i : ℕ) (f : ℕ → ℕ) → n ≤ i → total (table (n - i) i f) ≡ 0
unfolding total table
total-all n i f h = let z : n - i ≡ 0 = omega arith in rw z

-- ---- entries with one gap more

pub over-gaps : (xs : List ℕ) (l : ℕ) → one_more xs l ≡ total (table 16 0 (λ g. entry_at xs l (gap_lost g)))
unfolding one_more
over-gaps xs l = ap total (gaps-table (λ g. entry_at xs l (gap_lost g)))

pub entry-few : (xs : List ℕ) (l lost : ℕ) → Small (l + 1) xs → entry_at xs l lost ≤ 2 ^ 56
entry-few xs l lost h = go (leb lost l)
  where
    go : (b : Bool) → pick b (get_or xs (l - lost) 0) 0 ≤ 2 ^ 56
    go true = h.few (l - lost) (omega arith)
    go false = omega arith

-- ---- one gap more, from the last entry to the first

-- entry l looks at no later ones
same-entry : (xs ys : List ℕ) (l lost : ℕ) → take (l + 1) xs ≡ take (l + 1) ys →
    entry_at xs l lost ≡ entry_at ys l lost
same-entry xs ys l lost e =
    ap (λ (k : ℕ). pick (leb lost l) k 0)
    (sym (get_or-take (l + 1) xs (l - lost) 0 (omega arith)) ∙ ap (λ (zs : List ℕ). get_or zs (l - lost) 0) e
    ∙ get_or-take (l + 1) ys (l - lost) 0 (omega arith))

same_more : (xs ys : List ℕ) (l : ℕ) → take (l + 1) xs ≡ take (l + 1) ys → one_more xs l ≡ one_more ys l
unfolding one_more
same_more xs ys l e = total-same (λ g. entry_at xs l (gap_lost g)) (λ g. entry_at ys l (gap_lost g)) gaps
    (λ g. same-entry xs ys l (gap_lost g) e)

-- those from l on are new
abbrev pub partly : ℕ → List ℕ → List ℕ
partly l ys = take l ys ++ table (length ys - l) l (one_more ys)

pub none-new : (ys : List ℕ) → partly (length ys) ys ≡ ys
unfolding table
none-new ys =
    let none : length ys - length ys ≡ 0 = omega arith in
    rw (none, append-nil) (take_all (length ys) ys (omega arith))

pub all_new : (ys : List ℕ) → partly 0 ys ≡ grown ys
all_new ys = let all : length ys - 0 ≡ length ys = omega arith in rw all

module _ (l : ℕ) (ys : List ℕ) (inside : l < length ys) where
  pub front : take (l + 1) (partly (l + 1) ys) ≡ take (l + 1) ys
  front =
      take_at (take (l + 1) ys) (table (length ys - (l + 1)) (l + 1) (one_more ys)) (l + 1)
      (length-take-le (l + 1) ys (omega arith))

  pub partly-small : Small (length ys) ys → Small (l + 1) (partly (l + 1) ys)
  partly-small s =
      record {
        long = simp (length-append, length-take, length-table) (omega arith);
        few = λ k p.
            omega (
              arith,
              s.few k (omega arith),
              get_or-take (l + 1) ys k 0 p,
              get_or-take (l + 1) (partly (l + 1) ys) k 0 p,
              ap (λ (zs : List ℕ). get_or zs k 0) front,
            );
      }

  pub newer : set (partly (l + 1) ys) l (one_more (partly (l + 1) ys) l) ≡ partly l ys
  unfolding table
  newer =
      let more : length ys - l ≡ suc (length ys - (l + 1)) = omega arith in
      let rest = table (length ys - (l + 1)) (suc l) (one_more ys) in
      let first : length (take l ys) ≡ l = length-take-le l ys (omega arith) in
      let old : partly (l + 1) ys ≡ take l ys ++ get_or ys l 0 ∷ rest =
      rw (add-one, take-suc ys l 0 inside) (simp append_assoc) in
      let new : partly l ys ≡ take l ys ++ one_more ys l ∷ rest = rw (more, add-one) in
      ap (λ (zs : List ℕ). set zs l (one_more (partly (l + 1) ys) l)) old
      ∙ set_at (take l ys) (get_or ys l 0) rest (one_more (partly (l + 1) ys) l) l first
      ∙ ap (λ (x : ℕ). take l ys ++ x ∷ rest) (same_more (partly (l + 1) ys) ys l front)
      ∙ sym new

-- ---- all gaps

-- the entries of m gaps
abbrev pub holding : ℕ → ℕ → List ℕ
holding m size = table size 0 (runs_losing m)

rest-zero : (n from : ℕ) → 0 < from → table n from (runs_losing 0) ≡ replicate n 0
unfolding table
rest-zero zero from h = refl
rest-zero (suc n) from h = rw (none from h, rest-zero n (suc from) (omega arith))
  where
    none : (l : ℕ) → 0 < l → runs_losing 0 l ≡ 0
    none l h = no-further 0 l (omega arith)

pub holds-start : (size : ℕ) → 1 ≤ size → started size ≡ holding 0 size
unfolding table runs_losing runs count lost_in total
holds-start zero h = absurd (omega arith)
holds-start (suc n) h =
    let less : suc n - 1 ≡ n = omega arith in
    rw (less, rest-zero n 1 (omega arith))

module _ (m size : ℕ) where
  entry-held : (k : ℕ) → k < size → get_or (holding m size) k 0 ≡ runs_losing m k
  entry-held k h = get_or-table size 0 (runs_losing m) k 0 h ∙ ap (runs_losing m) (zero-add k)

  pub holds-small : m < 15 → Small (length (holding m size)) (holding m size)
  holds-small h =
      rw (length-table size 0 (runs_losing m)) record {
        long = omega (arith, length-table size 0 (runs_losing m));
        few = λ k p.
            rw (entry-held k p) (le_trans (few-runs m k)
            (le_trans (pow-le-pow_right {n = 16} (zero-lt-suc 15) {i = m} {j = 14} (omega arith)) (lit≤ tt)));
      }

  more-held : (l : ℕ) → l < size → one_more (holding m size) l ≡ runs_losing (suc m) l
  unfolding one_more
  more-held l h =
      total-same (λ g. entry_at (holding m size) l (gap_lost g))
      (λ g. pick (leb (gap_lost g) l) (runs_losing m (l - gap_lost g)) 0) gaps
      (λ g. ap (λ (k : ℕ). pick (leb (gap_lost g) l) k 0) (entry-held (l - gap_lost g) (omega arith)))
      ∙ sym (more-runs m l)

  pub holds_more : grown (holding m size) ≡ holding (m + 1) size
  holds_more =
      rw (length-table size 0 (runs_losing m))
      (same-table size 0 (one_more (holding m size)) (runs_losing (m + 1))
      (λ l h. more-held l (omega arith) ∙ ap (λ (k : ℕ). runs_losing k l) (sym (add-one m))))

-- ---- a whole call

module _ (n : ℕ) (ys : List ℕ) (few : n ≤ 15) (room : entry_count n ≤ length ys) where
  pub done-answer : Ok (entry_count n) ≡ gap_answer n (length ys)
  unfolding gap_answer gap_fault no_room
  done-answer = rw (le-leb n 15 few, le-ltb (length ys) (entry_count n) room)

  pub done-entries : holding n (entry_count n) ++ drop (entry_count n) ys ≡ table_after n ys
  unfolding table_after gap_answer gap_fault no_room over gap_table
  done-entries =
      rw (le-leb n 15 few, le-ltb (length ys) (entry_count n) room, length-table (entry_count n) 0 (runs_losing n))
