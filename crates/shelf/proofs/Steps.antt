-- Reading a shelf, step by step: what each test and each record that was read leaves to be shown.
use Prim.Native.Nat.{ℕ, zero, suc, ◌+◌, ◌-◌, ◌≤◌, ◌<◌}
use native.Mathlib.Omega.{arith}
use native.Mathlib.Nat.{sub-zero, zero-add}
use native.Mathlib.Numerals.{add-one}
use mathlib.Core.Path.{◌≡◌, refl, sym, ap, ◌∙◌}
use mathlib.Core.Bool.{Bool, true, false, ◌&&◌}
use mathlib.Core.List.{List}
use lib.ListN.{length, take, drop}
use lib.Dec.{leb, ltb}
use borrow.Author.Tests.{lt-ltb, le-ltb, le-leb, lt-leb, eq-eqb, ne_eqb}
use Rattle.std.specs.List.{list_all, range_with_len}
use Rattle.std.specs.Prelude.{Ok, Err}
use Rattle.rules.specs.declared.refusals.Refusal.{Refusal}
use Rattle.rules.proofs.Laws.Answers.{given-none, given-same, refused-fault}
use Rattle.rules.specs.declared.ShelfTotals.{ShelfTotals}
use Rattle.rules.specs.Refusals.{Answer, refused, Fault, none, fault, unless, ◌or_else◌, answer}
use Rattle.rules.specs.Bytes.{word32, total, table}
use Rattle.rules.specs.Reading.{reading_fault, header_answer, unit_at, unit_answer}
use Rattle.record_reader.proofs.Answers.{AcceptedAs}
use Rattle.rules.specs.Shelf.{record_count, head_length, edge, rising, laid_out, part, records, units_given}
use Rattle.rules.specs.Shelf.{lost_given, record_lost, shelf_lost, refused_at, first_refused, shelf_fault, part_fault}
use Rattle.rules.specs.Shelf.{shelf_answer, part_answer}
use Rattle.record_reader.proofs.Promise.{units-given, lost-row}
use Rattle.shelf.proofs.Laws.{laid_out_lem, table-next, shelf-lost}

-- ---- edges, one by one

-- of n edges from edge j on
pub rising-all : (s : List ℕ) (n j : ℕ) →
    list_all (λ k. ltb (edge s k) (edge s (k + 1))) (range_with_len j n) ≡ rising s n j
unfolding rising
rising-all s zero j = refl
rising-all s (suc n) j = rw (rising-all s n (j + 1))

-- ---- the layout, test by test

module _ (s : List ℕ) where
  pub no_words : length s < 8 → false ≡ laid_out s
  unfolding laid_out
  no_words h = rw (lt-leb 8 (length s) h)

  module _ (h₁ : 8 ≤ length s) (n : ℕ) (is-n : n ≡ record_count s) where
    pub too_many : 4096 < n → false ≡ laid_out s
    unfolding laid_out
    too_many h = rw (le-leb 8 (length s) h₁, lt-leb (record_count s) 4096 (omega arith))

    module _ (h₂ : n ≤ 4096) where
      pub no-head : length s < head_length n → false ≡ laid_out s
      unfolding laid_out
      no-head h =
          rw (
            le-leb 8 (length s) h₁,
            le-leb (record_count s) 4096 (omega arith),
            lt-leb (head_length (record_count s)) (length s) (omega arith),
          )

      module _ (h₃ : head_length n ≤ length s) (w : ℕ) (is-w : w ≡ word32 s 4) where
        head-right :
            (leb 8 (length s) && leb (record_count s) 4096 && leb (head_length (record_count s)) (length s)) ≡ true
        head-right =
            rw (
              le-leb 8 (length s) h₁,
              le-leb (record_count s) 4096 (omega arith),
              le-leb (head_length (record_count s)) (length s) (omega arith),
            )

        pub other-size : (w ≡ length s → ⊥) → false ≡ laid_out s
        unfolding laid_out
        other-size h = rw (head-right, ← is-w, ne_eqb w (length s) h)

        module _ (h₄ : w ≡ length s) (first : ℕ) (is-first : first ≡ edge s 0) where
          pub other-first : (first ≡ head_length n → ⊥) → false ≡ laid_out s
          unfolding laid_out
          other-first h =
              rw (head-right, ← is-w, eq-eqb w (length s) h₄, ← is-first, ← is-n, ne_eqb first (head_length n) h)

          pub as-rising : first ≡ head_length n → (b : Bool) → b ≡ rising s n 0 → b ≡ laid_out s
          unfolding laid_out
          as-rising h b e =
              rw (head-right, ← is-w, eq-eqb w (length s) h₄, ← is-first, ← is-n, eq-eqb first (head_length n) h) e

-- ---- sums, one by one

module _ (f : ℕ → ℕ) (n i lost all : ℕ) (rest : lost + total (table (n - i) i f) ≡ all) where
  pub lost-more : (x : ℕ) → i < n → x ≡ f i → lost + x + total (table (n - (i + 1)) (i + 1) f) ≡ all
  lost-more x h e = omega (arith, rest, table-next f n i h, e)

  pub lost-end : n ≤ i → lost ≡ all
  unfolding table total
  lost-end h = let z : n - i ≡ 0 = omega arith in let k : lost + 0 ≡ all = rw z at rest in omega arith

-- n units from unit j on, of a record that the reader takes
units-lost : (r : List ℕ) → reading_fault r ≡ none → (n j : ℕ) → j + n ≤ units_given (header_answer r) →
    table n j (λ (k : ℕ). (unit_at r k).lost) ≡ table n j (λ (k : ℕ). lost_given (unit_answer r k))
unfolding table
units-lost r e zero j h = refl
units-lost r e (suc n) j h = rw (lost-row r e j (omega arith), units-lost r e n (suc j) (omega arith))

pub lost-units : (r : List ℕ) (u : ℕ) → reading_fault r ≡ none → u ≡ units_given (header_answer r) →
    total (table u 0 (λ (k : ℕ). (unit_at r k).lost)) ≡ record_lost r
unfolding record_lost
lost-units r u f e = rw (e, units-lost r f (units_given (header_answer r)) 0 (omega arith))

-- nothing is summed yet
pub lost-records : (s : List ℕ) (n : ℕ) → n ≡ record_count s →
    0 + total (table (n - 0) 0 (λ (k : ℕ). record_lost (part s k))) ≡ shelf_lost s
lost-records s n e = rw (sub-zero n, zero-add, shelf-lost s, e)

-- ---- one record

module _ (r : List ℕ) (u s : ℕ) (a : AcceptedAs r u s) where
  pub record-given : (reading_fault r ≡ none) × (u ≡ units_given (header_answer r))
  record-given = (a.fault, a.units ∙ sym (units-given r a.fault))

  pub record-done : (x : ℕ) → x ≡ record_lost r → Ok x ≡ answer (reading_fault r) (record_lost r)
  record-done x k = rw (a.fault, k)

pub record-refused : (r : List ℕ) (d : Refusal) → reading_fault r ≡ fault d.number d.place →
    Err d ≡ answer (reading_fault r) (record_lost r)
record-refused r d k = rw k

-- ---- records, one by one

pub records-start : (s : List ℕ) (n : ℕ) → n ≡ record_count s →
    first_refused 0 (records s) ≡ first_refused 0 (table (n - 0) 0 (part s))
unfolding records
records-start s n e = rw (sub-zero n, e)

module _ (s : List ℕ) (n j : ℕ) (h : j < n) where
  refused-next : first_refused j (table (n - j) j (part s)) ≡ (refused_at (reading_fault (part s j)) j or_else
      first_refused (j + 1) (table (n - (j + 1)) (j + 1) (part s)))
  unfolding first_refused table
  refused-next =
      let more : n - j ≡ suc (n - (j + 1)) = omega arith in
      rw (more, add-one j)

  -- an answer of reading the part from a to b
  module _ (a b : ℕ) (is-a : a ≡ edge s j) (is_b : b ≡ edge s (j + 1)) (o : Answer ℕ)
      (e : o ≡ answer (reading_fault (take (b - a) (drop a s))) (record_lost (take (b - a) (drop a s)))) where
    read-part : o ≡ answer (reading_fault (part s j)) (record_lost (part s j))
    unfolding part
    read-part = rw (← is-a, ← is_b) e

    pub record-read : (m : ℕ) → o ≡ Ok m → (reading_fault (part s j) ≡ none) × (m ≡ record_lost (part s j))
    record-read m d =
        let e = sym read-part ∙ d in
        (given-none (reading_fault (part s j)) _ _ e, sym (given-same (reading_fault (part s j)) _ _ e))

    pub records-more : (f : Fault) (m : ℕ) → f ≡ first_refused j (table (n - j) j (part s)) → o ≡ Ok m →
        f ≡ first_refused (j + 1) (table (n - (j + 1)) (j + 1) (part s))
    records-more f m rest d = rest ∙ (refused-next ∙ rw (record-read m d).0)

    pub records-stop : (f : Fault) (d : Refusal) → f ≡ first_refused j (table (n - j) j (part s)) → o ≡ Err d →
        f ≡ fault 28 j
    records-stop f d rest e =
        rest ∙ (refused-next ∙ rw (refused-fault (reading_fault (part s j)) _ d (sym read-part ∙ e)))

pub records-end : (s : List ℕ) (n j : ℕ) (f : Fault) → n ≤ j → f ≡ first_refused j (table (n - j) j (part s)) →
    f ≡ none
unfolding first_refused table
records-end s n j f h e = let z : n - j ≡ 0 = omega arith in e ∙ rw z

-- ---- the answers

module _ (s : List ℕ) where
  pub not-laid-out : laid_out s ≡ false → refused 27 0 ≡ shelf_answer s
  unfolding shelf_answer shelf_fault
  not-laid-out e = rw e

  pub records-answer : laid_out s ≡ true → (a : Answer ShelfTotals) →
      a ≡ answer (first_refused 0 (records s)) (record { records = record_count s; lost = shelf_lost s }) →
      a ≡ shelf_answer s
  unfolding shelf_answer shelf_fault
  records-answer e a k = k ∙ rw e

-- of an answer a of reading the shelf
module _ (s : List ℕ) (a : Answer ShelfTotals) (e : a ≡ shelf_answer s) where
  module _ (t : ShelfTotals) (d : a ≡ Ok t) where
    -- a shelf that is given has no fault
    pub shelf-given : (shelf_fault s ≡ none) × (t.records ≡ record_count s)
    unfolding shelf_answer
    shelf-given =
        let same = given-same (shelf_fault s) _ t (sym e ∙ d) in
        (given-none (shelf_fault s) _ t (sym e ∙ d), sym (ap (λ (x : ShelfTotals). x.records) same))

    pub shelf-laid-out : laid_out s ≡ true
    unfolding shelf_fault
    shelf-laid-out = go (laid_out s) shelf-given.0
      where
        go : (b : Bool) → (unless b 27 or_else first_refused 0 (records s)) ≡ none → b ≡ true
        go true k = refl
        go false k = absurd (let z : ◌≡◌ {A = ℕ} 0 1 = cc in omega arith)

    -- the head is whole
    pub head-given : (t.records ≡ record_count s) × (head_length t.records ≤ length s)
    head-given = (shelf-given.1, omega (arith, (laid_out_lem s shelf-laid-out).head, shelf-given.1))

    pub part-missing : (j : ℕ) → t.records ≤ j → refused 19 0 ≡ part_answer s j
    unfolding part_answer part_fault
    part-missing j h = rw (shelf-given.0, le-ltb j (record_count s) (omega (arith, shelf-given.1)))

    pub part-given : (j x y : ℕ) → j < t.records → x ≡ edge s j → y ≡ edge s (j + 1) →
        Ok (record { start = x; end = y }) ≡ part_answer s j
    unfolding part_answer part_fault
    part-given j x y h is_x is_y =
        rw (shelf-given.0, lt-ltb j (record_count s) (omega (arith, shelf-given.1)), is_x, is_y)

  pub part-refused : (d : Refusal) → a ≡ Err d → (j : ℕ) → Err d ≡ part_answer s j
  unfolding shelf_answer part_answer part_fault
  part-refused d h j = rw (refused-fault (shelf_fault s) _ d (sym e ∙ h))
