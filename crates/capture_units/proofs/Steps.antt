-- What the table and the state stand for, cell by cell: with no code.
use Rattle.std.proofs.Common.{◌≡◌, ℕ, zero, suc, ◌+◌, ◌*◌, ◌%◌, ◌^◌, ◌<◌, ◌≤◌, Bool, true, false, ltb, List, []}
use Rattle.std.proofs.Common.{◌∷◌, ◌++◌, length, get_or, set, sym, refl, ap, ◌∙◌, append-nil, arith}
use Rattle.std.proofs.Common.{length-append, length-set, get_or-set_other, get_or-set_same, le-ltb, lt-ltb}
use Rattle.std.proofs.Common.{eq-eqb, ne_eqb}
use native.Mathlib.Decide.{dec_lt}
use lib.ListN.{get_or-append}
use lib.Seq.{get_or_at}
use Rattle.rules.specs.declared.UnitRow.{UnitRow}
use Rattle.rules.specs.Bytes.{pick, total}
use Rattle.capture_cells.specs.declared.Cell.{Cell}
use Rattle.rules.specs.Packets.{is_damaged}
use Rattle.capture_laws.proofs.UnitsMore.{all_packets, all_lost}
use Rattle.capture_units.specs.Units.{marks, last_counter, arrival_after, units_of, beginnings}
use Rattle.capture_units.proofs.More.{alone, joins, hurt, more-fine, last-sound, last-damaged, beginnings-more}
use Rattle.capture_units.proofs.More.{units-begin, units-join, units-hurt}
use Rattle.capture_units.proofs.More.{units-beginnings, units-none, units-some, cells-total, packets-more}
use Rattle.capture_units.proofs.More.{lost-more, lost-small, loss-small, row_small, row-size}
use Rattle.capture_units.specs.declared.Unit.{Unit}
use Rattle.capture_units.specs.declared.Units.{Units}
use Rattle.capture_units.specs.State.{Stands, unit_at, unit_set, held, no_unit}
use Rattle.capture_units.specs.Contract.{TakesIn, loss_of, begun_by, joined_by, marked_by, taken_into}
use Rattle.capture_units.proofs.Rows.{unit-other, unit-set, set-size}

pub never : {b : Bool} → b ≡ true → b ≡ false → ⊥
never p q = let z : ◌≡◌ {A = ℕ} 0 1 = cc in omega arith

-- ---- what the state says of the cells

none-counted : {w : List ℕ} {s : Units} → Stands w s [] → s.count ≡ 0
none-counted st = st.count ∙ ap length units-none

some-counted : {w : List ℕ} {s : Units} {x : Cell} {ps : List Cell} → Stands w s (x ∷ ps) → s.count ≡ 0 → ⊥
some-counted {x = x} {ps = ps} st e = omega (arith, st.count, units-some x ps)

-- the code's loss is the rule's
loss-is : {w : List ℕ} {s : Units} {ps : List Cell} (q : Cell) → Stands w s ps → (arrival_after ps q).damaged ≡ false →
    loss_of s q ≡ (arrival_after ps q).lost
loss-is {s = s} {ps = []} q st h = rw (eq-eqb s.count 0 (none-counted st))
loss-is {s = s} {ps = x ∷ ps} q st h =
    let e : s.previous ≡ last_counter (x ∷ ps) = st.previous in
    rw (ne_eqb s.count 0 (some-counted st), e, h)

-- whether a cell begins a unit, by the state
begins-is : {w : List ℕ} {s : Units} {ps : List Cell} (q : Cell) → Stands w s ps →
    ((s.count ≡ 0 → ⊥) → marks q ≡ true) → (arrival_after ps q).begins ≡ true
begins-is {ps = []} q st h = refl
begins-is {ps = x ∷ ps} q st h = h (some-counted st)

-- the totals of one cell more
module _ {w : List ℕ} {s : Units} {ps : List Cell} (q : Cell) (st : Stands w s ps) where
  packets-grow : (arrival_after ps q).damaged ≡ false →
      (s.packets + 1) % 2 ^ 64 ≡ all_packets (units_of (ps ++ q ∷ [])) % 2 ^ 64
  packets-grow h = rw (packets-more ps q false h) (omega (arith, st.packets))

  losses-grow : (s.lost + (arrival_after ps q).lost) % 2 ^ 64 ≡ all_lost (units_of (ps ++ q ∷ [])) % 2 ^ 64
  losses-grow = rw (lost-more ps q) (omega (arith, st.lost))

held-begun : (t n : ℕ) → n ≤ 14 → begun_by t n ≡ held (alone t n)
held-begun t n h = let e : n % 2 ^ 64 ≡ n = omega arith in rw e

held-joined : (u : UnitRow) (t n : ℕ) → joined_by (held u) t n ≡ held (joins u t n)
held-joined u t n =
    let e : (u.packets % 2 ^ 64 + 1) % 2 ^ 64 ≡ (u.packets + 1) % 2 ^ 64 = omega arith in
    let f : (u.lost % 2 ^ 64 + n) % 2 ^ 64 ≡ (u.lost + n) % 2 ^ 64 = omega arith in
    rw (e, f)

held-marked : (u : UnitRow) → marked_by (held u) ≡ held (hurt u)
held-marked u = let e : (u.damaged % 2 ^ 64 + 1) % 2 ^ 64 ≡ (u.damaged + 1) % 2 ^ 64 = omega arith in rw e

-- ---- a cell more

module _ {w : List ℕ} {s : Units} {ps : List Cell} (q : Cell) (st : Stands w s ps) where
  -- a cell that begins a unit
  begins : (arrival_after ps q).begins ≡ true → s.count < 750 →
      Stands (unit_set w s.count (begun_by q.time (arrival_after ps q).lost))
      (taken_into s (s.count + 1) q.counter (arrival_after ps q).lost) (ps ++ q ∷ [])
  begins h k =
      record {
        size = set-size w _ s.count ∙ st.size;
        few = rw (law, longer) (omega (arith, st.count));
        count = rw (law, longer) (omega (arith, st.count));
        previous = sym (last-sound ps q (more-fine ps q h));
        packets = packets-grow q st (more-fine ps q h);
        lost = losses-grow q st;
        rows = λ j i. at j (dec_lt j (length (units_of ps))) (rw (law, longer) at i);
      }
    where
      u : UnitRow
      u = alone q.time (arrival_after ps q).lost

      law : units_of (ps ++ q ∷ []) ≡ units_of ps ++ u ∷ []
      law = units-begin ps q h

      longer : length (units_of ps ++ u ∷ []) ≡ length (units_of ps) + 1
      longer = length-append (units_of ps) (u ∷ [])

      at : (j : ℕ) → Dec (j < length (units_of ps)) → j < length (units_of ps) + 1 →
          unit_at (unit_set w s.count (begun_by q.time (arrival_after ps q).lost)) j
          ≡ held (get_or (units_of (ps ++ q ∷ [])) j no_unit)
      at j (yes d) i =
          unit-other w _ s.count j (λ e. omega (arith, st.count)) ∙ st.rows j d
          ∙ ap held (sym (get_or-append (units_of ps) (u ∷ []) no_unit j d)
          ∙ ap (λ (l : List UnitRow). get_or l j no_unit) (sym law))
      at j (no d) i =
          let e : j ≡ s.count = omega (arith, st.count) in
          rw e
          (unit-set w _ s.count (omega (arith, st.size))
          ∙ held-begun q.time _ (loss-small ps q)
          ∙ ap held (sym (get_or_at (units_of ps) u [] no_unit s.count (sym st.count))
          ∙ ap (λ (l : List UnitRow). get_or l s.count no_unit) (sym law)))

  -- the last row changed: row k, in the words as f has it and in the rows as F has it
  module _ (k : ℕ) (f : Unit → Unit) (F : UnitRow → UnitRow) (both : (u : UnitRow) → f (held u) ≡ held (F u))
      (kc : s.count ≡ k + 1)
      (law : units_of (ps ++ q ∷ []) ≡ set (units_of ps) k (F (get_or (units_of ps) k no_unit))) where
    same : length (units_of (ps ++ q ∷ [])) ≡ length (units_of ps)
    same = ap length law ∙ length-set (units_of ps) k (F (get_or (units_of ps) k no_unit))

    changed : (j : ℕ) → j < length (units_of (ps ++ q ∷ [])) →
        unit_at (unit_set w k (f (unit_at w k))) j ≡ held (get_or (units_of (ps ++ q ∷ [])) j no_unit)
    changed j i = at (dec_lt j k) (rw same at i)
      where
        u : UnitRow
        u = F (get_or (units_of ps) k no_unit)

        at : Dec (j < k) → j < length (units_of ps) →
            unit_at (unit_set w k (f (unit_at w k))) j ≡ held (get_or (units_of (ps ++ q ∷ [])) j no_unit)
        at (yes d) i =
            let ne : (j ≡ k → ⊥) = λ e. omega arith in
            unit-other w _ k j ne ∙ st.rows j i
            ∙ ap held (sym (get_or-set_other (units_of ps) k j u no_unit ne)
            ∙ ap (λ (l : List UnitRow). get_or l j no_unit) (sym law))
        at (no d) i =
            let e : j ≡ k = omega (arith, st.count) in
            let i' : k < length (units_of ps) = omega (arith, st.count) in
            rw e
            (unit-set w _ k (omega (arith, st.size, st.few))
            ∙ ap f (st.rows k i')
            ∙ both (get_or (units_of ps) k no_unit)
            ∙ ap held (sym (get_or-set_same (units_of ps) k u no_unit i')
            ∙ ap (λ (l : List UnitRow). get_or l k no_unit) (sym law)))

-- a cell of the last unit
extends : {w : List ℕ} {s : Units} {x : Cell} {ps : List Cell} (q : Cell) (st : Stands w s (x ∷ ps)) →
    is_damaged q.condition ≡ false → q.start ≡ false → (k : ℕ) → s.count ≡ k + 1 →
    Stands (unit_set w k (joined_by (unit_at w k) q.time (arrival_after (x ∷ ps) q).lost))
    (taken_into s s.count q.counter (arrival_after (x ∷ ps) q).lost) (x ∷ ps ++ q ∷ [])
extends {w} {s} {x} {ps} q st h z k kc =
    let lost = (arrival_after (x ∷ ps) q).lost in
    let law = units-join x ps q k no_unit h z (omega (arith, st.count)) in
    let f : Unit → Unit = λ u. joined_by u q.time lost in
    let F : UnitRow → UnitRow = λ u. joins u q.time lost in
    let both : ((u : UnitRow) → f (held u) ≡ held (F u)) = λ u. held-joined u q.time lost in
    let n = same q st k f F both kc law in
    record {
      size = set-size w _ k ∙ st.size;
      few = rw n st.few;
      count = st.count ∙ sym n;
      previous = sym (last-sound (x ∷ ps) q h);
      packets = packets-grow q st h;
      lost = losses-grow q st;
      rows = changed q st k f F both kc law;
    }

-- a damaged one
hurts : {w : List ℕ} {s : Units} {x : Cell} {ps : List Cell} (q : Cell) (st : Stands w s (x ∷ ps)) →
    is_damaged q.condition ≡ true → (k : ℕ) → s.count ≡ k + 1 →
    Stands (unit_set w k (marked_by (unit_at w k))) s (x ∷ ps ++ q ∷ [])
hurts {w} {s} {x} {ps} q st h k kc =
    let law = units-hurt x ps q k no_unit h (omega (arith, st.count)) in
    let n = same q st k marked_by hurt held-marked kc law in
    let z : (arrival_after (x ∷ ps) q).lost ≡ 0 = rw h in
    record {
      size = set-size w _ k ∙ st.size;
      few = rw n st.few;
      count = st.count ∙ sym n;
      previous = st.previous ∙ sym (last-damaged x ps q h);
      packets = rw (packets-more (x ∷ ps) q true h) (omega (arith, st.packets));
      lost = rw (lost-more (x ∷ ps) q, z) (omega (arith, st.lost));
      rows = changed q st k marked_by hurt held-marked kc law;
    }

-- ---- the same, by what the code's parts gave

module _ (w : List ℕ) (s : Units) (q : Cell) {r : Units} {w' : List ℕ} {u : Unit} {lost : ℕ} where
  pub begins-by : s.count < 750 → lost ≡ loss_of s q → u ≡ begun_by q.time lost → w' ≡ unit_set w s.count u →
      r ≡ taken_into s (s.count + 1) q.counter lost →
      (ps : List Cell) → ((s.count ≡ 0 → ⊥) → marks q ≡ true) → TakesIn w s r w' ps q
  begins-by k le ue we re ps h st few =
      let b = begins-is q st h in
      rw (re, we, ue, le, loss-is q st (more-fine ps q b)) (begins q st b k)

  pub joins-by : {v : Unit} (k : ℕ) → s.count ≡ k + 1 → lost ≡ loss_of s q → v ≡ unit_at w k →
      u ≡ joined_by v q.time lost →
      w' ≡ unit_set w k u → r ≡ taken_into s s.count q.counter lost →
      (ps : List Cell) → (s.count ≡ 0 → ⊥) → is_damaged q.condition ≡ false → q.start ≡ false →
      TakesIn w s r w' ps q
  joins-by k kc le ve ue we re [] n h e st few = absurd (n (none-counted st))
  joins-by k kc le ve ue we re (x ∷ ps) n h e st few = rw (re, we, ue, le, loss-is q st h, ve) (extends q st h e k kc)

pub hurts-by : {w w' : List ℕ} (s : Units) {u v : Unit} (k : ℕ) → s.count ≡ k + 1 → v ≡ unit_at w k → u ≡ marked_by v →
    w' ≡ unit_set w k u →
    (q : Cell) (ps : List Cell) → (s.count ≡ 0 → ⊥) → is_damaged q.condition ≡ true → TakesIn w s s w' ps q
hurts-by s k kc ve ue we q [] n h st few = absurd (n (none-counted st))
hurts-by s k kc ve ue we q (x ∷ ps) n h st few = rw (we, ue, ve) (hurts q st h k kc)

-- a cell that begins a unit for which there is no room
pub no_room : {w : List ℕ} {s : Units} {ps : List Cell} (q : Cell) → Stands w s ps →
    ((s.count ≡ 0 → ⊥) → marks q ≡ true) → 750 ≤ s.count → 750 < length (beginnings (ps ++ q ∷ []))
no_room {ps = ps} q st h k =
    rw (beginnings-more ps q, begins-is q st h, length-append) (omega (arith, st.count, units-beginnings ps))

-- ---- whether there is room

pub room : {w : List ℕ} {s : Units} {ps : List Cell} (q : Cell) → Stands w s ps → s.count < 750 →
    false ≡ ltb 750 (length (beginnings (ps ++ q ∷ [])))
room {w} {s} {ps} q st k =
    sym (le-ltb 750 (length (beginnings (ps ++ q ∷ [])))
    (rw (beginnings-more ps q, length-append) (go (arrival_after ps q).begins)))
  where
    go : (b : Bool) → length (beginnings ps) + length (pick b (arrival_after ps q ∷ []) []) ≤ 750
    go true = omega (arith, st.count, units-beginnings ps)
    go false = omega (arith, st.count, units-beginnings ps)

pub full : {w : List ℕ} {s : Units} {ps : List Cell} (q : Cell) (start : Bool) → Stands w s ps → 750 ≤ s.count →
    start ≡ marks q →
    start ≡ ltb 750 (length (beginnings (ps ++ q ∷ [])))
full {ps = []} q start st k e = absurd (omega (arith, none-counted st))
full {ps = x ∷ ps} q true st k e =
    sym (lt-ltb 750 (length (beginnings (x ∷ ps ++ q ∷ [])))
    (rw (beginnings-more (x ∷ ps) q, sym e, length-append) (omega (arith, st.count, units-beginnings (x ∷ ps)))))
full {ps = x ∷ ps} q false st k e =
    sym (le-ltb 750 (length (beginnings (x ∷ ps ++ q ∷ [])))
    (rw (beginnings-more (x ∷ ps) q, sym e, append-nil) (omega (arith, st.few, units-beginnings (x ∷ ps)))))

-- ---- a row, as a record has it

-- the words of a unit, cut to 32 bits
abbrev pub row_of : Unit → UnitRow
row_of u =
    record {
      least = u.least;
      greatest = u.greatest;
      size = 184 * (u.packets % 4294967296) % 4294967296;
      packets = u.packets % 4294967296;
      lost = u.lost % 4294967296;
      damaged = u.damaged % 4294967296;
    }

row-held : (v : UnitRow) → v.size ≡ 184 * v.packets → v.packets < 2 ^ 24 → v.lost < 2 ^ 28 → v.damaged < 2 ^ 24 →
    row_of (held v) ≡ v
row-held v e h k m =
    let a : 184 * (v.packets % 2 ^ 64 % 4294967296) % 4294967296 ≡ v.size = omega arith in
    let b : v.packets % 2 ^ 64 % 4294967296 ≡ v.packets = omega arith in
    let c : v.lost % 2 ^ 64 % 4294967296 ≡ v.lost = omega arith in
    let d : v.damaged % 2 ^ 64 % 4294967296 ≡ v.damaged = omega arith in
    rw (a, b, c, d)

get_d_any : (us : List UnitRow) (j : ℕ) (c d : UnitRow) → j < length us → get_or us j c ≡ get_or us j d
get_d_any [] j c d h = absurd (omega arith)
get_d_any (u ∷ us) zero c d h = refl
get_d_any (u ∷ us) (suc j) c d h = get_d_any us j c d (omega arith)

pub row_is : {w : List ℕ} {j : ℕ} {u : Unit} → u ≡ unit_at w j →
    (s : Units) (ps : List Cell) (d : UnitRow) → Stands w s ps → length ps < 2 ^ 24 → j < length (units_of ps) →
    row_of u ≡ get_or (units_of ps) j d
row_is {j = j} e s ps d st few h =
    ap row_of (e ∙ st.rows j h)
    ∙ row-held (get_or (units_of ps) j no_unit) (row-size ps j no_unit h)
    (omega (arith, row_small (λ v. v.packets) (units_of ps) j no_unit h, cells-total ps))
    (omega (arith, row_small (λ v. v.lost) (units_of ps) j no_unit h, lost-small ps))
    (omega (arith, row_small (λ v. v.damaged) (units_of ps) j no_unit h, cells-total ps))
    ∙ get_d_any (units_of ps) j no_unit d h

-- ---- for the callers

-- before any cell, whatever the table holds
pub none_yet : (w : List ℕ) → length w ≡ 3750 → Stands w (record { count = 0; previous = 0; packets = 0; lost = 0 }) []
none_yet w h =
    record {
      size = h;
      few = rw units-none (omega arith);
      count = rw units-none;
      previous = refl;
      packets = rw units-none (unfold total in refl);
      lost = rw units-none (unfold total in refl);
      rows = λ j i. absurd (omega (arith, rw units-none at i));
    }

-- of fewer than 2 ^ 24 cells the totals are the rule's
pub totals-exact : {w : List ℕ} {s : Units} {ps : List Cell} → Stands w s ps → length ps < 2 ^ 24 →
    (s.packets ≡ all_packets (units_of ps)) × (s.lost ≡ all_lost (units_of ps))
totals-exact {ps = ps} st few =
    (st.packets ∙ omega (arith, cells-total ps), st.lost ∙ omega (arith, lost-small ps))
