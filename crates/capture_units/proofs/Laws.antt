-- The rules' figures are those of the cells, and what each event of the walk does to refusal 9: what a table of
-- units needs to be driven by the walk.
use Rattle.std.proofs.Common.{◌≡◌, ℕ, zero, suc, ◌+◌, ◌%◌, ◌≤◌, Bool, true, false, not, ◌&&◌, List, [], ◌∷◌}
use Rattle.std.proofs.Common.{◌++◌, map, length, drop, sym, refl, ap, ◌∙◌, append_assoc, append-nil, arith}
use Rattle.std.proofs.Common.{drop_of_length-le, le-leb}
use native.Mathlib.Decide.{dec_le}
use lib.ListN.{length-map}
use lib.Seq.{drop-append-le}
use Rattle.rules.specs.declared.Condition.{Condition}
use Rattle.rules.specs.declared.Condition.TheVariants.{Good, Damaged, Bad}
use Rattle.rules.specs.declared.Opening.{Opening}
use Rattle.rules.specs.Bytes.{pick, count, only}
use Rattle.rules.specs.Refusals.{Fault, none, fault}
use Rattle.rules.specs.Editions.{heeds_splices, knows_damage}
use Rattle.rules.specs.Packets.{Packet, condition, is_bad, is_damaged, is_wanted, start_mark, counter, splice_mark}
use Rattle.rules.specs.Packets.{wanted_of, bad_of}
use Rattle.rules.specs.Units as rule
use Rattle.rules.specs.Capture.{units, bad_count, earlier, begins_at, too_many_units, capture_fault}
use Rattle.rules.proofs.Laws.Lists.{by-pick, by-picks, only-append}
use Rattle.capture_laws.proofs.Flow.{reached, nine, nine-of, bad-of, wanted-of}
use Rattle.capture_laws.proofs.Format.{none_both, capture-format}
use Rattle.capture_laws.proofs.Faults.{no_fault, at_fault, Late, late_none, late_fault, Grows, same, new}
use Rattle.capture_laws.proofs.Begins.{units-grow}
use Rattle.capture_laws.proofs.Bounds.{only-few}
use Rattle.capture_cells.specs.declared.Cell.{Cell}
use Rattle.capture_cells.specs.Cells.{cell_in, cell_of, head}
use Rattle.capture_steps.specs.Format.{format_fault, shown_cells, whole_cells}
use Rattle.capture_steps.specs.declared.types.Walk.{Walk}
use Rattle.capture_steps.specs.Contract.{Gains, Level, Halts, again, surplus, silent}
use Rattle.capture_steps.proofs.Lists.{shown_of, whole-of, map-append, heads}
use Rattle.capture_units.specs.Units.{as_known, seen, is_of, all_of, from_sound, before_sound, of_pid, bad_in, marks}
use Rattle.capture_units.specs.Units.{measured, arrivals_after, arrivals}
use Rattle.capture_units.specs.Units.{units_of, beginnings, units_in, nine_in, arrival_after}
use Rattle.capture_units.proofs.More.{beginnings-more}

no_cell : {c : Cell} {cs : List Cell} → ◌≡◌ {A = List Cell} [] (c ∷ cs) → ⊥
no_cell e = let z : ◌≡◌ {A = ℕ} 0 1 = cc in omega arith

no-cons : {n : ℕ} {ns : List ℕ} → ◌≡◌ {A = List ℕ} [] (n ∷ ns) → ⊥
no-cons e = let z : ◌≡◌ {A = ℕ} 0 1 = cc in omega arith

-- ---- one packet

-- a packet, as an edition sees it
abbrev cell_by : ℕ → Packet → Cell
cell_by e p = seen e (cell_of p)

wanted-cell : (o : Opening) (p : Packet) → is_wanted o p.bytes ≡ is_of o.pid (cell_of p)
unfolding is_wanted cell_in
wanted-cell o p = refl

apart-cell : (e : ℕ) (p : Packet) → rule.set_apart (knows_damage e) p ≡ is_damaged (cell_by e p).condition
unfolding rule.set_apart cell_in
apart-cell e p = go (knows_damage e) (condition p.bytes)
  where
    go : (b : Bool) (k : Condition) → b && is_damaged k ≡ is_damaged (as_known b k)
    go true k = refl
    go false Good = refl
    go false Damaged = refl
    go false Bad = refl

-- ---- many

wanted-cells : (e : ℕ) (o : Opening) (ps : List Packet) →
    map (cell_by e) (wanted_of o ps) ≡ all_of e o.pid (map cell_of ps)
unfolding wanted_of all_of only
wanted-cells e o [] = refl
wanted-cells e o (p ∷ ps) =
    let z = wanted-cells e o ps in
    rw (wanted-cell o p) (by-picks (λ (r : List Packet) (m : List Cell). map (cell_by e) r ≡ map (seen e) m)
    (is_of o.pid (cell_of p)) (ap (λ (r : List Cell). cell_by e p ∷ r) z) z)

bad-cells : (ps : List Packet) → bad_of ps ≡ count (λ c. is_bad c.condition) (map cell_of ps)
unfolding bad_of count cell_in
bad-cells [] = refl
bad-cells (p ∷ ps) = let h = bad-cells ps in omega arith

before-cells : (e : ℕ) (ps : List Packet) → rule.before_units (knows_damage e) ps ≡ before_sound (map (cell_by e) ps)
unfolding rule.before_units before_sound
before-cells e [] = refl
before-cells e (p ∷ ps) = rw (apart-cell e p, before-cells e ps)

low : (b : List ℕ) → counter b % 16 ≡ counter b
unfolding counter
low b = omega arith

after-cells : (e : ℕ) (q : Packet) (ps : List Packet) →
    rule.arrivals_after (heeds_splices e) (knows_damage e) q ps ≡ arrivals_after (cell_by e q) (map (cell_by e) ps)
unfolding rule.arrivals_after rule.loss_between arrivals_after cell_in
after-cells e q [] = refl
after-cells e q (p ∷ ps) =
    rw (apart-cell e p, low q.bytes, low p.bytes)
    (go (is_damaged (cell_by e p).condition) (after-cells e q ps) (after-cells e p ps))
  where
    loss : ℕ
    loss = pick (heeds_splices e && splice_mark p.bytes) 0 (rule.gap_loss (counter q.bytes) (counter p.bytes))

    go : (t : Bool) →
        rule.arrivals_after (heeds_splices e) (knows_damage e) q ps
        ≡ arrivals_after (cell_by e q) (map (cell_by e) ps) →
        rule.arrivals_after (heeds_splices e) (knows_damage e) p ps
        ≡ arrivals_after (cell_by e p) (map (cell_by e) ps) →
        pick t (rule.damaged_arrival p ∷ rule.arrivals_after (heeds_splices e) (knows_damage e) q ps)
        (record { time = p.time; place = p.place; begins = start_mark p.bytes; lost = loss; damaged = false }
        ∷ rule.arrivals_after (heeds_splices e) (knows_damage e) p ps)
        ≡ record {
          time = p.time;
          place = p.place;
          begins = not t && start_mark p.bytes;
          lost = pick t 0 loss;
          damaged = t;
        }
        ∷ arrivals_after (pick t (cell_by e q) (cell_by e p)) (map (cell_by e) ps)
    go true a b = rw a
    go false a b = rw b

arrivals-cells : (e : ℕ) (ps : List Packet) →
    rule.arrivals (heeds_splices e) (knows_damage e) ps ≡ arrivals (from_sound (map (cell_by e) ps))
unfolding rule.arrivals from_sound arrivals
arrivals-cells e [] = refl
arrivals-cells e (p ∷ ps) = rw (apart-cell e p)
    (by-picks (λ (xs : List rule.Arrival) (cs : List Cell). xs ≡ arrivals cs) (is_damaged (cell_by e p).condition)
    (arrivals-cells e ps)
    (unfold cell_in in ap (λ (r : List rule.Arrival). rule.first_arrival p ∷ r) (after-cells e p ps)))

-- ---- the figures

pub units-cells : (o : Opening) (s : List ℕ) → units o s ≡ units_in o.edition o.pid (whole_cells s)
unfolding units rule.units_of units_in units_of of_pid
units-cells o s =
    let e = o.edition in
    ap (λ (x : List rule.Arrival). map rule.unit_of (rule.groups x))
    (ap (rule.arrivals (heeds_splices e) (knows_damage e)) (wanted-of o s)
    ∙ arrivals-cells e (wanted_of o (reached 188 s))
    ∙ ap (λ (x : List Cell). arrivals (from_sound x))
    (wanted-cells e o (reached 188 s) ∙ ap (all_of e o.pid) (sym (whole-of s))))

pub bad-all : (o : Opening) (s : List ℕ) → bad_count o s ≡ bad_in o.edition o.pid (whole_cells s)
unfolding bad_in
bad-all o s =
    let e = o.edition in
    let ps = reached 188 s in
    let a : bad_of ps ≡ count (λ c. is_bad c.condition) (whole_cells s) =
    bad-cells ps ∙ ap (count (λ c. is_bad c.condition)) (sym (whole-of s)) in
    let b : rule.before_units (knows_damage e) (wanted_of o ps) ≡ before_sound (all_of e o.pid (whole_cells s)) =
    before-cells e (wanted_of o ps) ∙ ap before_sound (wanted-cells e o ps ∙ ap (all_of e o.pid) (sym (whole-of s))) in
    bad-of o s ∙ rw (a, b)

from-few : (xs : List Cell) → length (from_sound xs) ≤ length xs
unfolding from_sound
from-few [] = omega arith
from-few (c ∷ cs) =
    let h = from-few cs in
    by-pick (λ (r : List Cell). length r ≤ suc (length cs)) (is_damaged c.condition) (omega arith) (omega arith)

pub all-few : (e pid : ℕ) (cs : List Cell) → length (all_of e pid cs) ≤ length cs
unfolding all_of
all-few e pid cs = rw (length-map (only (is_of pid) cs) (seen e)) (only-few (is_of pid) cs)

pub pid-few : (e pid : ℕ) (cs : List Cell) → length (of_pid e pid cs) ≤ length cs
unfolding of_pid
pid-few e pid cs = let a = all-few e pid cs in let b = from-few (all_of e pid cs) in omega arith

pub all_append : (e pid : ℕ) (xs ys : List Cell) → all_of e pid (xs ++ ys) ≡ all_of e pid xs ++ all_of e pid ys
unfolding all_of
all_append e pid xs ys =
    ap (map (seen e)) (only-append (is_of pid) xs ys) ∙ map-append (seen e) (only (is_of pid) xs) (only (is_of pid) ys)

-- behind the first cell that is not damaged, all count
pub from-append : (xs ys : List Cell) → (from_sound xs ≡ [] → ⊥) → from_sound (xs ++ ys) ≡ from_sound xs ++ ys
unfolding from_sound
from-append [] ys h = absurd (h refl)
from-append (c ∷ cs) ys h = go (is_damaged c.condition) h (from-append cs ys)
  where
    go : (t : Bool) → (pick t (from_sound cs) (c ∷ cs) ≡ [] → ⊥) →
        ((from_sound cs ≡ [] → ⊥) → from_sound (cs ++ ys) ≡ from_sound cs ++ ys) →
        pick t (from_sound (cs ++ ys)) (c ∷ cs ++ ys) ≡ pick t (from_sound cs) (c ∷ cs) ++ ys
    go true n f = f n
    go false n f = refl

-- before it, each counts as bad
pub from-none : (xs : List Cell) (p : Cell) → from_sound xs ≡ [] →
    from_sound (xs ++ p ∷ []) ≡ pick (is_damaged p.condition) [] (p ∷ [])
unfolding from_sound
from-none [] p h = refl
from-none (c ∷ cs) p h = go (is_damaged c.condition) h (from-none cs p)
  where
    go : (t : Bool) → pick t (from_sound cs) (c ∷ cs) ≡ [] →
        (from_sound cs ≡ [] → from_sound (cs ++ p ∷ []) ≡ pick (is_damaged p.condition) [] (p ∷ [])) →
        pick t (from_sound (cs ++ p ∷ [])) (c ∷ cs ++ p ∷ []) ≡ pick (is_damaged p.condition) [] (p ∷ [])
    go true n f = f n
    go false n f = absurd (no_cell (sym n))

pub before-some : (xs ys : List Cell) → (from_sound xs ≡ [] → ⊥) → before_sound (xs ++ ys) ≡ before_sound xs
unfolding from_sound before_sound
before-some [] ys h = absurd (h refl)
before-some (c ∷ cs) ys h = go (is_damaged c.condition) h (before-some cs ys)
  where
    go : (t : Bool) → (pick t (from_sound cs) (c ∷ cs) ≡ [] → ⊥) →
        ((from_sound cs ≡ [] → ⊥) → before_sound (cs ++ ys) ≡ before_sound cs) →
        pick t (suc (before_sound (cs ++ ys))) 0 ≡ pick t (suc (before_sound cs)) 0
    go true n f = ap suc (f n)
    go false n f = refl

pub before-none : (xs : List Cell) (p : Cell) → from_sound xs ≡ [] →
    before_sound (xs ++ p ∷ []) ≡ before_sound xs + pick (is_damaged p.condition) 1 0
unfolding from_sound before_sound
before-none [] p h = omega arith
before-none (c ∷ cs) p h = go (is_damaged c.condition) h (before-none cs p)
  where
    go : (t : Bool) → pick t (from_sound cs) (c ∷ cs) ≡ [] →
        (from_sound cs ≡ [] → before_sound (cs ++ p ∷ []) ≡ before_sound cs + pick (is_damaged p.condition) 1 0) →
        pick t (suc (before_sound (cs ++ p ∷ []))) 0
        ≡ pick t (suc (before_sound cs)) 0 + pick (is_damaged p.condition) 1 0
    go true n f = let h = f n in omega arith
    go false n f = absurd (no_cell (sym n))

-- ---- 9 stands at a place, and splice marks do not move it

abbrev places : List rule.Arrival → List ℕ
places xs = map (λ (a : rule.Arrival). a.place) xs

places-only : (t : Bool) (a b : rule.Arrival) (xs ys : List rule.Arrival) → a.place ≡ b.place →
    places xs ≡ places ys →
    places (pick t (a ∷ xs) xs) ≡ places (pick t (b ∷ ys) ys)
places-only true a b xs ys e f = rw (e, f)
places-only false a b xs ys e f = f

abbrev beginning : List rule.Arrival → List rule.Arrival
beginning xs = only (λ a. a.begins) xs

abbrev Placed : List rule.Arrival → List rule.Arrival → Type 0
Placed xs ys = places (beginning xs) ≡ places (beginning ys)

-- over packets: the marks that are heeded
rule-after : (g h known : Bool) (q r : Packet) (ps : List Packet) →
    Placed (rule.arrivals_after g known q ps) (rule.arrivals_after h known r ps)
unfolding rule.arrivals_after only
rule-after g h known q r [] = refl
rule-after g h known q r (p ∷ ps) = by-picks Placed (rule.set_apart known p) (rule-after g h known q r ps)
    (places-only (start_mark p.bytes) _ _ _ _ refl (rule-after g h known p p ps))

rule-places : (g h known : Bool) (ps : List Packet) → Placed (rule.arrivals g known ps) (rule.arrivals h known ps)
unfolding rule.arrivals only
rule-places g h known [] = refl
rule-places g h known (p ∷ ps) = by-picks Placed (rule.set_apart known p) (rule-places g h known ps)
    (ap (λ (ns : List ℕ). p.place ∷ ns) (rule-after g h known p p ps))

-- over cells: their first four bytes
after-places : (q r : Cell) (cs : List Cell) →
    places (beginning (arrivals_after q (map head cs))) ≡ places (beginning (arrivals_after r cs))
unfolding arrivals_after only
after-places q r [] = refl
after-places q r (c ∷ cs) = places-only (marks c) _ _ _ _ refl (after-places (measured q (head c)) (measured r c) cs)

begins-places : (cs : List Cell) → places (beginnings (map head cs)) ≡ places (beginnings cs)
unfolding beginnings arrivals only
begins-places [] = refl
begins-places (c ∷ cs) = ap (λ (ns : List ℕ). c.place ∷ ns) (after-places (head c) c cs)

at_places : (n : ℕ) (xs ys : List rule.Arrival) → places xs ≡ places ys → begins_at (drop n xs) ≡ begins_at (drop n ys)
at_places zero [] [] e = refl
at_places zero [] (y ∷ ys) e = absurd (no-cons e)
at_places zero (x ∷ xs) [] e = absurd (no-cons (sym e))
at_places zero (x ∷ xs) (y ∷ ys) e = let p : x.place ≡ y.place = cc in rw p
at_places (suc n) [] [] e = refl
at_places (suc n) [] (y ∷ ys) e = absurd (no-cons e)
at_places (suc n) (x ∷ xs) [] e = absurd (no-cons (sym e))
at_places (suc n) (x ∷ xs) (y ∷ ys) e = at_places n xs ys (let f : places xs ≡ places ys = cc in f)

and-false : (b : Bool) → b && false ≡ false
and-false true = refl
and-false false = refl

-- a cell's first four bytes, as they are seen
head-seen : (e : ℕ) (c : Cell) → seen e (head c) ≡ head (seen e c)
head-seen e c = rw (and-false (heeds_splices e))

head-all : (e pid : ℕ) (cs : List Cell) → all_of e pid (map head cs) ≡ map head (all_of e pid cs)
unfolding all_of only
head-all e pid [] = refl
head-all e pid (c ∷ cs) =
    let z = head-all e pid cs in
    by-picks (λ (a b : List Cell). map (seen e) a ≡ map head (map (seen e) b)) (is_of pid c) (rw (head-seen e c, z)) z

head-from : (xs : List Cell) → from_sound (map head xs) ≡ map head (from_sound xs)
unfolding from_sound
head-from [] = refl
head-from (c ∷ cs) =
    by-picks (λ (a b : List Cell). a ≡ map head b) (is_damaged c.condition) (head-from cs) refl

head-nine : (e pid : ℕ) (cs : List Cell) → nine_in e pid (map head cs) ≡ nine_in e pid cs
unfolding nine_in of_pid
head-nine e pid cs =
    ap (λ (x : List Cell). begins_at (drop 750 (beginnings x)))
    (ap from_sound (head-all e pid cs) ∙ head-from (all_of e pid cs))
    ∙ at_places 750 (beginnings (map head (from_sound (all_of e pid cs)))) (beginnings (from_sound (all_of e pid cs)))
    (begins-places (from_sound (all_of e pid cs)))

pub nine-cells : (o : Opening) (s : List ℕ) → too_many_units o s ≡ nine_in o.edition o.pid (shown_cells s)
nine-cells o s =
    nine-of o s
    ∙ at-packets (reached 4 s)
    ∙ sym (ap (nine_in o.edition o.pid) (shown_of s ∙ heads (reached 4 s))
    ∙ head-nine o.edition o.pid (map cell_of (reached 4 s)))
  where
    e : ℕ
    e = o.edition

    at-packets : (ps : List Packet) → nine o ps ≡ nine_in o.edition o.pid (map cell_of ps)
    at-packets ps = unfold nine nine_in of_pid beginnings rule.beginnings in
        at_places 750 (beginning (rule.arrivals false (knows_damage e) (wanted_of o ps)))
        (beginning (rule.arrivals (heeds_splices e) (knows_damage e) (wanted_of o ps)))
        (rule-places false (heeds_splices e) (knows_damage e) (wanted_of o ps))
        ∙ ap (λ (x : List rule.Arrival). begins_at (drop 750 (only (λ a. a.begins) x)))
        (arrivals-cells e (wanted_of o ps) ∙ ap (λ (x : List Cell). arrivals (from_sound x)) (wanted-cells e o ps))

-- cells are shown behind the whole ones: the table of the whole ones tells whether 9 stands
level-nine : (e pid : ℕ) (before : List ℕ) → Level before → (xs : List Cell) →
    nine_in e pid (shown_cells before ++ map head xs) ≡ nine_in e pid (whole_cells before ++ xs)
level-nine e pid before l xs =
    ap (λ (x : List Cell). nine_in e pid (x ++ map head xs)) l
    ∙ ap (nine_in e pid) (sym (map-append head (whole_cells before) xs)) ∙ head-nine e pid (whole_cells before ++ xs)

-- every cell that is shown is whole, and nothing is refused: 9 is not among the whole ones
pub nine-level : (o : Opening) (s : List ℕ) → Level s → capture_fault o s ≡ none →
    nine_in o.edition o.pid (whole_cells s) ≡ none
nine-level o s l c =
    sym (head-nine o.edition o.pid (whole_cells s))
    ∙ ap (nine_in o.edition o.pid) (sym l)
    ∙ sym (nine-cells o s)
    ∙ (none_both (format_fault s) (too_many_units o s) (sym (capture-format o s) ∙ c)).1

-- ---- what each event does to what the capture shows first

module _ (o : Opening) {before after : List ℕ} where
  by-shown : {xs ys : List Cell} → Gains before after xs ys →
      capture_fault o after ≡ nine_in o.edition o.pid (shown_cells before ++ xs)
  by-shown g = capture-format o after
      ∙ rw g.clear (nine-cells o after ∙ ap (nine_in o.edition o.pid) g.shown)

  quiet : {ys : List Cell} → Gains before after [] ys → capture_fault o before ≡ none → capture_fault o after ≡ none
  quiet g c =
      by-shown g
      ∙ rw (append-nil (shown_cells before))
      (sym (nine-cells o before)
      ∙ (none_both (format_fault before) (too_many_units o before) (sym (capture-format o before) ∙ c)).1)

  -- no cell, or one that was shown is whole: nothing new
  pub on-nothing : Gains before after [] [] → capture_fault o before ≡ none → capture_fault o after ≡ none
  on-nothing g c = quiet g c

  pub on-whole : {c : Cell} → Gains before after [] (c ∷ []) → capture_fault o before ≡ none →
      capture_fault o after ≡ none
  on-whole g c = quiet g c

  pub on-cells : {cs : List Cell} → Gains before after (map head cs) cs → Level before →
      capture_fault o after ≡ nine_in o.edition o.pid (whole_cells before ++ cs)
  on-cells {cs} g l = by-shown g ∙ level-nine o.edition o.pid before l cs

  pub on-shown : {c : Cell} → Gains before after (c ∷ []) [] → Level before →
      capture_fault o after ≡ nine_in o.edition o.pid (whole_cells before ++ c ∷ [])
  on-shown {c} g l =
      by-shown g
      ∙ sym (head-nine o.edition o.pid (shown_cells before ++ c ∷ []))
      ∙ ap (nine_in o.edition o.pid) (map-append head (shown_cells before) (c ∷ []) ∙ twice l)
      ∙ head-nine o.edition o.pid (whole_cells before ++ c ∷ [])
    where
      heads-again : (xs : List Cell) → map head (map head xs) ≡ map head xs
      heads-again [] = refl
      heads-again (x ∷ xs) = ap (λ (r : List Cell). head x ∷ r) (heads-again xs)

      twice : Level before → map head (shown_cells before) ++ head c ∷ [] ≡ map head (whole_cells before ++ c ∷ [])
      twice l = ap (λ (x : List Cell). map head x ++ head c ∷ []) l
          ∙ ap (λ (x : List Cell). x ++ head c ∷ []) (heads-again (whole_cells before))
          ∙ sym (map-append head (whole_cells before) (c ∷ []))

never : {k p : ℕ} → fault k p ≡ none → ⊥
never e = let z : ◌≡◌ {A = ℕ} 0 1 = cc in omega arith

grows-late : {n : ℕ} {f g : Fault} → Grows n f g → f ≡ none → Late n g
grows-late (same no_fault) e = late_none
grows-late (same (at_fault h)) e = absurd (never e)
grows-late (new l) e = l

-- a refusal of the format stands before any 9 that its bytes show
module _ (o : Opening) (before chunk : List ℕ) (w : Walk) (clear : capture_fault o before ≡ none)
    (e : format_fault (before ++ chunk) ≡ fault w.status w.place) where
  both : (format_fault before ≡ none) × (too_many_units o before ≡ none)
  both = none_both (format_fault before) (too_many_units o before) (sym (capture-format o before) ∙ clear)

  first : (f : Fault) → Late w.place f → earlier (fault w.status w.place) f ≡ fault w.status w.place
  first none l = refl
  first (fault k p) (late_fault h) = rw (le-leb w.place p h)

  nine-late : Halts w before (before ++ chunk) → Late w.place (too_many_units o (before ++ chunk))
  nine-late (again x) = absurd (never (sym x ∙ both.0))
  nine-late (surplus x) = rw x (grows-late (units-grow o before chunk) both.1)
  nine-late (silent x) =
      rw (nine-cells o (before ++ chunk) ∙ ap (nine_in o.edition o.pid) x ∙ sym (nine-cells o before) ∙ both.1)
      late_none

  pub on-refused : Halts w before (before ++ chunk) → capture_fault o (before ++ chunk) ≡ fault w.status w.place
  on-refused h = capture-format o (before ++ chunk) ∙ rw e (first (too_many_units o (before ++ chunk)) (nine-late h))

-- ---- 9 stays, so that a run of cells may be left at the cell that shows it

behind-all : (xs bs : List Cell) → (zs : List rule.Arrival) × (beginnings (xs ++ bs) ≡ beginnings xs ++ zs)
behind-all xs [] = ([], ap beginnings (append-nil xs) ∙ sym (append-nil (beginnings xs)))
behind-all xs (b ∷ bs) =
    let r = behind-all (xs ++ b ∷ []) bs in
    let one = pick (arrival_after xs b).begins (arrival_after xs b ∷ []) [] in (
      one ++ r.0,
      ap beginnings (sym (append_assoc xs (b ∷ []) bs)) ∙ r.1
          ∙ ap (λ (x : List rule.Arrival). x ++ r.0) (beginnings-more xs b) ∙ append_assoc (beginnings xs) one r.0,
    )

first-kept : (us zs : List rule.Arrival) (k p : ℕ) → begins_at us ≡ fault k p → begins_at (us ++ zs) ≡ fault k p
first-kept [] zs k p e = let z : ◌≡◌ {A = ℕ} 0 1 = cc in absurd (omega arith)
first-kept (u ∷ us) zs k p e = e

past : (us : List rule.Arrival) (k p : ℕ) → begins_at (drop 750 us) ≡ fault k p → 750 ≤ length us
past us k p e = elim (dec_le 750 (length us)) [
  | yes h ↦ h
  | no h ↦
      let f : begins_at [] ≡ fault k p = ap begins_at (sym (drop_of_length-le us {i = 750} (omega arith))) ∙ e in
      let z : ◌≡◌ {A = ℕ} 0 1 = cc in
      absurd (omega arith)
]

pub nine-kept : (e pid : ℕ) (xs ys : List Cell) (k p : ℕ) → nine_in e pid xs ≡ fault k p →
    nine_in e pid (xs ++ ys) ≡ fault k p
unfolding nine_in of_pid
nine-kept e pid xs ys k p z =
    let all = all_of e pid in
    let mine = from_sound (all xs) in
    let r = behind-all mine (all ys) in
    let some : (mine ≡ [] → ⊥) = λ n. nothing (sym z ∙ ap (λ (x : List Cell). begins_at (drop 750 (beginnings x))) n) in
    ap (λ (x : List Cell). begins_at (drop 750 (beginnings x)))
    (ap from_sound (all_append e pid xs ys) ∙ from-append (all xs) (all ys) some)
    ∙ ap (λ (x : List rule.Arrival). begins_at (drop 750 x)) r.1
    ∙ ap begins_at (drop-append-le 750 (beginnings mine) r.0 (past (beginnings mine) k p z))
    ∙ first-kept (drop 750 (beginnings mine)) r.0 k p z
  where
    nothing : fault k p ≡ begins_at (drop 750 (beginnings [])) → ⊥
    nothing n = never (n ∙ (unfold beginnings arrivals only in refl))
