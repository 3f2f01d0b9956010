-- The laws of damage (document 02, R-6): editions that know none have document 01's rows, with word 28 zero; and
-- every cell is accounted for.
use Prim.Native.Nat.{ℕ, suc, ◌+◌, ◌*◌}
use native.Mathlib.Omega.{arith}
use mathlib.Core.Path.{◌≡◌, refl, sym, ap, ◌∙◌}
use mathlib.Core.List.{List, [], ◌∷◌, ◌++◌, map}
use mathlib.Core.Bool.{Bool, true, false, not, ◌&&◌, true≢false}
use lib.ListN.{length}
use lib.Dec.{eqb}
use Rattle.rules.specs.declared.Opening.{Opening}
use Rattle.rules.specs.declared.UnitRow.{UnitRow}
use Rattle.rules.specs.Bytes.{pick, total, greatest_of, count, only, All, and, empty}
use Rattle.rules.specs.Editions.{heeds_splices, knows_damage}
use Rattle.rules.specs.Packets.{Packet, packets, whole, condition, is_bad, identifier, is_wanted, wanted_of, bad_of}
use Rattle.rules.specs.Packets.{other_of}
use Rattle.rules.specs.Units.{Arrival, set_apart, first_arrival, damaged_arrival, later_arrival, arrivals_after}
use Rattle.rules.specs.Units.{arrivals}
use Rattle.rules.specs.Units.{into_first, groups, cells_of, least_time, unit_of, units_of}
use Rattle.rules.specs.Capture.{all_frames, whole_wanted, units, bad_count}
use Rattle.rules.proofs.Laws.Lists.{by-pick, by-test}
use Rattle.capture_laws.proofs.UnitsMore.{all_packets, all_damaged, packets-total}

-- ---- where no damage is known, no arrival is set apart

abbrev Sound : Arrival → Type 0
Sound a = a.damaged ≡ false

after-sound : (heeded : Bool) (q : Packet) (ps : List Packet) → All Sound (arrivals_after heeded false q ps)
unfolding arrivals_after set_apart
after-sound heeded q [] = empty
after-sound heeded q (p ∷ ps) = and refl (after-sound heeded p ps)

arrivals-sound : (heeded : Bool) (ps : List Packet) → All Sound (arrivals heeded false ps)
unfolding arrivals set_apart
arrivals-sound heeded [] = empty
arrivals-sound heeded (p ∷ ps) = and refl (after-sound heeded p ps)

-- what holds of every arrival holds of those of every unit
module _ {P : Arrival → Type 0} where
  into-all : (a : Arrival) {gs : List (List Arrival)} → P a → All (All P) gs → All (All P) (into_first a gs)
  into-all a h empty = and (and h empty) empty
  into-all a h (and g gs) = and (and h g) gs

  groups-all : (xs : List Arrival) → All P xs → All (All P) (groups xs)
  unfolding groups
  groups-all [] h = empty
  groups-all (a ∷ []) h = and h empty
  groups-all (a ∷ b ∷ xs) (and h hs) =
      let r = groups-all (b ∷ xs) hs in
      by-pick (All (All P)) b.begins (and (and h empty) r) (into-all a h r)

-- ---- document 01's row: every arrival is a cell, and word 28 is zero

pub plain_unit : List Arrival → UnitRow
plain_unit group =
    record {
      least = least_time group;
      greatest = greatest_of (map (λ x. x.time) group);
      size = 184 * length group;
      packets = length group;
      lost = total (map (λ x. x.lost) group);
      damaged = 0;
    }

pub cells-kept : (b : Arrival) (xs : List Arrival) → b.damaged ≡ false → cells_of (b ∷ xs) ≡ b ∷ cells_of xs
unfolding cells_of only
cells-kept b xs z = ap (λ (t : Bool). pick (not t) (b ∷ cells_of xs) (cells_of xs)) z

sound-cells : {xs : List Arrival} → All Sound xs → cells_of xs ≡ xs
sound-cells empty = unfold cells_of only in refl
sound-cells (and {x} {xs} h hs) = rw (cells-kept x xs h, sound-cells hs)

sound_none : {xs : List Arrival} → All Sound xs → count (λ x. x.damaged) xs ≡ 0
unfolding count
sound_none empty = refl
sound_none (and h hs) = let e = sound_none hs in rw h (omega arith)

plain-unit : {g : List Arrival} → All Sound g → unit_of g ≡ plain_unit g
unfolding unit_of plain_unit
plain-unit h = rw (sound-cells h, sound_none h)

plain_rows : {gs : List (List Arrival)} → All (All Sound) gs → map unit_of gs ≡ map plain_unit gs
plain_rows empty = refl
plain_rows (and h hs) = rw (plain-unit h, plain_rows hs)

pub plain-units : (edition : ℕ) (ps : List Packet) → knows_damage edition ≡ false →
    units_of edition ps ≡ map plain_unit (groups (arrivals (heeds_splices edition) false ps))
unfolding units_of
plain-units edition ps h =
    let heeded = heeds_splices edition in
    rw h (plain_rows (groups-all (arrivals heeded false ps) (arrivals-sound heeded ps)))

-- word 28 of every row is zero
zero-rows : (gs : List (List Arrival)) → All (λ u. u.damaged ≡ 0) (map plain_unit gs)
unfolding plain_unit
zero-rows [] = empty
zero-rows (g ∷ gs) = and refl (zero-rows gs)

pub zero-units : (edition : ℕ) (ps : List Packet) → knows_damage edition ≡ false →
    All (λ u. u.damaged ≡ 0) (units_of edition ps)
zero-units edition ps h =
    rw (plain-units edition ps h) (zero-rows (groups (arrivals (heeds_splices edition) false ps)))

-- ---- every cell is bad, of another identifier, or of PID; and one of PID stands before the first unit, or in a
-- unit, where it is a cell or damaged

all_kinds : (o : Opening) (ps : List Packet) → length ps ≡ bad_of ps + other_of o ps + length (wanted_of o ps)
unfolding bad_of other_of count wanted_of only is_wanted
all_kinds o [] = refl
all_kinds o (p ∷ ps) = go (is_bad (condition p.bytes)) (eqb (identifier p.bytes) o.pid) (all_kinds o ps)
  where
    go : (b i : Bool) → length ps ≡ bad_of ps + other_of o ps + length (wanted_of o ps) →
        suc (length ps)
        ≡ pick b 1 0 + bad_of ps + (pick (not b && not i) 1 0 + other_of o ps) + length
        (pick (not b && i) (p ∷ wanted_of o ps) (wanted_of o ps))
    go true i h = omega arith
    go false true h = omega arith
    go false false h = omega arith

-- THE LAW: of the whole cells of a capture, each is counted in word 52, or has another identifier, or is in a unit's
-- cells or its word 28
pub every-cell : (o : Opening) (s : List ℕ) →
    length (whole (packets 24 (all_frames s)))
    ≡ bad_count o s + other_of o (whole (packets 24 (all_frames s))) + all_packets (units o s) + all_damaged
    (units o s)
unfolding bad_count units whole_wanted
every-cell o s =
    let ps = whole (packets 24 (all_frames s)) in
    let a = all_kinds o ps in
    let b = packets-total o.edition (wanted_of o ps) in
    omega arith

-- ---- a damaged packet changes word 28 alone: without the damaged ones the units are the same, and word 28 is zero

-- one that is set apart begins no unit and adds no loss
pub record Quiet (a : Arrival) : Type 0 where
  pub begins : a.damaged ≡ true → a.begins ≡ false
  pub lost : a.damaged ≡ true → a.lost ≡ 0

sound-quiet : {a : Arrival} → a.damaged ≡ false → Quiet a
sound-quiet h = record { begins = λ e. absurd (true≢false (sym e ∙ h)); lost = λ e. absurd (true≢false (sym e ∙ h)) }

-- the packets that are not set apart
pub sounds : Bool → List Packet → List Packet
sounds known ps = only (λ p. not (set_apart known p)) ps

module _ (heeded known : Bool) where
  after-quiet : (q : Packet) (ps : List Packet) → All Quiet (arrivals_after heeded known q ps)
  unfolding arrivals_after
  after-quiet q [] = empty
  after-quiet q (p ∷ ps) =
      by-pick (All Quiet) (set_apart known p)
      (and (record { begins = λ _. refl; lost = λ _. refl }) (after-quiet q ps))
      (and (sound-quiet refl) (after-quiet p ps))

  after-sounds : (q : Packet) (ps : List Packet) →
      cells_of (arrivals_after heeded known q ps) ≡ arrivals_after heeded known q (sounds known ps)
  unfolding arrivals_after cells_of only sounds
  after-sounds q [] = refl
  after-sounds q (p ∷ ps) = go (set_apart known p) refl (after-sounds q ps) (after-sounds p ps)
    where
      go : (t : Bool) → set_apart known p ≡ t →
          cells_of (arrivals_after heeded known q ps) ≡ arrivals_after heeded known q (sounds known ps) →
          cells_of (arrivals_after heeded known p ps) ≡ arrivals_after heeded known p (sounds known ps) →
          cells_of (pick t (damaged_arrival p ∷ arrivals_after heeded known q ps)
          (later_arrival heeded q p ∷ arrivals_after heeded known p ps))
          ≡ arrivals_after heeded known q (pick (not t) (p ∷ sounds known ps) (sounds known ps))
      go true z d e = d
      go false z d e = rw z (ap (λ (r : List Arrival). later_arrival heeded q p ∷ r) e)

  pub arrivals-sounds : (ps : List Packet) →
      cells_of (arrivals heeded known ps) ≡ arrivals heeded known (sounds known ps)
  unfolding arrivals cells_of only sounds
  arrivals-sounds [] = refl
  arrivals-sounds (p ∷ ps) = go (set_apart known p) refl (arrivals-sounds ps)
    where
      go : (t : Bool) → set_apart known p ≡ t →
          cells_of (arrivals heeded known ps) ≡ arrivals heeded known (sounds known ps) →
          cells_of (pick t (arrivals heeded known ps) (first_arrival p ∷ arrivals_after heeded known p ps))
          ≡ arrivals heeded known (pick (not t) (p ∷ sounds known ps) (sounds known ps))
      go true z d = d
      go false z d = rw z (ap (λ (r : List Arrival). first_arrival p ∷ r) (after-sounds p ps))

damaged-cell : (a b : Arrival) (g : List Arrival) → b.damaged ≡ true → cells_of (a ∷ b ∷ g) ≡ cells_of (a ∷ g)
unfolding cells_of only
damaged-cell a b g h = rw h

-- an arrival at the front of the first unit, behind a damaged one or not: the same cells
damaged-front : (a b : Arrival) (ys : List Arrival) → b.damaged ≡ true →
    map cells_of (into_first a (groups (b ∷ ys))) ≡ map cells_of (groups (a ∷ ys))
unfolding groups
damaged-front a b [] h = ap (λ (g : List Arrival). g ∷ []) (damaged-cell a b [] h)
damaged-front a b (y ∷ ys) h = go y.begins (groups (y ∷ ys))
  where
    go : (t : Bool) (gs : List (List Arrival)) →
        map cells_of (into_first a (pick t ((b ∷ []) ∷ gs) (into_first b gs)))
        ≡ map cells_of (pick t ((a ∷ []) ∷ gs) (into_first a gs))
    go true gs = ap (λ (g : List Arrival). g ∷ map cells_of gs) (damaged-cell a b [] h)
    go false [] = ap (λ (g : List Arrival). g ∷ []) (damaged-cell a b [] h)
    go false (g ∷ gs) = ap (λ (x : List Arrival). x ∷ map cells_of gs) (damaged-cell a b g h)

into-cells : (a : Arrival) (gs : List (List Arrival)) → a.damaged ≡ false →
    map cells_of (into_first a gs) ≡ into_first a (map cells_of gs)
into-cells a [] h = rw (cells-kept a [] h) (unfold cells_of only in refl)
into-cells a (g ∷ gs) h = rw (cells-kept a g h)

-- the units' cells are the units of the cells
cells-dropped : (b : Arrival) (xs : List Arrival) → b.damaged ≡ true → cells_of (b ∷ xs) ≡ cells_of xs
unfolding cells_of only
cells-dropped b xs z = ap (λ (t : Bool). pick (not t) (b ∷ cells_of xs) (cells_of xs)) z

groups-cells : (a : Arrival) (xs : List Arrival) → a.damaged ≡ false → All Quiet xs →
    groups (a ∷ cells_of xs) ≡ map cells_of (groups (a ∷ xs))
groups-cells a [] h q = unfold groups cells_of only in sym (into-cells a [] h)
groups-cells a (b ∷ xs) h (and q qs) = go b.damaged refl (groups-cells a xs h qs) (λ z. groups-cells b xs z qs)
  where
    joined : b.begins ≡ false → groups (a ∷ b ∷ xs) ≡ into_first a (groups (b ∷ xs))
    joined z = unfold groups in
        ap (λ (t : Bool). pick t ((a ∷ []) ∷ groups (b ∷ xs)) (into_first a (groups (b ∷ xs)))) z

    split : (t : Bool) → groups (b ∷ cells_of xs) ≡ map cells_of (groups (b ∷ xs)) →
        pick t ((a ∷ []) ∷ groups (b ∷ cells_of xs)) (into_first a (groups (b ∷ cells_of xs)))
        ≡ map cells_of (pick t ((a ∷ []) ∷ groups (b ∷ xs)) (into_first a (groups (b ∷ xs))))
    split true i = rw i (sym
        (ap (λ (gs : List (List Arrival)). gs ++ map cells_of (groups (b ∷ xs))) (into-cells a [] h)))
    split false i = rw i (sym (into-cells a (groups (b ∷ xs)) h))

    whole : groups (b ∷ cells_of xs) ≡ map cells_of (groups (b ∷ xs)) →
        groups (a ∷ b ∷ cells_of xs) ≡ map cells_of (groups (a ∷ b ∷ xs))
    whole i = unfold groups in split b.begins i

    go : (t : Bool) → b.damaged ≡ t → groups (a ∷ cells_of xs) ≡ map cells_of (groups (a ∷ xs)) →
        (b.damaged ≡ false → groups (b ∷ cells_of xs) ≡ map cells_of (groups (b ∷ xs))) →
        groups (a ∷ cells_of (b ∷ xs)) ≡ map cells_of (groups (a ∷ b ∷ xs))
    go true z i j = rw (cells-dropped b xs z, joined (q.begins z)) (i ∙ sym (damaged-front a b xs z))
    go false z i j = rw (cells-kept b xs z) (whole (j z))

-- a row without its damaged packets
abbrev pub clean : UnitRow → UnitRow
clean u = record {
  least = u.least;
  greatest = u.greatest;
  size = u.size;
  packets = u.packets;
  lost = u.lost;
  damaged = 0;
}

cells-sound : (g : List Arrival) → All Sound (cells_of g)
unfolding cells_of only
cells-sound [] = empty
cells-sound (a ∷ g) =
    let r = cells-sound g in
    by-test (λ (t : Bool). All Sound (pick (not t) (a ∷ cells_of g) (cells_of g))) a.damaged (λ z. r) (λ z. and z r)

cells-lost : {g : List Arrival} → All Quiet g → total (map (λ x. x.lost) (cells_of g)) ≡ total (map (λ x. x.lost) g)
unfolding cells_of only total
cells-lost empty = refl
cells-lost (and {x} {xs} q qs) = go x.damaged refl (cells-lost qs)
  where
    go : (t : Bool) → x.damaged ≡ t → total (map (λ x. x.lost) (cells_of xs)) ≡ total (map (λ x. x.lost) xs) →
        total (map (λ x. x.lost) (pick (not t) (x ∷ cells_of xs) (cells_of xs)))
        ≡ x.lost + total (map (λ x. x.lost) xs)
    go true z e = let l = q.lost z in omega arith
    go false z e = omega arith

clean-unit : {g : List Arrival} → All Quiet g → unit_of (cells_of g) ≡ clean (unit_of g)
clean-unit {g} q = plain-unit (cells-sound g) ∙ (unfold plain_unit unit_of in rw (cells-lost q))

clean-rows : {gs : List (List Arrival)} → All (All Quiet) gs →
    map unit_of (map cells_of gs) ≡ map clean (map unit_of gs)
clean-rows empty = refl
clean-rows (and q qs) = rw (clean-unit q, clean-rows qs)

pub cells-groups : (heeded known : Bool) (ps : List Packet) →
    groups (cells_of (arrivals heeded known ps)) ≡ map cells_of (groups (arrivals heeded known ps))
unfolding arrivals
cells-groups heeded known [] = unfold cells_of only groups in refl
cells-groups heeded known (p ∷ ps) =
    by-pick (λ (xs : List Arrival). groups (cells_of xs) ≡ map cells_of (groups xs)) (set_apart known p)
    (cells-groups heeded known ps)
    (ap groups (cells-kept (first_arrival p) (arrivals_after heeded known p ps) refl)
    ∙ groups-cells (first_arrival p) (arrivals_after heeded known p ps) refl (after-quiet heeded known p ps))

arrivals-quiet : (heeded known : Bool) (ps : List Packet) → All Quiet (arrivals heeded known ps)
unfolding arrivals
arrivals-quiet heeded known [] = empty
arrivals-quiet heeded known (p ∷ ps) =
    by-pick (All Quiet) (set_apart known p) (arrivals-quiet heeded known ps)
    (and (sound-quiet refl) (after-quiet heeded known p ps))

-- THE LAW: but for word 28, the units are those of the packets that are not set apart. So one that is begins no unit,
-- adds no loss, is not counted in cells or size, and leaves times and counter alone
pub damage-apart : (edition : ℕ) (ps : List Packet) →
    map clean (units_of edition ps) ≡ units_of edition (sounds (knows_damage edition) ps)
unfolding units_of
damage-apart edition ps =
    let heeded = heeds_splices edition in
    let known = knows_damage edition in
    let xs = arrivals heeded known ps in
    sym (clean-rows (groups-all xs (arrivals-quiet heeded known ps)))
    ∙ ap (map unit_of) (sym (cells-groups heeded known ps))
    ∙ ap (λ (ys : List Arrival). map unit_of (groups ys)) (arrivals-sounds heeded known ps)
