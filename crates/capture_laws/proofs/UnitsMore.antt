-- As many units as beginnings, and the totals over all units: cells, damaged ones, lost.
use Prim.Native.Nat.{ℕ, suc, ◌+◌, ◌-◌, ◌*◌, ◌%◌, ◌≤◌}
use native.Mathlib.Omega.{arith}
use mathlib.Core.Path.{◌≡◌, refl, sym, ap, ◌∙◌}
use mathlib.Core.List.{List, [], ◌∷◌, ◌++◌, map, map-append}
use mathlib.Core.Bool.{Bool, true, false, not, ◌&&◌}
use lib.ListN.{length, length-append, length-map}
use lib.Dec.{ltb}
use Rattle.rules.specs.declared.UnitRow.{UnitRow}
use Rattle.rules.specs.Bytes.{pick, total, count, only, end_to_end}
use Rattle.rules.specs.Editions.{heeds_splices, knows_damage}
use Rattle.rules.specs.Packets.{Packet, start_mark, counter, splice_mark}
use Rattle.rules.specs.Units.{Arrival, gap_loss, loss_between, set_apart, arrivals_after, arrivals, before_units}
use Rattle.rules.specs.Units.{into_first, groups, cells_of, unit_of, units_of, beginnings}
use Rattle.rules.proofs.Laws.Lists.{by-pick, by-picks, total-append, count-append, only-append}

-- ---- as many units as beginnings

length-into_first : (a : Arrival) (gs : List (List Arrival)) (n : ℕ) → length gs ≡ suc n →
    length (into_first a gs) ≡ suc n
length-into_first a [] n h = absurd (omega arith)
length-into_first a (g ∷ gs) n h = h

pub length-groups : (a : Arrival) (xs : List Arrival) →
    length (groups (a ∷ xs)) ≡ suc (length (only (λ x. x.begins) xs))
unfolding groups only
length-groups a [] = refl
length-groups a (b ∷ xs) =
    let e = length-groups b xs in
    by-picks (λ (gs : List (List Arrival)) (r : List Arrival). length gs ≡ suc (length r)) b.begins (ap suc e)
    (length-into_first a (groups (b ∷ xs)) _ e)

-- whatever marks are heeded, the same packets begin units
abbrev pub begins_unit : Arrival → Bool
begins_unit x = x.begins

abbrev Alike : List Arrival → List Arrival → Type 0
Alike xs ys = length (only begins_unit xs) ≡ length (only begins_unit ys)

begins-alike : (heeded known : Bool) (q : Packet) (ps : List Packet) →
    Alike (arrivals_after heeded known q ps) (arrivals_after false known q ps)
unfolding arrivals_after only
begins-alike heeded known q [] = refl
begins-alike heeded known q (p ∷ ps) =
    let e = begins-alike heeded known p ps in
    by-picks Alike (set_apart known p) (begins-alike heeded known q ps)
    (by-picks (λ (xs ys : List Arrival). length xs ≡ length ys) (start_mark p.bytes) (ap suc e) e)

units-groups : (heeded known : Bool) (ps : List Packet) →
    length (groups (arrivals heeded known ps)) ≡ length (only begins_unit (arrivals false known ps))
unfolding arrivals only
units-groups heeded known [] = unfold groups in refl
units-groups heeded known (p ∷ ps) =
    by-picks (λ (xs ys : List Arrival). length (groups xs) ≡ length (only begins_unit ys)) (set_apart known p)
    (units-groups heeded known ps)
    (length-groups _ (arrivals_after heeded known p ps) ∙ ap suc (begins-alike heeded known p ps))

pub units-beginnings : (edition : ℕ) (ps : List Packet) →
    length (units_of edition ps) ≡ length (beginnings edition ps)
unfolding units_of beginnings
units-beginnings edition ps =
    length-map (groups (arrivals (heeds_splices edition) (knows_damage edition) ps)) unit_of
    ∙ units-groups (heeds_splices edition) (knows_damage edition) ps

-- ---- the totals over all units

abbrev pub all_packets : List UnitRow → ℕ
all_packets us = total (map (λ u. u.packets) us)

abbrev pub all_lost : List UnitRow → ℕ
all_lost us = total (map (λ u. u.lost) us)

abbrev pub all_damaged : List UnitRow → ℕ
all_damaged us = total (map (λ u. u.damaged) us)

abbrev pub losses : List Arrival → List ℕ
losses g = map (λ a. a.lost) g

into_first-end_to_end : (a : Arrival) (gs : List (List Arrival)) → end_to_end (into_first a gs) ≡ a ∷ end_to_end gs
unfolding end_to_end
into_first-end_to_end a [] = refl
into_first-end_to_end a (g ∷ gs) = refl

-- the units, joined again, are the arrivals
pub groups-end_to_end : (xs : List Arrival) → end_to_end (groups xs) ≡ xs
unfolding groups end_to_end
groups-end_to_end [] = refl
groups-end_to_end (a ∷ []) = refl
groups-end_to_end (a ∷ b ∷ xs) =
    let e = ap (λ (r : List Arrival). a ∷ r) (groups-end_to_end (b ∷ xs)) in
    by-pick (λ (gs : List (List Arrival)). end_to_end gs ≡ a ∷ b ∷ xs) b.begins e
    (into_first-end_to_end a (groups (b ∷ xs)) ∙ e)

abbrev pub is_apart : Arrival → Bool
is_apart a = a.damaged

pub cells-append : (xs ys : List Arrival) → length (cells_of (xs ++ ys)) ≡ length (cells_of xs) + length (cells_of ys)
unfolding cells_of
cells-append xs ys = ap length (only-append (λ (a : Arrival). not a.damaged) xs ys)
    ∙ length-append (cells_of xs) (cells_of ys)

pub rows-packets : (gs : List (List Arrival)) → all_packets (map unit_of gs) ≡ length (cells_of (end_to_end gs))
unfolding unit_of end_to_end total
rows-packets [] = unfold cells_of only in refl
rows-packets (g ∷ gs) = let h = rows-packets gs in let e = cells-append g (end_to_end gs) in omega arith

pub rows-damaged : (gs : List (List Arrival)) → all_damaged (map unit_of gs) ≡ count is_apart (end_to_end gs)
unfolding unit_of end_to_end total
rows-damaged [] = unfold count in refl
rows-damaged (g ∷ gs) = let h = rows-damaged gs in let e = count-append is_apart g (end_to_end gs) in omega arith

pub rows-lost : (gs : List (List Arrival)) → all_lost (map unit_of gs) ≡ total (losses (end_to_end gs))
unfolding unit_of end_to_end total
rows-lost [] = refl
rows-lost (g ∷ gs) =
    ap (λ (n : ℕ). total (losses g) + n) (rows-lost gs)
    ∙ sym (ap total (map-append (λ (a : Arrival). a.lost) g (end_to_end gs))
    ∙ total-append (losses g) (losses (end_to_end gs)))

-- every arrival is a cell or damaged
pub parted : (xs : List Arrival) → length (cells_of xs) + count is_apart xs ≡ length xs
unfolding cells_of only count
parted [] = refl
parted (a ∷ xs) = go a.damaged (parted xs)
  where
    go : (t : Bool) → length (cells_of xs) + count is_apart xs ≡ length xs →
        length (pick (not t) (a ∷ cells_of xs) (cells_of xs)) + (pick t 1 0 + count is_apart xs) ≡ suc (length xs)
    go true e = omega arith
    go false e = omega arith

length-after : (heeded known : Bool) (q : Packet) (ps : List Packet) →
    length (arrivals_after heeded known q ps) ≡ length ps
unfolding arrivals_after
length-after heeded known q [] = refl
length-after heeded known q (p ∷ ps) =
    by-pick (λ (xs : List Arrival). length xs ≡ suc (length ps)) (set_apart known p)
    (ap suc (length-after heeded known q ps)) (ap suc (length-after heeded known p ps))

-- every packet of PID arrives, or stands before the first unit
length-arrivals : (heeded known : Bool) (ps : List Packet) →
    length (arrivals heeded known ps) + before_units known ps ≡ length ps
unfolding arrivals before_units
length-arrivals heeded known [] = refl
length-arrivals heeded known (p ∷ ps) =
    let e = length-arrivals heeded known ps in
    let l = length-after heeded known p ps in
    by-picks (λ (xs : List Arrival) (n : ℕ). length xs + n ≡ suc (length ps)) (set_apart known p) (omega arith)
    (omega arith)

-- every packet of PID is a unit's cell, a unit's damaged one, or one before the first unit
pub packets-total : (edition : ℕ) (ps : List Packet) →
    all_packets (units_of edition ps) + all_damaged (units_of edition ps) + before_units (knows_damage edition) ps
    ≡ length ps
unfolding units_of
packets-total edition ps =
    let xs = arrivals (heeds_splices edition) (knows_damage edition) ps in
    let a = rows-packets (groups xs) ∙ ap (λ (ys : List Arrival). length (cells_of ys)) (groups-end_to_end xs) in
    let b = rows-damaged (groups xs) ∙ ap (count is_apart) (groups-end_to_end xs) in
    let c = parted xs in
    let d = length-arrivals (heeds_splices edition) (knows_damage edition) ps in
    omega arith

lost-total : (edition : ℕ) (ps : List Packet) →
    all_lost (units_of edition ps) ≡ total (losses (arrivals (heeds_splices edition) (knows_damage edition) ps))
unfolding units_of
lost-total edition ps =
    let all = arrivals (heeds_splices edition) (knows_damage edition) ps in
    rows-lost (groups all) ∙ ap (λ (xs : List Arrival). total (losses xs)) (groups-end_to_end all)

-- ---- how much can be lost

pub gap-small : (c d : ℕ) → gap_loss c d ≤ 14
unfolding gap_loss
gap-small c d = by-pick (λ (n : ℕ). n ≤ 14) (ltb 1 ((d + 16 - c) % 16)) (omega arith) (omega arith)

between-small : (heeded : Bool) (q p : Packet) → loss_between heeded q p ≤ 14
unfolding loss_between
between-small heeded q p = by-pick (λ (n : ℕ). n ≤ 14) (heeded && splice_mark p.bytes) (omega arith)
    (gap-small (counter q.bytes) (counter p.bytes))

after_small : (heeded known : Bool) (q : Packet) (ps : List Packet) →
    total (losses (arrivals_after heeded known q ps)) ≤ 14 * length ps
unfolding arrivals_after total
after_small heeded known q [] = omega arith
after_small heeded known q (p ∷ ps) =
    let d = after_small heeded known q ps in
    let e = after_small heeded known p ps in
    let g = between-small heeded q p in
    by-pick (λ (xs : List Arrival). total (losses xs) ≤ 14 * suc (length ps)) (set_apart known p) (omega arith)
    (omega arith)

all_small : (heeded known : Bool) (ps : List Packet) → total (losses (arrivals heeded known ps)) ≤ 14 * length ps
unfolding arrivals total
all_small heeded known [] = omega arith
all_small heeded known (p ∷ ps) =
    let d = all_small heeded known ps in
    let h = after_small heeded known p ps in
    by-pick (λ (xs : List Arrival). total (losses xs) ≤ 14 * suc (length ps)) (set_apart known p) (omega arith)
    (omega arith)

pub lost-small : (edition : ℕ) (ps : List Packet) → all_lost (units_of edition ps) ≤ 14 * length ps
lost-small edition ps = rw (lost-total edition ps) (all_small (heeds_splices edition) (knows_damage edition) ps)
