-- The rows that stay are in order, and each has its number in the lists and a place that 29 bits hold.
use Rattle.std.proofs.Common.{ℕ, ◌+◌, ◌*◌, ◌<◌, ◌≤◌, Bool, true, false, eqb, List, [], ◌∷◌, length, get_or, arith}
use Rattle.rules.specs.Bytes.{pick, All, empty, and}
use Rattle.rules.specs.Cuts.{sorted}
use Rattle.rules.specs.Rtp.{wrapped, moved, origin, places_after, places, place_of, row_at, rows_from, ordered}
use Rattle.rtp_order.specs.Order.{Rises, nothing, before, new_places, RowOf, Stayed}
use Rattle.rtp_order.proofs.Order.{all-sorted, rises_sorted}
use Rattle.rtp_order.proofs.Firsts.{all_new, new-ordered, length-places}
use Rattle.rtp_order.proofs.Rows.{moved-high}

rises-new : (p : ℕ) (xs : List ℕ) → Rises xs → Rises (new_places p xs)
unfolding new_places
rises-new p [] nothing = nothing
rises-new p (x ∷ xs) (before k r) = go (eqb (place_of x) p) (rises-new p xs r) (rises-new (place_of x) xs r)
  where
    go : (b : Bool) → Rises (new_places p xs) → Rises (new_places (place_of x) xs) →
        Rises (pick b (new_places p xs) (x ∷ new_places (place_of x) xs))
    go true m n = m
    go false m n = before (all_new (place_of x) xs k) n

places-high : (place b : ℕ) (ss : List ℕ) → place + 32767 * length ss < 536870912 →
    All (λ (p : ℕ). p < 536870912) (places_after place b ss)
unfolding places_after
places-high place b [] h = empty
places-high place b (s ∷ ss) h =
    let up : moved place (wrapped s b) ≤ place + 32767 =
    moved-high place (wrapped s b) (place + 32767) (omega arith) in
    and {x = moved place (wrapped s b)} (omega arith) (places-high (moved place (wrapped s b)) s ss (omega arith))

rows-each : (n i : ℕ) (ps : List ℕ) → i + length ps ≤ n → n ≤ 4096 → All (λ (p : ℕ). p < 536870912) ps →
    All (RowOf n) (rows_from i ps)
unfolding rows_from
rows-each n i [] h k empty = empty
rows-each n i (p ∷ ps) h k (and g gs) =
    and {x = row_at p i} (record { number = omega arith; place = omega arith })
    (rows-each n (i + 1) ps (omega arith) k gs)

high-places : (s : List ℕ) → length s ≤ 4096 → get_or s 0 0 < 65536 → All (λ (p : ℕ). p < 536870912) (places s)
unfolding places
high-places [] h k = empty
high-places (x ∷ ss) h k = and {x = origin + x} (omega arith) (places-high (origin + x) x ss (omega arith))

-- the first sequence number is below 65,536
pub stayed : (s : List ℕ) → length s ≤ 4096 → get_or s 0 0 < 65536 → Stayed (length s) (ordered s)
stayed s h k =
    let rows = rows_from 0 (places s) in
    let each = rows-each (length s) 0 (places s) (omega (arith, length-places s)) h (high-places s h k) in
    rw (← new-ordered s h) (record {
      rises = rises-new 0 (sorted rows) (rises_sorted rows);
      each = all_new 0
          (sorted rows) (all-sorted rows each);
    })
