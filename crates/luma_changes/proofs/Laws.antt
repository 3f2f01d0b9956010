-- Pixels more. No code.
use Rattle.std.proofs.Common.{◌≡◌, ℕ, ◌+◌, ◌-◌, ◌*◌, ◌/◌, ◌%◌, ◌^◌, ◌<◌, ◌≤◌, List, [], ◌∷◌, ◌++◌, length, get_or}
use Rattle.std.proofs.Common.{take, drop, ap, ◌∙◌, append_assoc, append-nil, add-one, arith, length-append}
use Rattle.std.proofs.Common.{length-drop, length-take-le, get_or-drop, take-suc}
use Rattle.rules.specs.Bytes.{tally}
use Rattle.luma_laws.proofs.Tally.{tally-append}
use Rattle.luma_laws.specs.Tallies.{rise, fall, square}
use Rattle.luma_changes.specs.declared.sums.Moves.{Moves}
use Rattle.luma_changes.specs.Figures.{Figures, Compared}

-- one pixel more: a in the old picture, b in the new
record Moved (m : Moves) (a b : ℕ) (r : Moves) : Type 0 where
  pub up : r.up ≡ (m.up + (b - a)) % 2 ^ 32
  pub down : r.down ≡ (m.down + (a - b)) % 2 ^ 32
  pub both : r.squares ≡ (m.squares + (b - a + (a - b)) * (b - a + (a - b))) % 2 ^ 32

-- one element more
tally-one : (f : ℕ → ℕ → ℕ) (p : List ℕ) (v : ℕ) → tally f 0 (p ++ v ∷ []) ≡ tally f 0 p + f (length p) v
unfolding tally
tally-one f p v =
    let here : 0 + length p ≡ length p = omega arith in
    omega (arith, rw here at (tally-append f 0 p (v ∷ [])))

-- one pixel more
figures-more : {old p : List ℕ} {m r : Moves} (v : ℕ) → Figures old p m → Moved m (get_or old (length p) 0) v r →
    Figures old (p ++ v ∷ []) r
figures-more {old} {p} {m} {r} v f g =
    record {
      up = omega (arith, tally-one (rise old) p v, f.up, g.up);
      down = omega (arith, tally-one (fall old) p v, f.down, g.down);
      both = omega (arith, tally-one (square old) p v, f.both, g.both);
    }

pub compared-none : (kept : List ℕ) (at : ℕ) (made : List ℕ) (from : ℕ) (m : Moves) → Compared kept at made from 0 m m
compared-none kept at made from m = record { more = λ old p e f. rw append-nil f }

compared-more : {kept made : List ℕ} {at from c : ℕ} {m n r : Moves} → Compared kept at made from c m n →
    from + c < length made →
    Moved n (get_or kept (at + c) 0) (get_or made (from + c) 0) r → Compared kept at made from (c + 1) m r
compared-more {kept} {made} {at} {from} {c} {m} {n} {r} f h g =
    record {
      more =
          λ old p e s.
          let some : c < length (drop from made) = simp length-drop (omega arith) in
          let q = p ++ take c (drop from made) in
          let here : length q ≡ length p + c =
          omega (arith, length-append p (take c (drop from made)), length-take-le c (drop from made) (omega arith)) in
          let same : get_or old (length q) 0 ≡ get_or kept (at + c) 0 =
          ap (λ (z : ℕ). get_or old z 0) here ∙ e c (omega arith) in
          rw (
            add-one c,
            take-suc (drop from made) c 0,
            get_or-drop from made c 0,
            ← append_assoc p (take c (drop from made)) (get_or made (from + c) 0 ∷ []),
          )
          (figures-more (get_or made (from + c) 0) (f.more old p (λ j l. e j (omega arith)) s) (rw same g));
    }

-- m, and the sums over some pixels: of rises, of falls, and of the low and the high bytes of squares
abbrev pub summed : Moves → ℕ → ℕ → ℕ → ℕ → Moves
summed m up down low high = record {
  up = (m.up + up) % 2 ^ 32;
  down = (m.down + down) % 2 ^ 32;
  squares = (m.squares + (low + 256 * high)) % 2 ^ 32;
}

-- c pixels were compared: `all` is the sum of the squares modulo 2 ^ 16
pub record Sums (kept : List ℕ) (at : ℕ) (made : List ℕ) (from c : ℕ) (m : Moves)
    (up down all high : ℕ) : Type 0 where
  pub low : ℕ
  pub few : low ≤ 255 * c
  pub wraps : all ≡ (low + 256 * high) % 2 ^ 16
  pub compared : Compared kept at made from c m (summed m up down low high)

pub summed-none : (kept : List ℕ) (at : ℕ) (made : List ℕ) (from : ℕ) (m : Moves) →
    Compared kept at made from 0 m (summed m 0 0 0 0)
summed-none kept at made from m =
    record {
      more = λ old p e f. rw append-nil
          (record { up = omega (arith, f.up); down = omega (arith, f.down); both = omega (arith, f.both) });
    }

pub summed-more : (kept : List ℕ) (at : ℕ) (made : List ℕ) (from c : ℕ) (m : Moves) (up down low high rise fall : ℕ) →
    Compared kept at made from c m (summed m up down low high) →
    from + c < length made → rise ≡ get_or made (from + c) 0 - get_or kept (at + c) 0 →
    fall ≡ get_or kept (at + c) 0 - get_or made (from + c) 0 →
    Compared kept at made from (c + 1) m (summed m (up + rise) (down + fall)
    (low + (rise + fall) * (rise + fall) % 256) (high + (rise + fall) * (rise + fall) / 256))
summed-more kept at made from c m up down low high rise fall s h er ef =
    compared-more s h
    (record { up = omega (arith, er); down = omega (arith, ef); both = rw (← er, ← ef) (omega arith) })

pub sums_none : (kept : List ℕ) (at : ℕ) (made : List ℕ) (from : ℕ) (m : Moves) → Sums kept at made from 0 m 0 0 0 0
sums_none kept at made from m =
    record { low = 0; few = omega arith; wraps = omega arith; compared = summed-none kept at made from m }

pub sums-more : (kept : List ℕ) (at : ℕ) (made : List ℕ) (from c : ℕ) (m : Moves) (up down all high rise fall : ℕ)
    {next : ℕ} → Sums kept at made from c m up down all high →
    from + c < length made → rise ≡ get_or made (from + c) 0 - get_or kept (at + c) 0 →
    fall ≡ get_or kept (at + c) 0 - get_or made (from + c) 0 →
    next ≡ (all + (rise + fall) * (rise + fall)) % 2 ^ 16 →
    Sums kept at made from (c + 1) m (up + rise) (down + fall) next (high + (rise + fall) * (rise + fall) / 256)
sums-more kept at made from c m up down all high rise fall {next} s h er ef en =
    record {
      low = s.low + (rise + fall) * (rise + fall) % 256;
      few = more ((rise + fall) * (rise + fall)) s.low s.few;
      wraps = wrapped ((rise + fall) * (rise + fall)) s.low s.wraps en;
      compared = summed-more kept at made from c m up down s.low high rise fall s.compared h er ef;
    }
  where
    more : (square low : ℕ) → low ≤ 255 * c → low + square % 256 ≤ 255 * (c + 1)
    more square low k = omega arith

    wrapped : (square low : ℕ) → all ≡ (low + 256 * high) % 2 ^ 16 → next ≡ (all + square) % 2 ^ 16 →
        next ≡ (low + square % 256 + 256 * (high + square / 256)) % 2 ^ 16
    wrapped square low a b = omega arith

-- the low bytes' sum, of the sum of all squares
pub low-is : {kept : List ℕ} {at : ℕ} {made : List ℕ} {from c : ℕ} {m : Moves} {up down all high r : ℕ}
    (s : Sums kept at made from c m up down all high) → c ≤ 240 → r < 2 ^ 16 →
    (r + high % 256 * 256) % 2 ^ 16 ≡ all → r ≡ s.low
low-is {all = all} {high = high} {r = r} s k small e = exact s.low (omega (arith, s.few)) s.wraps
  where
    exact : (low : ℕ) → low < 2 ^ 16 → all ≡ (low + 256 * high) % 2 ^ 16 → r ≡ low
    exact low l w = omega arith
