-- The sizes of an opening that is not refused: what its given values and its reduced size are bounded by, and that
-- the level is the greatest of all.
use Prim.Native.Nat.{ℕ, zero, suc, ◌*◌, ◌/◌, ◌^◌, ◌≤◌, ◌<◌}
use native.Mathlib.Omega.{arith}
use native.Mathlib.Nat.{mul-le-mul, pow-suc, pow-le-pow_right, one-le-pow, div-one, le-div_iff_mul-le}
use native.Mathlib.Nat.{div-lt_iff_lt-mul, lt_of_not-le}
use native.Mathlib.Decide.{dec_le}
use mathlib.Core.Path.{◌≡◌, refl}
use mathlib.Core.Bool.{Bool, true, false, ◌&&◌}
use lib.Dec.{leb}
use borrow.Author.Tests.{leb-true, le-leb, lt-leb}
use Rattle.rules.specs.declared.Opening.{Opening}
use Rattle.rules.specs.Bytes.{pick, within}
use Rattle.rules.specs.Refusals.{Fault, none, unless, ◌or_else◌}
use Rattle.rules.specs.Editions.{is_edition}
use Rattle.rules.specs.Opening.{good_size, good_time, good_pid, opening_fault, level_up_to, level, side, columns}
use Rattle.rules.specs.Opening.{lines}
use Rattle.rules.specs.Opening.{pixel_count}
use Rattle.rules.proofs.Laws.Lists.{both, inside}

-- ---- the given values

pub record Good (o : Opening) : Type 0 where
  pub height_low : 30 ≤ o.height
  pub height_high : o.height ≤ 1088
  pub width_low : 15 ≤ o.width
  pub width_high : o.width ≤ 1920
  pub tall : o.height ≤ 2 * o.width
  pub wide : o.width ≤ 4 * o.height
  pub time_low : 10000 ≤ o.time
  pub time_high : o.time ≤ 200000
  pub pid_high : o.pid ≤ 8191
  pub edition : is_edition o.edition ≡ true

passed : (b : Bool) (k : ℕ) (f : Fault) → (unless b k or_else f) ≡ none → (b ≡ true) × (f ≡ none)
passed true k f e = (refl, e)
passed false k f e = let z : ◌≡◌ {A = ℕ} 0 1 = cc in absurd (omega arith)

last : (b : Bool) (k : ℕ) → unless b k ≡ none → b ≡ true
last true k e = refl
last false k e = let z : ◌≡◌ {A = ℕ} 0 1 = cc in absurd (omega arith)

pub good : (o : Opening) → opening_fault o ≡ none → Good o
unfolding opening_fault good_size good_time good_pid
good o e =
    let W = o.width in
    let H = o.height in
    let edition = unless (is_edition o.edition) 20 in
    let a =
    passed (good_size W H) 1 (unless (good_time o.time) 2 or_else unless (good_pid o.pid) 3 or_else edition) e in
    let b = passed (good_time o.time) 2 (unless (good_pid o.pid) 3 or_else edition) a.1 in
    let c = passed (good_pid o.pid) 3 edition b.1 in
    let s = both (within 30 1088 H && within 15 1920 W && leb H (2 * W)) (leb W (4 * H)) a.0 in
    let t = both (within 30 1088 H && within 15 1920 W) (leb H (2 * W)) s.0 in
    let u = both (within 30 1088 H) (within 15 1920 W) t.0 in
    let h = inside 30 1088 H u.0 in
    let w = inside 15 1920 W u.1 in
    let d = inside 10000 200000 o.time b.0 in
    record {
      height_low = h.0;
      height_high = h.1;
      width_low = w.0;
      width_high = w.1;
      tall = leb-true H (2 * W) t.1;
      wide = leb-true W (4 * H) s.1;
      time_low = d.0;
      time_high = d.1;
      pid_high = leb-true o.pid 8191 c.0;
      edition = last (is_edition o.edition) 20 c.1;
    }

-- ---- the level

-- of the k up to n, the greatest with H / 2^k at least 30
record Greatest (n h k : ℕ) : Type 0 where
  pub few : k ≤ n
  pub fits : 30 ≤ h / 2 ^ k
  pub most : (j : ℕ) → j ≤ n → 30 ≤ h / 2 ^ j → j ≤ k

up_to : (n h : ℕ) → 30 ≤ h → Greatest n h (level_up_to n h)
unfolding level_up_to
up_to zero h e = record { few = omega arith; fits = rw (div-one h) e; most = λ j l f. l }
up_to (suc n) h e = go (dec_le 30 (h / 2 ^ suc n)) (up_to n h e)
  where
    go : Dec (30 ≤ h / 2 ^ suc n) → Greatest n h (level_up_to n h) →
        Greatest (suc n) h (pick (leb 30 (h / 2 ^ suc n)) (suc n) (level_up_to n h))
    go (yes f) g = rw (le-leb 30 (h / 2 ^ suc n) f) (record { few = omega arith; fits = f; most = λ j l k. l })
    go (no f) g =
        rw (lt-leb 30 (h / 2 ^ suc n) (lt_of_not-le f))
        (record { few = omega (arith, g.few); fits = g.fits; most = λ j l k. below j l k (dec_le j n) })
      where
        below : (j : ℕ) → j ≤ suc n → 30 ≤ h / 2 ^ j → Dec (j ≤ n) → j ≤ level_up_to n h
        below j l k (yes m) = g.most j m k
        below j l k (no m) =
            let last : j ≡ suc n = omega (arith, lt_of_not-le m) in
            absurd (f (rw last at k))

-- H below 60 × 2^k, by cases of the level
below-sixty : (h k : ℕ) → h ≤ 1088 → k ≤ 5 → ((j : ℕ) → j ≤ 5 → 30 ≤ h / 2 ^ j → j ≤ k) → h < 60 * 2 ^ k
below-sixty h k high few most = elim (dec_le (suc k) 5) [
  | yes l ↦
      let less : h / 2 ^ suc k < 30 =
      lt_of_not-le (λ (f : 30 ≤ h / 2 ^ suc k). let m = most (suc k) l f in absurd (omega arith)) in
      let some : 0 < 2 ^ suc k = omega (arith, one-le-pow (suc k) 2 (omega arith)) in
      let lower : h < 30 * 2 ^ suc k = (div-lt_iff_lt-mul some).0 less in
      omega (arith, pow-suc 2 k)
  | no l ↦
      let last : k ≡ 5 = omega (arith, lt_of_not-le l) in
      rw last (omega arith)
]

-- the level is the greatest of all numbers k with H / 2^k at least 30
pub record Level (o : Opening) : Type 0 where
  pub few : level o ≤ 5
  pub fits : 30 ≤ o.height / 2 ^ level o
  pub greatest : (k : ℕ) → 30 ≤ o.height / 2 ^ k → k ≤ level o

pub level-greatest : (o : Opening) → Good o → Level o
unfolding level
level-greatest o g =
    let u = up_to 5 o.height g.height_low in
    record { few = u.few; fits = u.fits; greatest = λ k f. go k f (dec_le k 5) }
  where
    go : (k : ℕ) → 30 ≤ o.height / 2 ^ k → Dec (k ≤ 5) → k ≤ level_up_to 5 o.height
    go k f (yes l) = (up_to 5 o.height g.height_low).most k l f
    go k f (no l) =
        let two : 0 < 2 = omega arith in
        let six : 6 ≤ k = omega (arith, lt_of_not-le l) in
        let large : 2 ^ 6 ≤ 2 ^ k = pow-le-pow_right two six in
        let some : 0 < 2 ^ k = omega arith in
        let more : 30 * 2 ^ k ≤ o.height = (le-div_iff_mul-le some).0 f in
        absurd (omega (arith, g.height_high))

-- ---- the reduced size

pub record Sizes (o : Opening) : Type 0 where
  pub side_high : side o ≤ 32
  pub columns_low : 15 ≤ columns o
  pub columns_high : columns o ≤ 239
  pub lines_low : 30 ≤ lines o
  pub lines_high : lines o ≤ 59
  pub pixels_some : 0 < pixel_count o
  pub pixels_high : pixel_count o ≤ 14101

pub sizes : (o : Opening) → Good o → Sizes o
unfolding level side columns lines pixel_count
sizes o g =
    let u = up_to 5 o.height g.height_low in
    let n = 2 ^ level_up_to 5 o.height in
    let two : 0 < 2 = omega arith in
    let some : 0 < n = omega (arith, one-le-pow (level_up_to 5 o.height) 2 two) in
    let upper : o.height < 60 * n =
    below-sixty o.height (level_up_to 5 o.height) g.height_high u.few u.most in
    let lower : 30 * n ≤ o.height = (le-div_iff_mul-le some).0 u.fits in
    let line-high : o.height / n < 60 = (div-lt_iff_lt-mul some).1 upper in
    let column-low : 15 ≤ o.width / n = (le-div_iff_mul-le some).1 (omega (arith, g.tall)) in
    let column-high : o.width / n < 240 = (div-lt_iff_lt-mul some).1 (omega (arith, g.wide)) in
    let w : o.width / n ≤ 239 = omega arith in
    let h : o.height / n ≤ 59 = omega arith in
    let least : 15 * 30 ≤ o.width / n * (o.height / n) = mul-le-mul column-low u.fits in
    record {
      side_high = pow-le-pow_right two u.few;
      columns_low = column-low;
      columns_high = w;
      lines_low = u.fits;
      lines_high = h;
      pixels_some = omega arith;
      pixels_high = mul-le-mul w h;
    }

-- ---- its pictures
