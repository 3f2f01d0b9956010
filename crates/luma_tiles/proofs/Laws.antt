-- Counting: nothing but a picture's own bins changes, and they stand for a pixel more. No code.
use Rattle.std.proofs.Common.{◌≡◌, ℕ, ◌+◌, ◌-◌, ◌*◌, ◌/◌, ◌%◌, ◌^◌, ◌<◌, ◌≤◌, Bool, true, false, eqb, List, [], ◌∷◌}
use Rattle.std.proofs.Common.{take, drop-drop, take-take}
use Rattle.std.proofs.lemmas.List.{drop-take, take_rest, places}
use Rattle.std.proofs.Common.{rules}
use borrow.Rule.Slice.PartMut.{put_mid}
use Rattle.std.proofs.Common.{◌++◌, length, get_or, drop, set, sym, refl, ap, ◌∙◌, append_assoc, append-nil, one-mul}
use Rattle.std.proofs.Common.{zero-mul, add-one, arith, length-append, length-set}
use Rattle.std.proofs.Common.{get_or-set_other, take-suc, get_or-set_same, eqb-true}
use borrow.Author.Tests.{eqb-false}
use Rattle.rules.specs.Bytes.{pick, count, tally}
use Rattle.rules.specs.Histograms.{third, tile_at, bin, in_bin}
use Rattle.rules.proofs.Laws.Lists.{count-append}
use Rattle.rules.specs.Counted.{hits}
use Rattle.luma_laws.specs.Tallies.{bin_tally}
use Rattle.luma_laws.proofs.Tiles.{bin-more}
use Rattle.luma_laws.proofs.Thirds.{tile-of}
use Rattle.luma_sums.specs.Sums.{run}
use Rattle.luma_sums.proofs.Runs.{run_length, run-split, column}
use Rattle.luma_tiles.specs.Bins.{Kept, Cleared, in_tile, Grown, Three, CountedRow}

kept-none : (base : ℕ) (a : List ℕ) → Kept base a a
kept-none base a = record { size = refl; low = λ i h. refl; high = λ i h. refl }

pub kept_more : {base : ℕ} {a b d : List ℕ} → Kept base a b → Kept base b d → Kept base a d
kept_more f g =
    record { size = g.size ∙ f.size; low = λ i h. g.low i h ∙ f.low i h; high = λ i h. g.high i h ∙ f.high i h }

-- a store among them
pub kept_set : (base k x : ℕ) (a : List ℕ) → k < 144 → Kept base a (set a (base + k) x)
kept_set base k x a h =
    record {
      size = length-set a (base + k) x;
      low = λ i l. get_or-set_other a (base + k) i x 0 (λ m. omega arith);
      high = λ i l. get_or-set_other a (base + k) i x 0 (λ m. omega arith);
    }

-- ---- counts that grow

pub grown-none : (base : ℕ) (a : List ℕ) → Grown base (λ t b. 0) a a
grown-none base a = record { kept = kept-none base a; each = λ e t b ht hb. omega arith }

pub grown-same : {base : ℕ} {f g : ℕ → ℕ → ℕ} {a b : List ℕ} → ((t k : ℕ) → f t k ≡ g t k) → Grown base f a b →
    Grown base g a b
grown-same h s = record { kept = s.kept; each = λ e t b ht hb. rw (← h t b) (s.each e t b ht hb) }

pub grown-more : {base : ℕ} {f g : ℕ → ℕ → ℕ} {a b d : List ℕ} → Grown base f a b → Grown base g b d →
    Grown base (λ t k. f t k + g t k) a d
grown-more s r =
    record {
      kept = kept_more s.kept r.kept;
      each = λ e t b ht hb. omega (arith, s.each e t b ht hb, r.each (s.kept.size ∙ e) t b ht hb);
    }

-- one pixel
pub counted : (base v t k x : ℕ) {a : List ℕ} → base + 144 ≤ 720 → t < 9 → (k ≡ bin v) × (k < 16) →
    x ≡ (get_or a (base + (16 * t + k)) 0 + 1) % 2 ^ 32 →
    Grown base (in_tile t (v ∷ [])) a (set a (base + (16 * t + k)) x)
unfolding in_bin count
counted base v t k x {a} hs ht hk e =
    record {
      kept = kept_set base (16 * t + k) x a (omega arith);
      each = λ size u b hu hb. step size u b hu hb (eqb t u) refl (eqb (bin v) b) refl;
    }
  where
    step : length a ≡ 720 → (u b : ℕ) → u < 9 → b < 16 → (y : Bool) → eqb t u ≡ y → (z : Bool) → eqb (bin v) b ≡ z →
        get_or (set a (base + (16 * t + k)) x) (base + (16 * u + b)) 0 % 2 ^ 32
        ≡ (get_or a (base + (16 * u + b)) 0 + pick (eqb t u) (pick (eqb (bin v) b) 1 0 + 0) 0) % 2 ^ 32
    step size u b hu hb true y true z =
        let tile : t ≡ u = eqb-true t u y in
        let value : k ≡ b = hk.0 ∙ eqb-true (bin v) b z in
        rw (y, z, ← tile, ← value, get_or-set_same a (base + (16 * t + k)) x 0 (omega (arith, size))) (omega arith)
    step size u b hu hb true y false z =
        rw (
          y,
          z,
          get_or-set_other a (base + (16 * t + k)) (base + (16 * u + b)) x 0
              (λ m. eqb-false (bin v) b z (omega arith)),
        ) (omega arith)
    step size u b hu hb false y r z =
        rw (
          y,
          get_or-set_other a (base + (16 * t + k)) (base + (16 * u + b)) x 0
              (λ m. eqb-false t u y (omega arith)),
        )
        (omega arith)

-- ---- pixels of one tile

in-none : (u t b : ℕ) → in_tile u [] t b ≡ 0
unfolding in_bin count
in-none u t b = go (eqb u t)
  where
    go : (x : Bool) → ◌≡◌ {A = ℕ} (pick x 0 0) 0
    go true = refl
    go false = refl

pub in-append : (u t b : ℕ) (xs ys : List ℕ) → in_tile u (xs ++ ys) t b ≡ in_tile u xs t b + in_tile u ys t b
unfolding in_bin
in-append u t b xs ys = rw (count-append (λ v. eqb (bin v) b) xs ys)
    (go (eqb u t) (count (λ v. eqb (bin v) b) xs) (count (λ v. eqb (bin v) b) ys))
  where
    go : (x : Bool) (m n : ℕ) → ◌≡◌ {A = ℕ} (pick x (m + n) 0) (pick x m 0 + pick x n 0)
    go true m n = refl
    go false m n = refl

in_one : (t b u v : ℕ) → pick (eqb u t) (pick (eqb (bin v) b) 1 0) 0 ≡ in_tile u (v ∷ []) t b
unfolding in_bin count
in_one t b u v = go (eqb u t) (pick (eqb (bin v) b) 1 0)
  where
    go : (x : Bool) (n : ℕ) → ◌≡◌ {A = ℕ} (pick x n 0) (pick x (n + 0) 0)
    go true n = omega arith
    go false n = refl

-- pixels that stand in one tile of the picture, behind the first pixels p
in-picture : (w h t b u : ℕ) (p xs : List ℕ) → ((i : ℕ) → i < length xs → tile_at w h (length p + i) ≡ u) →
    bin_tally w h t b (p ++ xs) ≡ bin_tally w h t b p + in_tile u xs t b
in-picture w h t b u p [] e = rw append-nil (omega (arith, in-none u t b))
in-picture w h t b u p (v ∷ xs) e =
    let q = p ++ v ∷ [] in
    let l = length-append p (v ∷ []) in
    let at : length p ≡ length p + 0 = omega arith in
    let here : tile_at w h (length p) ≡ u = ap (tile_at w h) at ∙ e 0 (omega arith) in
    let more = in-picture w h t b u q xs (λ i k. let next : length q + i ≡ length p + (i + 1) = omega arith in
    ap (tile_at w h) next ∙ e (i + 1) (omega arith)) in
    let one : hits w h t b (length p) v ≡ in_tile u (v ∷ []) t b = rw here (in_one t b u v) in
    rw (← append_assoc p (v ∷ []) xs) (omega (arith, more, bin-more w h t b v p, one, in-append u t b (v ∷ []) xs))

-- ---- the pixels of a row

one-more : (s : List ℕ) (i : ℕ) → i < length s → take (i + 1) s ≡ take i s ++ get_or s i 0 ∷ []
one-more s i h = rw (add-one i, take-suc s i 0) refl

pub rest-none : (base t : ℕ) (a : List ℕ) → Grown base (in_tile t []) a a
rest-none base t a = grown-same (λ u b. omega (arith, in-none t u b)) (grown-none base a)

pub rest-more : (base t i : ℕ) (xs : List ℕ) {a b c : List ℕ} → Grown base (in_tile t (take i xs)) a b →
    i < length xs →
    Grown base (in_tile t (get_or xs i 0 ∷ [])) b c → Grown base (in_tile t (take (i + 1) xs)) a c
rest-more base t i xs s h f =
    rw (one-more xs i h)
    (grown-same (λ u b. sym (in-append t u b (take i xs) (get_or xs i 0 ∷ []))) (grown-more s f))

pub three-none : (base t : ℕ) (a : List ℕ) → Three base t [] [] [] a a
three-none base t a =
    grown-same (λ u b. omega (arith, in-none t u b, in-none (t + 1) u b, in-none (t + 2) u b)) (grown-none base a)

pub three-more : (base t i : ℕ) (xs ys zs : List ℕ) {a b c d e : List ℕ} →
    Three base t (take i xs) (take i ys) (take i zs) a b → i < length xs → i < length ys → i < length zs →
    Grown base (in_tile t (get_or xs i 0 ∷ [])) b c → Grown base (in_tile (t + 1) (get_or ys i 0 ∷ [])) c d →
    Grown base (in_tile (t + 2) (get_or zs i 0 ∷ [])) d e →
    Three base t (take (i + 1) xs) (take (i + 1) ys) (take (i + 1) zs) a e
three-more base t i xs ys zs s hx hy hz f g k =
    rw (one-more xs i hx, one-more ys i hy, one-more zs i hz)
    (grown-same
    (λ u b.
    omega (
      arith,
      in-append t u b (take i xs) (get_or xs i 0 ∷ []),
      in-append (t + 1) u b (take i ys) (get_or ys i 0 ∷ []),
      in-append (t + 2) u b (take i zs) (get_or zs i 0 ∷ []),
    ))
    (grown-more (grown-more (grown-more s f) g) k))

-- parts of a run
take-run : (s : List ℕ) (at m k : ℕ) → k ≤ m → take k (run s at m) ≡ run s at k
take-run s at m k h = take-take k m (drop at s) h

drop-run : (s : List ℕ) (at m k : ℕ) → k ≤ m → drop k (run s at m) ≡ run s (at + k) (m - k)
drop-run s at m k h =
    let e : m ≡ k + (m - k) = omega arith in
    ap (λ (n : ℕ). drop k (take n (drop at s))) e ∙ drop-take k (m - k) (drop at s)
    ∙ ap (λ (xs : List ℕ). take (m - k) xs) (drop-drop k at s)

-- the columns of one tile column
column-is : (w h r j c : ℕ) → c < w → j * w ≤ 3 * c → 3 * c < j * w + w → tile_at w h (r * w + c) ≡ 3 * third h r + j
unfolding third
column-is w h r j c k lo hi = tile-of w h r c k ∙ ap (λ (z : ℕ). 3 * third h r + z) (column w j (3 * c) lo hi)

-- pixels of row r behind the first pixels p, of the columns from c on
in-columns : (w h r j c m t b : ℕ) (p pixels : List ℕ) → length p ≡ r * w + c → c + m ≤ w →
    r * w + c + m ≤ length pixels → j * w ≤ 3 * c → 3 * (c + m) < j * w + w + 3 →
    bin_tally w h t b (p ++ run pixels (r * w + c) m)
    ≡ bin_tally w h t b p + in_tile (3 * third h r + j) (run pixels (r * w + c) m) t b
in-columns w h r j c m t b p pixels l inside there lo hi =
    let n = run_length pixels (r * w + c) m there in
    in-picture w h t b (3 * third h r + j) p (run pixels (r * w + c) m)
    (λ i k. let at : length p + i ≡ r * w + (c + i) = omega arith in
    rw at (column-is w h r j (c + i) (omega arith) (omega arith) (omega arith)))

carried_on : (x y z f v : ℕ) → x % 2 ^ 32 ≡ (y + f) % 2 ^ 32 → y % 2 ^ 32 ≡ z % 2 ^ 32 → z + f ≡ v →
    x % 2 ^ 32 ≡ v % 2 ^ 32
carried_on x y z f v e g h = omega arith

added-up : (a b c d e f g n v : ℕ) → f ≡ a + d → g ≡ b + e → v ≡ n + f + g + c → n + (a + b + c + d + e) ≡ v
added-up a b c d e f g n v h k l = omega arith

module _ (w h r base second third' m : ℕ) (pixels : List ℕ) (is2 : second ≡ (w + 2) / 3)
    (is3 : third' ≡ (2 * w + 2) / 3) (ism : m ≡ w - third') (wide : 3 ≤ w)
    (there : r * w + w ≤ length pixels) where
  abbrev tile : ℕ
  tile = 3 * third h r

  abbrev first : List ℕ
  first = run pixels (r * w) second

  abbrev middle : List ℕ
  middle = run pixels (r * w + second) (third' - second)

  abbrev last : List ℕ
  last = run pixels (r * w + third') m

  row_is : (p : List ℕ) → p ++ run pixels (r * w) w ≡ ((p ++ first) ++ middle) ++ last
  row_is p =
      let e : w ≡ second + ((third' - second) + m) = omega arith in
      let f : r * w + second + (third' - second) ≡ r * w + third' = omega arith in
      let x : run pixels (r * w) w ≡ first ++ (middle ++ last) =
      ap (run pixels (r * w)) e
      ∙ run-split pixels (r * w) second ((third' - second) + m)
      ∙ ap (λ (z : List ℕ). first ++ z)
      (run-split pixels (r * w + second) (third' - second) m ∙ ap (λ (z : ℕ). middle ++ run pixels z m) f)
      in
      ap (λ (z : List ℕ). p ++ z) x
      ∙ sym (append_assoc (p ++ first) middle last ∙ append_assoc p first (middle ++ last))

  -- what the row gives to bin b of tile t
  row_gives : (t b : ℕ) (p : List ℕ) → length p ≡ r * w →
      bin_tally w h t b (p ++ run pixels (r * w) w)
      ≡ bin_tally w h t b p + in_tile tile first t b + in_tile (tile + 1) middle t b + in_tile (tile + 2) last t b
  row_gives t b p l =
      let lf = run_length pixels (r * w) second (omega arith) in
      let lm = run_length pixels (r * w + second) (third' - second) (omega arith) in
      let lp = length-append p first in
      let lq = length-append (p ++ first) middle in
      let z : r * w + 0 ≡ r * w = omega arith in
      let z0 : tile + 0 ≡ tile = omega arith in
      let x = rw (z, z0) at (in-columns w h r 0 0 second t b p pixels (omega arith) (omega arith) (omega arith)
      (omega (arith, zero-mul w)) (omega (arith, zero-mul w))) in
      let y = in-columns w h r 1 second (third' - second) t b (p ++ first) pixels (omega arith) (omega arith)
      (omega arith) (omega (arith, one-mul w)) (omega (arith, one-mul w)) in
      let v = in-columns w h r 2 third' m t b ((p ++ first) ++ middle) pixels (omega arith) (omega arith)
      (omega arith)
      (omega arith) (omega arith) in
      rw (row_is p) (omega (arith, x, y, v))

  -- the three tile columns as far as all go, and the rest of the first two
  pub row-counted : {a b c d : List ℕ} →
      Three base tile (run pixels (r * w) m) (run pixels (r * w + second) m) last a b →
      Grown base (in_tile tile (run pixels (r * w + m) (second - m))) b c →
      Grown base (in_tile (tile + 1) (run pixels (r * w + second + m) (third' - second - m))) c d →
      CountedRow w h r base pixels a d
  row-counted {a} {b} {c} {d} f g k =
      record {
        kept = kept_more (kept_more f.kept g.kept) k.kept;
        more = λ p l s.
            record {
              size = k.kept.size ∙ g.kept.size ∙ f.kept.size ∙ s.size;
              each = λ t u ht hu.
                  let all = (grown-more (grown-more f g) k).each s.size t u ht hu in
                  let e : second ≡ m + (second - m) = omega arith in
                  let e2 : third' - second ≡ m + (third' - second - m) = omega arith in
                  let x : in_tile tile first t u
                  ≡ in_tile tile (run pixels (r * w) m) t u + in_tile tile (run pixels (r * w + m) (second - m)) t u =
                  ap (λ (n : ℕ). in_tile tile (run pixels (r * w) n) t u) e
                  ∙ ap (λ (y : List ℕ). in_tile tile y t u) (run-split pixels (r * w) m (second - m))
                  ∙ in-append tile t u (run pixels (r * w) m) (run pixels (r * w + m) (second - m)) in
                  let y : in_tile (tile + 1) middle t u ≡ in_tile (tile + 1) (run pixels (r * w + second) m) t u
                  + in_tile (tile + 1) (run pixels (r * w + second + m) (third' - second - m)) t u =
                  ap (λ (n : ℕ). in_tile (tile + 1) (run pixels (r * w + second) n) t u) e2
                  ∙ ap (λ (y : List ℕ). in_tile (tile + 1) y t u)
                  (run-split pixels (r * w + second) m (third' - second - m)) ∙ in-append (tile + 1) t u
                  (run pixels (r * w + second) m) (run pixels (r * w + second + m) (third' - second - m)) in
                  let sum = row_gives t u p l in
                  carried_on _ _ (bin_tally w h t u p) _ _ all (s.each t u ht hu) (added-up
                  (in_tile tile (run pixels (r * w) m) t u) (in_tile (tile + 1) (run pixels (r * w + second) m) t u)
                  (in_tile (tile + 2) last t u) (in_tile tile (run pixels (r * w + m) (second - m)) t u)
                  (in_tile (tile + 1) (run pixels (r * w + second + m) (third' - second - m)) t u)
                  (in_tile tile first t u) (in_tile (tile + 1) middle t u) (bin_tally w h t u p) _ x y sum);
            };
      }

  -- the same of the row's parts
  pub parts-counted : {row start others mid end a b c d : List ℕ} → row ≡ run pixels (r * w) w →
      start ≡ take second row → others ≡ drop second row → mid ≡ take (third' - second) others →
      end ≡ drop (third' - second) others → Three base tile (take m start) (take m mid) end a b →
      Grown base (in_tile tile (take (length start - m) (drop m start))) b c →
      Grown base (in_tile (tile + 1) (take (length mid - m) (drop m mid))) c d → CountedRow w h r base pixels a d
  parts-counted {row} {start} {others} {mid} {end} er es eo em ee f g k =
      let s : start ≡ first =
      es ∙ ap (λ (x : List ℕ). take second x) er ∙ take-run pixels (r * w) w second (omega arith) in
      let o : others ≡ run pixels (r * w + second) (w - second) =
      eo ∙ ap (λ (x : List ℕ). drop second x) er ∙ drop-run pixels (r * w) w second (omega arith) in
      let mi : mid ≡ middle =
      em ∙ ap (λ (x : List ℕ). take (third' - second) x) o
      ∙ take-run pixels (r * w + second) (w - second) (third' - second) (omega arith) in
      let at : r * w + second + (third' - second) ≡ r * w + third' = omega arith in
      let left : w - second - (third' - second) ≡ m = omega arith in
      let l : end ≡ last =
      ee ∙ ap (λ (x : List ℕ). drop (third' - second) x) o
      ∙ drop-run pixels (r * w + second) (w - second) (third' - second) (omega arith)
      ∙ ap (λ (x : ℕ). run pixels x (w - second - (third' - second))) at ∙ ap (run pixels (r * w + third')) left in
      let s1 : take m start ≡ run pixels (r * w) m =
      ap (λ (x : List ℕ). take m x) s ∙ take-run pixels (r * w) second m (omega arith) in
      let s2 : take m mid ≡ run pixels (r * w + second) m =
      ap (λ (x : List ℕ). take m x) mi ∙ take-run pixels (r * w + second) (third' - second) m (omega arith) in
      let s3 : drop m start ≡ run pixels (r * w + m) (second - m) =
      ap (λ (x : List ℕ). drop m x) s ∙ drop-run pixels (r * w) second m (omega arith) in
      let s4 : drop m mid ≡ run pixels (r * w + second + m) (third' - second - m) =
      ap (λ (x : List ℕ). drop m x) mi ∙ drop-run pixels (r * w + second) (third' - second) m (omega arith) in
      row-counted (rw (s1, s2, l) at f) (rw (take_rest start m, s3) at g) (rw (take_rest mid m, s4) at k)

-- ---- clearing

-- the 144 were set to 0
pub zeros-all : (base k : ℕ) (a zs : List ℕ) → base + 144 ≤ length a → k ≡ 144 → length zs ≡ 144 →
    ((i : ℕ) → i < 144 → get_or zs i 0 ≡ 0) → Cleared base a (put_mid base k a zs)
unfolding tally
zeros-all base k a zs h few l z =
    let size : length (put_mid base k a zs) ≡ length a = search (rules, places) in
    record {
      kept = record {
        size = size;
        low = λ i y. search (rules, places);
        high = λ i y. search (rules, places);
      };
      none = λ e v w.
          record {
            size = size ∙ e;
            each = λ t b ht hb.
                let at : get_or (put_mid base k a zs) (base + (16 * t + b)) 0 ≡ get_or zs (16 * t + b) 0 =
                search (rules, places) in
                rw (at, z (16 * t + b) (omega arith)) refl;
          };
    }
