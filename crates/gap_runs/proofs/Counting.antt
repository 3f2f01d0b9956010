-- Runs counted: one gap more, how many there are, and that their entry_count share them out.
use Prim.Native.Nat.{ℕ, zero, suc, ◌+◌, ◌-◌, ◌*◌, ◌%◌, ◌^◌, ◌≤◌, ◌<◌}
use native.Mathlib.Omega.{arith}
use native.Mathlib.Nat.{suc-mul, zero-mul, pow-succ', pow-le-pow_right, lt_of_le_of_lt, zero-lt-suc}
use mathlib.Core.Path.{◌≡◌, refl, sym, ap, ◌∙◌}
use mathlib.Core.List.{List, [], ◌∷◌, map}
use mathlib.Core.Bool.{Bool, true, false, ◌&&◌}
use lib.ListN.{length, length-append, length-map}
use lib.Dec.{leb, ltb, eqb, lit≤, lit<}
use borrow.Author.Tests.{eqb-true, eqb-false, eq-eqb, ne_eqb, leb-true, leb-false}
use Rattle.rules.specs.Bytes.{pick, total, count, table, end_to_end, All, empty, and}
use Rattle.rules.proofs.Laws.Lists.{count-append, count-few, all_append}
use Rattle.rules.specs.Units.{gap_loss}
use Rattle.rules.specs.GapRuns.{gap_lost, lost_in, gaps, runs, runs_losing, entry_count, gap_table, Total, NoFurther}
use Rattle.rules.specs.GapRuns.{Narrow, AsCounted, Run, OnlyRuns, EachOnce}
use Rattle.rules.specs.Changes.{same}

-- ---- counts

module _ {A B : Type 0} where
  count_map : (test : B → Bool) (f : A → B) (xs : List A) → count test (map f xs) ≡ count (λ x. test (f x)) xs
  unfolding count
  count_map test f [] = refl
  count_map test f (x ∷ xs) = ap (λ (k : ℕ). pick (test (f x)) 1 0 + k) (count_map test f xs)

module _ {A : Type 0} where
  count_same : (s t : A → Bool) (xs : List A) → ((x : A) → s x ≡ t x) → count s xs ≡ count t xs
  unfolding count
  count_same s t [] e = refl
  count_same s t (x ∷ xs) e = rw (e x, count_same s t xs e)

  count_none : (s : A → Bool) (xs : List A) → ((x : A) → s x ≡ false) → count s xs ≡ 0
  unfolding count
  count_none s [] e = refl
  count_none s (x ∷ xs) e = rw (e x, count_none s xs e)

-- ---- one gap more

-- each of some gaps before each of some runs
abbrev each : List ℕ → List (List ℕ) → List (List ℕ)
each gs rs = end_to_end (map (λ g. map (λ run. g ∷ run) rs) gs)

count-each : (test : List ℕ → Bool) (rs : List (List ℕ)) (gs : List ℕ) →
    count test (each gs rs) ≡ total (map (λ g. count (λ run. test (g ∷ run)) rs) gs)
unfolding end_to_end count total
count-each test rs [] = refl
count-each test rs (g ∷ gs) =
    count-append test (map (λ run. g ∷ run) rs) (each gs rs)
    ∙ rw (count_map test (λ (run : List ℕ). g ∷ run) rs, count-each test rs gs)

-- a + x is l exactly if x is what a leaves of l
left_over : (a x l : ℕ) → a ≤ l → eqb (a + x) l ≡ eqb x (l - a)
left_over a x l h = go (eqb x (l - a)) refl
  where
    go : (b : Bool) → eqb x (l - a) ≡ b → eqb (a + x) l ≡ b
    go true e = let z : x ≡ l - a = eqb-true x (l - a) e in eq-eqb (a + x) l (omega arith)
    go false e = ne_eqb (a + x) l (λ z. eqb-false x (l - a) e (omega arith))

-- the runs that lose l with a gap that loses a before them
losing : (a l : ℕ) (rs : List (List ℕ)) →
    count (λ run. eqb (a + lost_in run) l) rs ≡ pick (leb a l) (count (λ run. eqb (lost_in run) (l - a)) rs) 0
losing a l rs = go (leb a l) refl
  where
    go : (b : Bool) → leb a l ≡ b →
        count (λ run. eqb (a + lost_in run) l) rs ≡ pick b (count (λ run. eqb (lost_in run) (l - a)) rs) 0
    go true e = count_same (λ run. eqb (a + lost_in run) l) (λ run. eqb (lost_in run) (l - a)) rs
        (λ run. left_over a (lost_in run) l (leb-true a l e))
    go false e =
        let far : l < a = leb-false a l e in
        count_none (λ run. eqb (a + lost_in run) l) rs (λ run. ne_eqb (a + lost_in run) l (λ z. omega arith))

pub total-same : (f h : ℕ → ℕ) (gs : List ℕ) → ((g : ℕ) → f g ≡ h g) → total (map f gs) ≡ total (map h gs)
unfolding total
total-same f h [] e = refl
total-same f h (g ∷ gs) e = rw (e g, total-same f h gs e)

-- the recurrence: over the gaps, the runs that lose what the gap leaves of l
pub more-runs : (n l : ℕ) → runs_losing (suc n) l
    ≡ total (map (λ g. pick (leb (gap_lost g) l) (runs_losing n (l - gap_lost g)) 0) gaps)
unfolding runs_losing runs lost_in total
more-runs n l =
    count-each (λ run. eqb (lost_in run) l) (runs n) gaps
    ∙ total-same (λ g. count (λ run. eqb (gap_lost g + lost_in run) l) (runs n))
    (λ g. pick (leb (gap_lost g) l) (runs_losing n (l - gap_lost g)) 0) gaps
    (λ g. losing (gap_lost g) l (runs n))

-- ---- how many runs there are, and what they lose at most

length-each : (gs : List ℕ) (rs : List (List ℕ)) → length (each gs rs) ≡ length gs * length rs
unfolding end_to_end
length-each [] rs = sym (zero-mul (length rs))
length-each (g ∷ gs) rs =
    length-append (map (λ run. g ∷ run) rs) (each gs rs)
    ∙ omega (arith, length-map rs (λ (run : List ℕ). g ∷ run), length-each gs rs, suc-mul (length gs) (length rs))

pub length_runs : (n : ℕ) → length (runs n) ≡ 16 ^ n
unfolding runs gaps table
length_runs zero = refl
length_runs (suc n) = length-each gaps (runs n) ∙ ap (λ (k : ℕ). 16 * k) (length_runs n) ∙ sym (pow-succ' 16 n)

pub lost-is : (g : ℕ) → g < 16 → gap_lost g ≡ pick (ltb 1 g) (g - 1) 0
unfolding gap_lost gap_loss
lost-is g h = let itself : (g + 16 - 0) % 16 ≡ g = omega arith in rw itself

gap-few : (g : ℕ) → gap_lost g ≤ 14
unfolding gap_lost gap_loss
gap-few g = go (ltb 1 ((g + 16 - 0) % 16)) ((g + 16 - 0) % 16) (omega arith)
  where
    go : (b : Bool) (x : ℕ) → x < 16 → pick b (x - 1) 0 ≤ 14
    go true x h = omega arith
    go false x h = omega arith

gaps-few : (n from : ℕ) → from + n ≤ 16 → All (λ (g : ℕ). gap_lost g ≤ 14) (table n from (λ g. g))
unfolding table
gaps-few zero from h = empty
gaps-few (suc n) from h = and (gap-few from) (gaps-few n (suc from) (omega arith))

few-before : (g b : ℕ) → gap_lost g ≤ 14 → {rs : List (List ℕ)} → All (λ (run : List ℕ). lost_in run ≤ b) rs →
    All (λ (run : List ℕ). lost_in run ≤ 14 + b) (map (λ run. g ∷ run) rs)
unfolding lost_in total
few-before g b h empty = empty
few-before g b h (and {x = run} r rs) = and {x = g ∷ run} (omega arith) (few-before g b h rs)

few-each : (b : ℕ) {gs : List ℕ} → All (λ (g : ℕ). gap_lost g ≤ 14) gs → {rs : List (List ℕ)} →
    All (λ (run : List ℕ). lost_in run ≤ b) rs →
    All (λ (run : List ℕ). lost_in run ≤ 14 + b) (each gs rs)
unfolding end_to_end
few-each b empty rs = empty
few-each b (and {x = g} h gs) rs = all_append (few-before g b h rs) (few-each b gs rs)

few-runs : (n : ℕ) → All (λ (run : List ℕ). lost_in run ≤ 14 * n) (runs n)
unfolding runs lost_in total gaps
few-runs zero = and {x = []} (omega arith) empty
few-runs (suc n) =
    let next : 14 * suc n ≡ 14 + 14 * n = omega arith in
    rw next (few-each (14 * n) (gaps-few 16 0 (lit≤ tt)) (few-runs n))

-- ---- entry_count share out the runs

total-add : (m from : ℕ) (f h : ℕ → ℕ) →
    total (table m from (λ l. f l + h l)) ≡ total (table m from f) + total (table m from h)
unfolding total table
total-add zero from f h = refl
total-add (suc m) from f h = omega (arith, total-add m (suc from) f h)

total-zero : (m from : ℕ) → total (table m from (λ l. 0)) ≡ 0
unfolding total table
total-zero zero from = refl
total-zero (suc m) from = omega (arith, total-zero m (suc from))

-- x is one of the numbers from `from` on, and once
passed : (x m from : ℕ) → x < from → total (table m from (λ l. pick (eqb x l) 1 0)) ≡ 0
unfolding total table
passed x zero from h = refl
passed x (suc m) from h = rw (ne_eqb x from (λ e. omega arith), passed x m (suc from) (omega arith))

once : (x m from : ℕ) → from ≤ x → x < from + m → total (table m from (λ l. pick (eqb x l) 1 0)) ≡ 1
unfolding total table
once x zero from h k = absurd (omega arith)
once x (suc m) from h k = go (eqb x from) refl (λ p. once x m (suc from) p (omega arith))
  where
    go : (b : Bool) → eqb x from ≡ b → (suc from ≤ x → total (table m (suc from) (λ l. pick (eqb x l) 1 0)) ≡ 1) →
        pick (eqb x from) 1 0 + total (table m (suc from) (λ l. pick (eqb x l) 1 0)) ≡ 1
    go true e r = rw (e, passed x m (suc from) (omega (arith, eqb-true x from e)))
    go false e r =
        let apart : x ≡ from → ⊥ = eqb-false x from e in
        rw (e, r (omega arith))

shared : (m : ℕ) {rs : List (List ℕ)} → All (λ (run : List ℕ). lost_in run < m) rs →
    total (table m 0 (λ l. count (λ run. eqb (lost_in run) l) rs)) ≡ length rs
unfolding count
shared m empty = total-zero m 0
shared m (and {x = r} {xs = rs} h hs) =
    total-add m 0 (λ l. pick (eqb (lost_in r) l) 1 0) (λ l. count (λ run. eqb (lost_in run) l) rs)
    ∙ omega (arith, once (lost_in r) m 0 (omega arith) (omega arith), shared m hs)

all-below : (b : ℕ) {rs : List (List ℕ)} → All (λ (run : List ℕ). lost_in run ≤ b) rs →
    All (λ (run : List ℕ). lost_in run < b + 1) rs
all-below b empty = empty
all-below b (and {x = run} h hs) = and {x = run} (omega arith) (all-below b hs)

-- ---- the laws

pub all_runs : Total
unfolding gap_table runs_losing
all_runs n = shared (entry_count n) (all-below (14 * n) (few-runs n)) ∙ length_runs n

pub few : (n l : ℕ) → runs_losing n l ≤ 16 ^ n
unfolding runs_losing
few n l = omega (arith, count-few (λ run. eqb (lost_in run) l) (runs n), length_runs n)

pub narrow : Narrow
narrow n l h = lt_of_le_of_lt (few n l)
    (lt_of_le_of_lt (pow-le-pow_right {n = 16} (zero-lt-suc 15) {i = n} {j = 15} (omega arith)) (lit< tt))

none-further : (l b : ℕ) → b < l → {rs : List (List ℕ)} → All (λ (run : List ℕ). lost_in run ≤ b) rs →
    count (λ run. eqb (lost_in run) l) rs ≡ 0
unfolding count
none-further l b h empty = refl
none-further l b h (and {x = r} p hs) = rw (ne_eqb (lost_in r) l (λ e. omega arith), none-further l b h hs)

pub no-further : NoFurther
unfolding runs_losing
no-further n l h = none-further l (14 * n) h (few-runs n)

pub as-counted : AsCounted
unfolding gap_loss gap_lost
as-counted before now =
    let itself : ((now + 16 - before) % 16 + 16 - 0) % 16 ≡ (now + 16 - before) % 16 = omega arith in
    rw itself

-- ---- the runs listed

below : (n from : ℕ) → from + n ≤ 16 → All (λ (g : ℕ). g < 16) (table n from (λ g. g))
unfolding table
below zero from h = empty
below (suc n) from h = and {x = from} (omega arith) (below n (suc from) (omega arith))

runs-before : (n g : ℕ) → g < 16 → {rs : List (List ℕ)} → All (Run n) rs → All (Run (suc n)) (map (λ run. g ∷ run) rs)
runs-before n g h empty = empty
runs-before n g h (and r rs) = and (record { long = ap suc r.long; gaps = and h r.gaps }) (runs-before n g h rs)

runs-each : (n : ℕ) {gs : List ℕ} → All (λ (g : ℕ). g < 16) gs → {rs : List (List ℕ)} → All (Run n) rs →
    All (Run (suc n)) (each gs rs)
unfolding end_to_end
runs-each n empty rs = empty
runs-each n (and {x = g} h gs) rs = all_append (runs-before n g h rs) (runs-each n gs rs)

pub only-runs : OnlyRuns
unfolding runs gaps
only-runs zero = and (record { long = refl; gaps = empty }) empty
only-runs (suc n) = runs-each n (below 16 0 (lit≤ tt)) (only-runs n)

-- a gap before a run of rs, of which xs is one
once-before : (b : Bool) (xs : List ℕ) (rs : List (List ℕ)) → count (same xs) rs ≡ 1 →
    count (λ run. b && same xs run) rs ≡ pick b 1 0
once-before true xs rs e = e
once-before false xs rs e = count_none (λ run. false) rs (λ run. refl)

pub gaps-table : (f : ℕ → ℕ) → map f gaps ≡ table 16 0 f
unfolding gaps table
gaps-table f = refl

first-gap : {x : ℕ} {xs : List ℕ} → All (λ (g : ℕ). g < 16) (x ∷ xs) → (x < 16) × All (λ (g : ℕ). g < 16) xs
first-gap (and h hs) = (h, hs)

pub each-once : EachOnce
unfolding runs count same
each-once zero [] r = refl
each-once zero (x ∷ xs) r = absurd (omega (arith, r.long))
each-once (suc n) [] r = absurd (omega (arith, r.long))
each-once (suc n) (x ∷ xs) r =
    let h = first-gap r.gaps in
    let rest = each-once n xs (record { long = omega (arith, r.long); gaps = h.1 }) in
    count-each (same (x ∷ xs)) (runs n) gaps
    ∙ total-same (λ g. count (λ run. same (x ∷ xs) (g ∷ run)) (runs n)) (λ g. pick (eqb x g) 1 0) gaps
    (λ g. once-before (eqb x g) xs (runs n) rest)
    ∙ ap total (gaps-table (λ g. pick (eqb x g) 1 0))
    ∙ once x 16 0 (omega arith) (omega (arith, h.0))
