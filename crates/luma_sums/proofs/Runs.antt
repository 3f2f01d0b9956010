-- Runs of a row: what a part of a run that lies in one block column adds. No code.
use Rattle.std.proofs.Common.{take}
use Rattle.std.proofs.Common.{◌≡◌, ℕ, ◌+◌, ◌-◌, ◌*◌, ◌/◌, ◌%◌, ◌^◌, ◌<◌, ◌≤◌, Bool, true, false, eqb, List, [], ◌++◌}
use Rattle.std.proofs.Common.{length, get_or, drop, set, sym, refl, ap, ◌∙◌, add-zero, mul-le-mul_right, add-mul}
use Rattle.std.proofs.Common.{le-div_iff_mul-le, zero-mul, arith, length-drop, length-set, length-take-le}
use Rattle.std.proofs.Common.{◌∷◌, zero, suc, get_or-set_other, get_or-set_same, drop-drop, take-add, eq-eqb, ne_eqb}
use Rattle.std.proofs.Common.{eqb-true}
use Rattle.std.proofs.Common.{sum_by}
use Rattle.std.proofs.lemmas.List.Sums.{sum_by-cons}
use Rattle.std.proofs.lemmas.List.{take-append-drop}
use native.Mathlib.Nat.{div-eq_of_lt-le}
use borrow.Author.Tests.{eqb-false}
use Rattle.rules.specs.Bytes.{total, tally}
use Rattle.luma_laws.proofs.Tally.{tally-append, tally-all, tally-none}
use Rattle.luma_sums.specs.Sums.{run, in_column, given, Added, AddedAll, Part, Blocks}

pub run_length : (s : List ℕ) (at m : ℕ) → at + m ≤ length s → length (run s at m) ≡ m
run_length s at m h = length-take-le m (drop at s) (simp length-drop (omega arith))

pub run-split : (s : List ℕ) (at i t : ℕ) → run s at (i + t) ≡ run s at i ++ run s (at + i) t
run-split s at i t = rw (take-add i t (drop at s), drop-drop i at s) refl

-- the column q lies in the block column c
pub column : (n c q : ℕ) → c * n ≤ q → q < c * n + n → q / n ≡ c
column n c q a b = div-eq_of_lt-le n a (omega (arith, add-mul c 1 n))

-- a run within the block column c gives all to it
pub own : (n c q : ℕ) (t : List ℕ) → c * n ≤ q → q + length t ≤ c * n + n → tally (in_column n c) q t ≡ total t
own n c q t a h =
    tally-all (in_column n c) q t (λ j b k. rw (column n c (q + j) (omega arith) (omega arith), eq-eqb c c refl))

-- and nothing to another
pub others : (n c d q : ℕ) (t : List ℕ) → c * n ≤ q → q + length t ≤ c * n + n → (c ≡ d → ⊥) →
    tally (in_column n d) q t ≡ 0
others n c d q t a h e =
    tally-none (in_column n d) q t (λ j b k. rw (column n c (q + j) (omega arith) (omega arith), ne_eqb c d e))

-- a run from the block column c on gives nothing to those before
pub past : (n c d q : ℕ) (t : List ℕ) → 0 < n → c * n ≤ q → d < c → tally (in_column n d) q t ≡ 0
past n c d q t p a h =
    tally-none (in_column n d) q t
    (λ j b k.
    let above : c ≤ (q + j) / n = (le-div_iff_mul-le p).1 (omega arith) in
    rw (ne_eqb ((q + j) / n) d (λ e. omega arith)))

pub added_none : (n w x : ℕ) (b : List ℕ) → Added n w x [] b b
unfolding tally
added_none n w x b = record { size = refl; grown = λ e c h. rw (add-zero (get_or b c 0)) refl; other = λ c h. refl }

-- two runs, one after the other
added-append : {n w x : ℕ} {p t b a z : List ℕ} → Added n w x p b a → Added n w (x + length p) t a z →
    Added n w x (p ++ t) b z
added-append {n} {w} {x} {p} {t} {b} {a} {z} f g =
    record {
      size = g.size ∙ f.size;
      grown = λ e d h. omega (arith, tally-append (in_column n d) x p t, f.grown e d h, g.grown (f.size ∙ e) d h);
      other = λ d h. g.other d h ∙ f.other d h;
    }

-- a run past the last block column
pub added-past : (n w q c : ℕ) (t a : List ℕ) → 0 < n → c * n ≤ q → w ≤ c → Added n w q t a a
added-past n w q c t a p lo h =
    record { size = refl; grown = λ e d y. omega (arith, past n c d q t p lo (omega arith)); other = λ d y. refl }

-- a run within the block column c
added-one : (n w q c v : ℕ) (t a : List ℕ) → c < w → w ≤ 240 → c * n ≤ q → q + length t ≤ c * n + n →
    v ≡ (get_or a c 0 + total t) % 2 ^ 32 →
    Added n w q t a (set a c v)
added-one n w q c v t a h k lo hi e =
    record {
      size = length-set a c v;
      grown = λ z d y. grows z d (eqb c d) refl;
      other = λ d y. get_or-set_other a c d v 0 (λ m. omega arith);
    }
  where
    grows : length a ≡ 240 → (d : ℕ) (r : Bool) → eqb c d ≡ r →
        get_or (set a c v) d 0 % 2 ^ 32 ≡ (get_or a d 0 + tally (in_column n d) q t) % 2 ^ 32
    grows z d true y =
        rw (← eqb-true c d y, get_or-set_same a c v 0 (omega arith), own n c q t lo hi) (omega arith)
    grows z d false y =
        rw (
          get_or-set_other a c d v 0 (λ m. eqb-false c d y (sym m)),
          others n c d q t lo hi (eqb-false c d y),
          add-zero (get_or a d 0),
        ) refl

-- bytes within block column c
pub part_in : {w c v : ℕ} (t : List ℕ) {a : List ℕ} → c < w → w ≤ 240 → v ≡ (get_or a c 0 + total t) % 2 ^ 32 →
    Part w c t a (set a c v)
part_in {w} {c} {v} t {a} h k e n q p lo hi = added-one n w q c v t a h k lo (hi h) e

-- one block of k, the one after the first j
pub inside : {j k : ℕ} (n : ℕ) → j < k → j * n + n ≤ k * n
inside {j} {k} n h =
    let up : j + 1 ≤ k = omega arith in
    omega (arith, add-mul j 1 n, mul-le-mul_right n up)

none-given : (n x : ℕ) (s : List ℕ) (d : ℕ) (places : List ℕ) → given n x 0 s d places ≡ 0
unfolding tally
none-given n x s d [] = refl
none-given n x s d (at ∷ more) =
    omega (arith, sum_by-cons (λ z. tally (in_column n d) x (run s z 0)) at more, none-given n x s d more)

pub blocks-none : (n c : ℕ) (s places a : List ℕ) → Blocks n c 0 s places a a
unfolding tally
blocks-none n c s places a w h k =
    rw (zero-mul n)
    (record {
      size = refl;
      grown = λ e d y. omega (arith, none-given n (c * n) s d places);
      other = λ d y. refl;
    })

-- what the blocks of n bytes, of s from `off` on after each place, sum to
abbrev pub totals : (s : List ℕ) (off n : ℕ) → List ℕ → ℕ
totals s off n places = sum_by (λ at. total (run s (at + off) n)) places

-- m bytes are there from each place on
abbrev pub There : List ℕ → ℕ → List ℕ → Type 0
There places m s = (r : ℕ) → r < length places → get_or places r 0 + m ≤ length s

-- a block more of each row goes to its block column
given-own : (n c j : ℕ) (s places : List ℕ) → There places (j * n + n) s →
    given n (c * n) (j * n + n) s (c + j) places
    ≡ given n (c * n) (j * n) s (c + j) places + totals s (j * n) n places
given-own n c j s [] l = refl
given-own n c j s (at ∷ more) l =
    let f = in_column n (c + j) in
    let t = run s (at + j * n) n in
    let one : at + (j * n + n) ≤ length s = l 0 (omega arith) in
    let size : length (run s at (j * n)) ≡ j * n = run_length s at (j * n) (omega arith) in
    let long : length t ≡ n = run_length s (at + j * n) n (omega arith) in
    let edge : (c + j) * n ≡ c * n + j * n = add-mul c j n in
    let split : tally f (c * n) (run s at (j * n + n)) ≡ tally f (c * n) (run s at (j * n)) + total t =
    rw (run-split s at (j * n) n, tally-append f (c * n) (run s at (j * n)) t, size)
    (ap (λ x. tally f (c * n) (run s at (j * n)) + x)
    (own n (c + j) (c * n + j * n) t (omega arith) (omega arith))) in
    omega (
      arith,
      split,
      sum_by-cons (λ z. tally f (c * n) (run s z (j * n + n))) at more,
      sum_by-cons (λ z. tally f (c * n) (run s z (j * n))) at more,
      sum_by-cons (λ z. total (run s (z + j * n) n)) at more,
      given-own n c j s more (λ r h. l (suc r) (omega arith)),
    )

given-others : (n c j d : ℕ) (s places : List ℕ) → There places (j * n + n) s →
    (c + j ≡ d → ⊥) → given n (c * n) (j * n + n) s d places ≡ given n (c * n) (j * n) s d places
given-others n c j d s [] l e = refl
given-others n c j d s (at ∷ more) l e =
    let f = in_column n d in
    let t = run s (at + j * n) n in
    let one : at + (j * n + n) ≤ length s = l 0 (omega arith) in
    let size : length (run s at (j * n)) ≡ j * n = run_length s at (j * n) (omega arith) in
    let long : length t ≡ n = run_length s (at + j * n) n (omega arith) in
    let edge : (c + j) * n ≡ c * n + j * n = add-mul c j n in
    let split : tally f (c * n) (run s at (j * n + n)) ≡ tally f (c * n) (run s at (j * n)) =
    rw (run-split s at (j * n) n, tally-append f (c * n) (run s at (j * n)) t, size)
    (rw (others n (c + j) d (c * n + j * n) t (omega arith) (omega arith) e) (omega arith)) in
    omega (
      arith,
      split,
      sum_by-cons (λ z. tally f (c * n) (run s z (j * n + n))) at more,
      sum_by-cons (λ z. tally f (c * n) (run s z (j * n))) at more,
      given-others n c j d s more (λ r h. l (suc r) (omega arith)) e,
    )

-- one block of each row more
pub blocks_more : (n c j v : ℕ) (s places : List ℕ) {b a : List ℕ} → Blocks n c j s places b a →
    There places (j * n + n) s →
    v % 2 ^ 32 ≡ (get_or a (c + j) 0 + totals s (j * n) n places) % 2 ^ 32 →
    Blocks n c (j + 1) s places b (set a (c + j) v)
blocks_more n c j v s places {b} {a} f l g w h k =
    let old = f w (omega arith) k in
    let up : (j + 1) * n ≡ j * n + n = omega (arith, add-mul j 1 n) in
    rw up
    (record {
      size = length-set a (c + j) v ∙ old.size;
      grown = λ q d y. grows old q d y (eqb (c + j) d) refl;
      other = λ d y. get_or-set_other a (c + j) d v 0 (λ m. omega arith) ∙ old.other d y;
    })
  where
    grows : AddedAll n w (c * n) (j * n) s places b a → length b ≡ 240 → (d : ℕ) → d < w → (r : Bool) →
        eqb (c + j) d ≡ r →
        get_or (set a (c + j) v) d 0 % 2 ^ 32 ≡ (get_or b d 0 + given n (c * n) (j * n + n) s d places) % 2 ^ 32
    grows old q d y true e =
        let same : c + j ≡ d = eqb-true (c + j) d e in
        rw (← same, get_or-set_same a (c + j) v 0 (omega (arith, old.size)))
        (omega (
          arith,
          g,
          old.grown q (c + j) (omega arith),
          given-own n c j s places l,
        ))
    grows old q d y false e =
        let not : c + j ≡ d → ⊥ = eqb-false (c + j) d e in
        rw (get_or-set_other a (c + j) d v 0 (λ m. not (sym m)), given-others n c j d s places l not)
        (old.grown q d y)

-- one row's place
pub one-inside : (at m : ℕ) (s : List ℕ) → at + m ≤ length s → (r : ℕ) → r < length (at ∷ []) →
    get_or (at ∷ []) r 0 + m ≤ length s
one-inside at m s h zero k = h
one-inside at m s h (suc r) k = absurd (omega arith)

-- one row's
pub one-row : {n w x m : ℕ} {s b a : List ℕ} (at : ℕ) → AddedAll n w x m s (at ∷ []) b a →
    Added n w x (run s at m) b a
one-row at f = record { size = f.size; grown = λ q d y. omega (arith, f.grown q d y); other = f.other }

-- a run from an edge on: whole blocks, what is left
pub from-edge : (n w c : ℕ) (s : List ℕ) (k : ℕ) {a b d : List ℕ} → 0 < n → w ≤ 240 → c + k ≤ w → k * n ≤ length s →
    (c + k < w → length s < k * n + n) →
    Blocks n c k s (0 ∷ []) a b → Part w (c + k) (drop (k * n) s) b d → Added n w (c * n) s a d
from-edge n w c s k {a} {b} {d} hn hw room fits last blocks rest =
    let end : (c + k) * n ≡ c * n + k * n = add-mul c k n in
    let size : length (take (k * n) s) ≡ k * n = length-take-le (k * n) s fits in
    let left : length (drop (k * n) s) ≡ length s - k * n = length-drop (k * n) s in
    let tail : Added n w (c * n + k * n) (drop (k * n) s) b d =
    rest n (c * n + k * n) hn (omega arith) (λ h. omega (arith, last h)) in
    let next : Added n w (c * n + length (take (k * n) s)) (drop (k * n) s) b d = rw size tail in
    rw (take-append-drop (k * n) s) at (added-append (one-row 0 (blocks w room hw)) next)

-- a run up to an edge, and the rest
pub to-edge : (n w x c : ℕ) (s : List ℕ) (head : ℕ) {a b d : List ℕ} → 0 < n → c * n ≤ x → x + head ≡ c * n + n →
    head ≤ length s → Part w c (take head s) a b → Added n w ((c + 1) * n) (drop head s) b d → Added n w x s a d
to-edge n w x c s head {a} {b} {d} hn lo edge fits first rest =
    let size : length (take head s) ≡ head = length-take-le head s fits in
    let start : x + head ≡ (c + 1) * n = omega (arith, add-mul c 1 n) in
    let before : Added n w x (take head s) a b = first n x hn lo (λ h. omega arith) in
    let after : Added n w (x + length (take head s)) (drop head s) b d = rw (size, start) rest in
    rw (take-append-drop head s) at (added-append before after)

-- all of a row gives to the first w block columns what their w × n bytes give
pub row_gives : (n w c W : ℕ) (s : List ℕ) (at : ℕ) → 0 < n → c < w → w * n ≤ W → at + W ≤ length s →
    tally (in_column n c) 0 (run s at W) ≡ tally (in_column n c) 0 (run s at (w * n))
row_gives n w c W s at some h k l =
    let rest = W - w * n in
    let e : W ≡ w * n + rest = omega arith in
    let long : length (run s at (w * n)) ≡ w * n = run_length s at (w * n) (omega arith) in
    let zero : 0 + w * n ≡ w * n = omega arith in
    let split : run s at W ≡ run s at (w * n) ++ run s (at + w * n) rest =
    ap (λ (m : ℕ). run s at m) e ∙ run-split s at (w * n) rest in
    rw split
    (omega (
      arith,
      rw (long, zero) at (tally-append (in_column n c) 0 (run s at (w * n)) (run s (at + w * n) rest)),
      past n w c (w * n) (run s (at + w * n) rest) some (omega arith) h,
    ))
