-- From the runs of a row to the block sums of a picture. No code.
use Prim.Native.Nat.{ℕ, zero, suc, ◌+◌, ◌*◌, ◌/◌, ◌%◌, ◌≤◌, ◌<◌}
use native.Mathlib.Omega.{arith}
use native.Mathlib.Nat.{add-mul, zero-mul, mod-eq_of_lt, mul-add-mod_self_right}
use mathlib.Core.Path.{◌≡◌, refl, ap, ◌∙◌}
use mathlib.Core.List.{List, [], ◌∷◌, ◌++◌, append-nil, append_assoc}
use lib.ListN.{length, take, get_or, length-append}
use lib.Seq.{take-add, length-take-le}
use borrow.Author.Tests.{eq-eqb}
use Rattle.luma_blocks.specs.declared.Spot.{Spot}
use Rattle.rules.specs.Bytes.{tally}
use Rattle.luma_laws.proofs.Tally.{tally-append, tally-shift}
use Rattle.luma_laws.specs.Tallies.{in_block}
use Rattle.luma_sums.specs.Sums.{run, in_column, Added, AddedAll}
use Rattle.luma_blocks.specs.Rows.{SumsOf, Advanced, TwoNext, Going}
use Rattle.luma_sums.proofs.Runs.{column, run_length, row_gives}

-- a run within row y of block row b gives to a block what it gives to its block column
pub bridge : (W n b y x c q : ℕ) (t : List ℕ) → y < n → x + length t ≤ W → q ≡ (b * n + y) * W + x →
    tally (in_block W n b c) q t ≡ tally (in_column n c) x t
bridge W n b y x c q t h k e =
    tally-shift (in_block W n b c) (in_column n c) q x t
    (λ j v l.
    let row : (q + j) / W ≡ b * n + y = column W (b * n + y) (q + j) (omega arith) (omega arith) in
    let here : q + j ≡ (b * n + y) * W + (x + j) = omega arith in
    let col : (q + j) % W ≡ x + j =
    ap (λ (z : ℕ). z % W) here ∙ mul-add-mod_self_right (b * n + y) W (x + j) ∙ mod-eq_of_lt (omega arith) in
    let block : (b * n + y) / n ≡ b = column n b (b * n + y) (omega arith) (omega arith) in
    rw (row, col, block, eq-eqb b b refl))

-- the law of a prefix that goes on by a run of a row
pub sums-more : {W n w b y x : ℕ} {p t a z : List ℕ} → y < n → x + length t ≤ W → length p ≡ (b * n + y) * W + x →
    Added n w x t a z →
    SumsOf W n w b p a → SumsOf W n w b (p ++ t) z
sums-more {W} {n} {w} {b} {y} {x} {p} {t} {a} {z} h k e f s =
    record {
      size = f.size ∙ s.size;
      each =
          λ c l. omega (
            arith,
            tally-append (in_block W n b c) 0 p t,
            bridge W n b y x c (0 + length p) t h k (omega arith),
            f.grown s.size c l,
            s.each c l,
          );
    }

pub going-none : (W n w row col : ℕ) (piece a : List ℕ) → row < n → col < W →
    Going W n w row col piece a (record { row = row; col = col; used = 0 }) a
going-none W n w row col piece a h k =
    record {
      used = omega arith;
      place = omega arith;
      left = k;
      below = omega arith;
      stops = λ e. omega arith;
      sums = λ b p e s. rw append-nil s;
    }

pub going_more : {W n w row col : ℕ} {piece before a z : List ℕ} {r q : Spot} (t : ℕ) →
    Going W n w row col piece before r a → r.row < n → r.col + t ≤ W →
    r.used + t ≤ length piece → Added n w r.col (run piece r.used t) a z → Advanced W r t q →
    Going W n w row col piece before q z
going_more {W} {n} {w} {row} {col} {piece} {before} {a} {z} {r} {q} t g h k l f m =
    record {
      used = omega arith;
      place = omega arith;
      left = m.left;
      below = omega arith;
      stops = λ e. m.next (omega arith);
      sums =
          λ b p e s.
          let first : length (take r.used piece) ≡ r.used = length-take-le r.used piece g.used in
          let size : length (run piece r.used t) ≡ t = run_length piece r.used t l in
          let here : length (p ++ take r.used piece) ≡ (b * n + r.row) * W + r.col =
          omega (arith, length-append p (take r.used piece), add-mul (b * n) row W, add-mul (b * n) r.row W) in
          rw (m.used, take-add r.used t piece, ← append_assoc p (take r.used piece) (run piece r.used t))
          (sums-more h (omega arith) here f (g.sums b p e s));
    }

-- both rows' places
pub two-inside : (x y m : ℕ) (s : List ℕ) → x + m ≤ length s → y + m ≤ length s → (r : ℕ) → r < length (x ∷ y ∷ []) →
    get_or (x ∷ y ∷ []) r 0 + m ≤ length s
two-inside x y m s h k zero l = h
two-inside x y m s h k (suc zero) l = k
two-inside x y m s h k (suc (suc r)) l = absurd (omega arith)

-- two whole rows
pub going-two : {W n w row col : ℕ} {piece before a z : List ℕ} {r : Spot} →
    Going W n w row col piece before r a → TwoNext W n w r (length piece) → 0 < W → 0 < n →
    AddedAll n w (0 * n) (w * n) piece (r.used ∷ (r.used + W) ∷ []) a z →
    Going W n w row col piece before (record { row = r.row + 2; col = 0; used = r.used + W + W }) z
going-two {W} {n} {w} {row} {col} {piece} {before} {a} {z} {r} g next wide some f =
    let there = next.there in
    let first-col = next.col in
    record {
      used = omega arith;
      place = omega (arith, g.place, add-mul r.row 2 W);
      left = wide;
      below = next.below;
      stops = λ e. refl;
      sums = λ b p e s.
          let t = run piece r.used W in
          let u = run piece (r.used + W) W in
          let q = p ++ take r.used piece in
          let taken : length (take r.used piece) ≡ r.used = length-take-le r.used piece g.used in
          let long : length t ≡ W = run_length piece r.used W (omega arith) in
          let long-2 : length u ≡ W = run_length piece (r.used + W) W (omega arith) in
          let size : length q ≡ (b * n + r.row) * W =
          omega (
            arith,
            length-append p (take r.used piece),
            g.place,
            add-mul (b * n) row W,
            add-mul (b * n) r.row W,
          ) in
          let two : take (r.used + W + W) piece ≡ (take r.used piece ++ t) ++ u =
          take-add (r.used + W) W piece ∙ ap (λ (x : List ℕ). x ++ u) (take-add r.used W piece) in
          let old = g.sums b p e s in
          let all : p ++ take (r.used + W + W) piece ≡ (q ++ t) ++ u =
          rw (two, append_assoc (take r.used piece) t u, append_assoc p (take r.used piece) t)
          (rw (append_assoc p (take r.used piece ++ t) u, append_assoc (take r.used piece) t u) refl) in
          rw all
          (record {
            size = f.size ∙ old.size;
            each = λ c l.
                omega (
                  arith,
                  tally-append (in_block W n b c) 0 (q ++ t) u,
                  tally-append (in_block W n b c) 0 q t,
                  length-append q t,
                  bridge W n b r.row 0 c (0 + length q) t (omega (arith, next.below)) (omega arith) (omega arith),
                  bridge W n b (r.row + 1) 0 c (0 + length (q ++ t)) u (omega (arith, next.below)) (omega arith)
                      (omega (
                        arith,
                        length-append q t,
                        add-mul (b * n + r.row) 1 W,
                        ap (λ (y : ℕ). y * W) (next_row (b * n) r.row),
                      )),
                  row_gives n w c W piece r.used some l next.wide (omega arith),
                  row_gives n w c W piece (r.used + W) some l next.wide (omega arith),
                  rw zero-mul at (f.grown old.size c l),
                  old.each c l,
                );
          });
    }
  where
    next_row : (x y : ℕ) → x + y + 1 ≡ x + (y + 1)
    next_row x y = omega arith
