-- What each loop has come to at picture k, one picture more, and the end.
use Prim.Native.Nat.{ℕ, ◌+◌, ◌-◌, ◌%◌, ◌^◌, ◌≤◌, ◌<◌, max}
use native.Mathlib.Omega.{arith}
use mathlib.Core.Path.{◌≡◌, sym, ap, ◌∙◌}
use mathlib.Core.List.{List}
use mathlib.Core.Bool.{Bool, true, false}
use mathlib.Core.List.{[], ◌∷◌, map}
use lib.ListN.{length, get_or, take, drop}
use Rattle.std.proofs.Common.{fold, refl}
use Rattle.std.specs.List.{sum_by}
use Rattle.std.proofs.lemmas.List.{ext_get_or, length-map, length-take-le, length-drop, get_or-map, get_or-take}
use Rattle.std.proofs.lemmas.List.{get_or-drop}
use Rattle.std.proofs.lemmas.List.Sums.{sum_by-cons}
use Rattle.rules.proofs.Laws.Lists.{larger-max}
use Rattle.rules.specs.declared.SceneRow.{SceneRow}
use Rattle.rules.specs.Bytes.{total, greatest_of, count}
use Rattle.rules.specs.Scenes.{span, is_true, longest_from, starts_scene, is_start, scene_of, scenes_of}
use Rattle.luma_scenes.specs.Words.{Column, Bits, Holds, bit_at}
use Rattle.luma_scenes.specs.Next.{next_start, scenes_from}
use Rattle.luma_scenes.specs.Contract.{NextPost, RowPost, CountPost, RepeatedPost}
use Rattle.luma_scenes.specs.Contract.{LongestPost}
use Rattle.luma_laws.proofs.Spans.{total-end, total-more, repeated-end, repeated-step}
use Rattle.luma_laws.proofs.Spans.{longest-end, longest-true, longest-false, longest-least, longest-most, peak-most}
use Rattle.luma_laws.proofs.Spans.{total-most}
use Rattle.luma_scenes.proofs.Held.{figure-is, bit-true, bit-false}
use Rattle.luma_scenes.proofs.Starts.{Sought, sought-first, sought-more, sought-found, sought-none, scenes-none}
use Rattle.luma_scenes.proofs.Starts.{scenes-next, scenes-first}

-- ---- the figures of pictures i to before j, read from the words

abbrev pub low : ℕ → ℕ
low x = x % 2 ^ 32

module _ {w : List ℕ} {base n most : ℕ} {xs : List ℕ} (i j : ℕ) (c : Column w base n most xs) (m : most < 2 ^ 32)
    (g : i ≤ j) (f : j ≤ n) (h : base + j ≤ length w) where
  abbrev ws : List ℕ
  ws = take (base + j - (base + i)) (drop (base + i) w)

  ws-long : length ws ≡ j - i
  ws-long = length-take-le (base + j - (base + i)) (drop (base + i) w) (omega (arith, length-drop (base + i) w))
      ∙ omega arith

  xs-long : length (span i j xs) ≡ j - i
  xs-long = length-take-le (j - i) (drop i xs) (omega (arith, length-drop i xs, c.size))

  each : (k : ℕ) → k < j - i → get_or (map low ws) k 0 ≡ get_or (span i j xs) k 0
  each k l =
      let z = ws-long in
      let e : base + i + k ≡ base + (i + k) = omega arith in
      get_or-map low ws k 0 0 (omega arith)
      ∙ ap low (get_or-take (base + j - (base + i)) (drop (base + i) w) k 0 (omega arith)
      ∙ get_or-drop (base + i) w k 0 ∙ ap (λ (q : ℕ). get_or w q 0) e)
      ∙ figure-is c m (i + k) (omega arith)
      ∙ sym (get_or-take (j - i) (drop i xs) k 0 (omega arith) ∙ get_or-drop i xs k 0)

  figures-are : map low ws ≡ span i j xs
  figures-are =
      let long : length (map low ws) ≡ j - i = length-map ws low ∙ ws-long in
      ext_get_or 0 (map low ws) (span i j xs) (long ∙ sym xs-long) (λ k l. each k (omega arith))

total-low : (ws : List ℕ) → sum_by low ws ≡ total (map low ws)
unfolding total
total-low [] = refl
total-low (w ∷ ws) = sum_by-cons low w ws ∙ ap (λ (k : ℕ). low w + k) (total-low ws)

greatest-low : (most : ℕ) (ws : List ℕ) → fold (λ m x. max m (low x)) most ws ≡ max most (greatest_of (map low ws))
unfolding greatest_of
greatest-low most [] = omega arith
greatest-low most (w ∷ ws) =
    let e = greatest-low (max most (low w)) ws in
    let l = larger-max (low w) (greatest_of (map low ws)) in
    omega arith

module _ (w : List ℕ) (i j : ℕ) where
  -- ---- how many are repeated

  abbrev pub Counted : ℕ → ℕ → Type 0
  Counted found k = (n : ℕ) (rs : List Bool) → Bits w n rs → i ≤ j → j ≤ n →
      (k ≤ j) × (found + count is_true (span k j rs) ≡ count is_true (span i j rs))

  pub counted-more : (found k r : ℕ) → Counted found k → k < j → r ≡ bit_at w k → Counted (found + r) (k + 1)
  counted-more found k r s h e n rs c g f =
      let p = s n rs c g f in
      let z = c.size in
      let a = repeated-step k j rs h (omega arith) in
      let b = c.bit k (omega arith) in
      (omega arith, omega arith)

  pub counted-all : (found k : ℕ) → Counted found k → j ≤ k → (n : ℕ) (rs : List Bool) → Bits w n rs → i ≤ j → j ≤ n →
      found ≡ count is_true (span i j rs)
  counted-all found k s h n rs c g f =
      let p = s n rs c g f in
      let e : k ≡ j = omega arith in
      let z : count is_true (span k j rs) ≡ 0 = rw e (repeated-end j rs) in
      omega arith

  -- ---- the longest run: `run` repeated ones end just before picture k

  abbrev pub Longest : ℕ → ℕ → ℕ → Type 0
  Longest most run k = (n : ℕ) (rs : List Bool) → Bits w n rs → i ≤ j → j ≤ n →
      (k ≤ j) × (max most (longest_from run (span k j rs)) ≡ longest_from 0 (span i j rs))

  pub longest-on : (most run k next : ℕ) → Longest most run k → k < j → bit_at w k ≡ 1 → next ≡ max most (run + 1) →
      Longest next (run + 1) (k + 1)
  longest-on most run k next s h e l n rs c g f =
      let p = s n rs c g f in
      let z = c.size in
      let a = longest-true run k j rs h (omega arith) (bit-true c k (omega arith) e) in
      let b = longest-least (run + 1) (span (k + 1) j rs) in
      (omega arith, omega arith)

  pub longest-off : (most run k next : ℕ) → Longest most run k → k < j → (bit_at w k ≡ 1 → ⊥) → next ≡ max most 0 →
      run ≤ most → Longest next 0 (k + 1)
  longest-off most run k next s h e l m n rs c g f =
      let p = s n rs c g f in
      let z = c.size in
      let a = longest-false run k j rs h (omega arith) (bit-false c k (omega arith) e) in
      (omega arith, omega arith)

  pub longest-all : (most run k : ℕ) → Longest most run k → j ≤ k → run ≤ most → LongestPost w i j most
  longest-all most run k s h l n rs c g f =
      let p = s n rs c g f in
      let e : k ≡ j = omega arith in
      let z : longest_from run (span k j rs) ≡ run = rw e (longest-end run j rs) in
      omega arith

pub bit-small : (w : List ℕ) (k : ℕ) → bit_at w k ≤ 1
unfolding bit_at
bit-small w k = omega arith

-- ---- the next start: none is found before picture i, and `sum` is that of the scores behind b

abbrev pub Seeks : List ℕ → ℕ → ℕ → ℕ → ℕ → ℕ → Type 0
Seeks w n d b sum i = (ss : List ℕ) (rs : List Bool) (qs : List ℕ) → Holds w n ss rs qs → d < 2 ^ 32 →
    (sum ≡ total (span (b + 1) i ss)) × Sought d ss b i

pub seeks-first : (w : List ℕ) (n d b : ℕ) → Seeks w n d b 0 (b + 1)
seeks-first w n d b ss rs qs h k = (sym (total-end (b + 1) ss), sought-first d ss b)

module _ (w : List ℕ) (n d b sum i : ℕ) (seeks : Seeks w n d b sum i) (after : b < i) where
  module _ (r time : ℕ) (e : r ≡ get_or w (100 + i) 0 % 2 ^ 32) (time-is : time ≡ d % 2 ^ 32) (inside : i < n) where
    module _ (ss : List ℕ) (rs : List Bool) (qs : List ℕ) (h : Holds w n ss rs qs) (k : d < 2 ^ 32) where
      score : r ≡ get_or ss i 0
      score = e ∙ figure-is h.scores (omega arith) i inside

      in-scores : i < length ss
      in-scores = let z = h.scores.size in omega arith

      is-start : starts_scene time (i - b) r sum ≡ is_start d ss b i
      unfolding is_start
      is-start = let t : time ≡ d = omega arith in rw (t, score, (seeks ss rs qs h k).0)

    pub seeks-more : false ≡ starts_scene time (i - b) r sum → Seeks w n d b (sum + r) (i + 1)
    seeks-more f ss rs qs h k =
        let a = total-more (b + 1) i ss (omega arith) (in-scores ss rs qs h k) in
        let c = (seeks ss rs qs h k).0 in
        let s = score ss rs qs h k in (
          omega arith,
          sought-more d ss b i (seeks ss rs qs h k).1 (in-scores ss rs qs h k) (sym (f ∙ is-start ss rs qs h k)),
        )

    pub seeks-found : true ≡ starts_scene time (i - b) r sum → NextPost w n d b i
    unfolding next_start
    seeks-found f =
        record {
          most = omega arith;
          more = omega arith;
          next = λ ss rs qs h k g. rw (sought-found d ss b i (seeks ss rs qs h k).1 (in-scores ss rs qs h k)
              (sym (f ∙ is-start ss rs qs h k)));
        }

  pub seeks-none : i ≡ n → NextPost w n d b n
  unfolding next_start
  seeks-none e =
      record {
        most = omega arith;
        more = omega arith;
        next = λ ss rs qs h k g. let z = h.scores.size in
            rw (sought-none d ss b i (seeks ss rs qs h k).1 (omega arith)) (omega arith);
      }

-- ---- how many scenes

abbrev pub Tallied : List ℕ → ℕ → ℕ → ℕ → ℕ → Type 0
Tallied w n d scenes b = (ss : List ℕ) (rs : List Bool) (qs : List ℕ) → Holds w n ss rs qs → d < 2 ^ 32 →
    scenes + length (scenes_from d ss rs qs b) ≡ length (scenes_of d ss rs qs)

pub tallied-first : (w : List ℕ) (n d : ℕ) → Tallied w n d 0 0
tallied-first w n d ss rs qs h k = rw (scenes-first d ss rs qs) (omega arith)

pub tallied-more : (w : List ℕ) (n d scenes b r : ℕ) → Tallied w n d scenes b → b < n → NextPost w n d b r →
    Tallied w n d (scenes + 1) r
tallied-more w n d scenes b r t g p ss rs qs h k =
    let z = h.scores.size in
    let a = t ss rs qs h k in
    let e = ap length (scenes-next d ss rs qs b (omega arith)) in
    rw (p.next ss rs qs h k g) (omega arith)

pub tallied-all : (w : List ℕ) (n d scenes b : ℕ) → Tallied w n d scenes b → n ≤ b → scenes ≤ n →
    CountPost w n d scenes
tallied-all w n d scenes b t g m =
    record {
      most = m;
      scenes = λ ss rs qs h k.
          let z = h.scores.size in
          let a = t ss rs qs h k in
          let e = ap length (scenes-none d ss rs qs b (omega arith)) in
          omega arith;
    }

-- ---- a row: every figure is below 2^32, so that its low bits are all of it

abbrev pub row_of : ℕ → ℕ → ℕ → ℕ → ℕ → ℕ → ℕ → SceneRow
row_of i j repeated longest score peak change =
    record {
      first = i;
      pictures = j - i;
      repeated = repeated;
      longest = longest;
      score = score;
      peak = peak;
      change = change;
    }

module _ (w : List ℕ) (i j p l t k q : ℕ) (repeats : RepeatedPost w i j p) (run : LongestPost w i j l)
    (size : length w ≡ 1600) (last : j ≤ 750) (scores : t ≡ sum_by low (take (100 + j - (100 + i)) (drop (100 + i) w)))
    (peak : k ≡ fold (λ m x. max m (low x)) 0 (take (100 + j - (100 + i)) (drop (100 + i) w)))
    (changes : q ≡ sum_by low (take (850 + j - (850 + i)) (drop (850 + i) w))) where
  pub row_is : RowPost w i j (row_of i j (p % 2 ^ 32) (l % 2 ^ 32) (t % 2 ^ 32) (k % 2 ^ 32) (q % 2 ^ 32))
  unfolding scene_of
  row_is n ss rs qs h g f =
      let few = h.few in
      let a = repeats.repeated n rs h.repeats (omega arith) f in
      let b = run n rs h.repeats (omega arith) f in
      let cuts = figures-are i j h.scores (omega arith) (omega arith) f (omega arith) in
      let moves = figures-are i j h.changes (omega arith) (omega arith) f (omega arith) in
      let c : t ≡ total (span i j ss) = scores ∙ total-low _ ∙ ap total cuts in
      let top : k ≡ max 0 (greatest_of (span i j ss)) =
      peak ∙ greatest-low 0 _ ∙ ap (λ (x : List ℕ). max 0 (greatest_of x)) cuts in
      let d : k ≡ greatest_of (span i j ss) = omega arith in
      let e : q ≡ total (span i j qs) = changes ∙ total-low _ ∙ ap total moves in
      let c' = total-most 1000000 i j n ss h.scores.bound h.scores.size f in
      let e' = total-most 25500 i j n qs h.changes.bound h.changes.size f in
      let b' = longest-most 0 (span i j rs) in
      let d' = peak-most (span i j ss) in
      let a'' : p % 2 ^ 32 ≡ count is_true (span i j rs) = omega (arith, repeats.most) in
      let b'' : l % 2 ^ 32 ≡ longest_from 0 (span i j rs) = omega (arith, repeats.most) in
      let c'' : t % 2 ^ 32 ≡ total (span i j ss) = omega arith in
      let d'' : k % 2 ^ 32 ≡ greatest_of (span i j ss) = omega arith in
      let e'' : q % 2 ^ 32 ≡ total (span i j qs) = omega arith in
      rw (a'', b'', c'', d'', e'')
