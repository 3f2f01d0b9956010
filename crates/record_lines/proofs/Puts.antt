-- Texts that are put one after the other.
use Prim.Native.Nat.{ℕ, zero, suc, ◌+◌, ◌-◌, ◌*◌, ◌/◌, ◌%◌, ◌^◌, ◌≤◌, ◌<◌}
use native.Mathlib.Omega.{arith}
use native.Mathlib.Numerals.{add-one}
use native.Mathlib.Nat.{pow-suc, div-lt_iff_lt-mul, add-zero, zero-add, mul-suc, mul-le-mul_left}
use mathlib.Core.Path.{◌≡◌, refl, sym, ap, ◌∙◌}
use mathlib.Core.Bool.{Bool, true, false}
use mathlib.Core.List.{List, [], ◌∷◌, ◌++◌, map, map-append, append-nil, append_assoc}
use lib.ListN.{length, take, drop, get_or, replicate, length-append, length-replicate, length-drop}
use lib.Seq.{take-suc, length-take-le}
use lib.Dec.{ltb}
use borrow.Rule.Slice.PartMut.{put_mid}
use borrow.Author.Tests.{lt-ltb}
use Rattle.rules.specs.Bytes.{pick, table, end_to_end, All, empty, and}
use Rattle.rules.proofs.Laws.Lists.{end_to_end-append}
use Rattle.words.specs.Written.{written}
use Rattle.words.proofs.Behind.{next}
use Rattle.rules.specs.Digits.{decimal_in, decimal, hex_in}
use Rattle.record_text.proofs.Texts.{none_yet, copied, length-hex, decimal-digits}
use Rattle.io.specs.Digits.{last_digits, IsDigitCount}
use Rattle.io.specs.Counts.{IsPrefixLen}
use Rattle.record_lines.specs.Put.{Put, Fits, lines_to}
use Rattle.rules.specs.Sheet.{aligned, columns, ending, line}

-- ---- any texts

pub put-none : (at : ℕ) (s : List ℕ) → Put at 0 [] s at s
put-none at s = record { ends = omega arith; size = refl; puts = none_yet s [] at }

-- a text that `put_text` put
pub texted : {at r : ℕ} {text s t : List ℕ} → (r ≡ at + length text) × (t ≡ written at text s) →
    Put at (length text) text s r t
texted e = record { ends = e.0; size = refl; puts = e.1 }

-- a text, and another just after it
module _ {at n k m e : ℕ} {x y s s₁ s₂ : List ℕ} where
  pub join : Put at n x s m s₁ → Put m k y s₁ e s₂ → at + n ≤ length s → Put at (n + k) (x ++ y) s e s₂
  join p q fits =
      let f : s₂ ≡ written (at + n) y s₁ = rw p.ends at q.puts in
      record {
        ends = omega (arith, p.ends, q.ends);
        size = rw (length-append x y) (omega (arith, p.size, q.size));
        puts = next at n x y s p.size fits p.puts f;
      }

-- the same text under another name, with its length and its end
pub same-put : {at n e : ℕ} {x s t : List ℕ} (n' e' : ℕ) (x' : List ℕ) → Put at n x s e t →
    n ≡ n' → e ≡ e' → x ≡ x' → Put at n' x' s e' t
same-put n' e' x' p a b c = rw (← a, ← b, ← c) p

-- ---- spaces

-- the n bytes from a place on, filled
pub spaces-put : (at n k : ℕ) (s ys : List ℕ) → k ≡ n → at + n ≤ length s →
    ys ≡ replicate (length (take k (drop at s))) 32 →
    Put at n (replicate n 32) s (at + n) (put_mid at k s ys)
spaces-put at n k s ys e room filled =
    let count : length (take k (drop at s)) ≡ n =
    rw e (length-take-le n (drop at s) (omega (arith, length-drop at s))) in
    let as-many : ys ≡ replicate n 32 = rw count at filled in
    let size = length-replicate {A = ℕ} n 32 in
    record { ends = refl; size = size; puts = copied at k s (replicate n 32) ys as-many (omega (arith, size)) }

-- ---- fields

-- a number below 10 ^ w has w digits at most
pub few-digits : (k n w : ℕ) → 1 ≤ w → n < 10 ^ w → length (decimal_in k n) ≤ w
unfolding decimal_in
few-digits zero n w a b = omega arith
few-digits (suc k) n zero a b = absurd (omega arith)
few-digits (suc k) n (suc zero) a b = rw (lt-ltb n 10 (omega (arith, pow-suc 10 0))) (omega arith)
few-digits (suc k) n (suc (suc w)) a b =
    let less : n / 10 < 10 ^ suc w =
    (div-lt_iff_lt-mul {k = 10} {x = n} {y = 10 ^ suc w} (omega arith)).1 (omega (arith, pow-suc 10 (suc w)))
    in
    go (ltb n 10) (few-digits k (n / 10) (suc w) (omega arith) less)
  where
    go : (b : Bool) → length (decimal_in k (n / 10)) ≤ suc w →
        length (pick b ((48 + n) ∷ []) (decimal_in k (n / 10) ++ ((48 + n % 10) ∷ []))) ≤ suc (suc w)
    go true h = omega arith
    go false h = rw (length-append (decimal_in k (n / 10)) ((48 + n % 10) ∷ [])) (omega arith)

pub length-aligned : (w : ℕ) (text : List ℕ) → length text ≤ w → length (aligned w text) ≡ w
unfolding aligned
length-aligned w text h =
    rw
    (length-append (replicate (w - length text) 32) text, length-replicate {A = ℕ} (w - length text) 32) (omega arith)

-- spaces, and the k digits that t begins with
module _ (n w k : ℕ) (t : List ℕ) (wide : 1 ≤ w) (small : n < 10 ^ w) (fits : n < 2 ^ 64) (counts : IsPrefixLen k t)
    (fewest : IsDigitCount 10 1 n k) (is : take k t ≡ last_digits 10 k n) where
  digits_are : take k t ≡ decimal n
  digits_are = is ∙ decimal-digits n k fits fewest

  digits-count : length (decimal n) ≡ k
  digits-count = sym (counts.1 ∙ ap length digits_are)

  pub digits-fit : k ≤ w
  unfolding decimal
  digits-fit = omega (arith, digits-count, few-digits 20 n w wide small)

  pub number_put : {at m r : ℕ} {s s₁ s₂ : List ℕ} → Put at (w - k) (replicate (w - k) 32) s m s₁ →
      (r ≡ m + length (take k t)) × (s₂ ≡ written m (take k t) s₁) → at + w ≤ length s →
      Put at w (aligned w (decimal n)) s r s₂
  unfolding aligned
  number_put {at} {m} {r} {s} {s₁} {s₂} p e room =
      let q : Put m k (decimal n) s₁ r s₂ =
      record {
        ends = omega (arith, e.0, counts.1);
        size = digits-count;
        puts = rw digits_are at e.1;
      }
      in
      let d : w - k ≡ w - length (decimal n) = omega (arith, digits-count) in
      same-put w r (aligned w (decimal n)) (join p q (omega (arith, digits-fit))) (omega (arith, digits-fit)) refl
      (ap (λ (i : ℕ). replicate i 32 ++ decimal n) d)

pub bits_put : {at m r : ℕ} {s s₁ s₂ : List ℕ} (n : ℕ) → Put at 4 (replicate 4 32) s m s₁ →
    (r ≡ m + 17) × (s₂ ≡ written m (32 ∷ hex_in 16 n) s₁) → at + 21 ≤ length s →
    Put at 21 (aligned 21 (hex_in 16 n)) s r s₂
unfolding aligned
bits_put {at} {m} {r} {s} {s₁} {s₂} n p e room =
    let q : Put m 17 (32 ∷ hex_in 16 n) s₁ r s₂ =
    record { ends = e.0; size = omega (arith, length-hex 16 n); puts = e.1 }
    in
    same-put 21 r (aligned 21 (hex_in 16 n)) (join p q (omega arith)) refl refl (rw (length-hex 16 n))

-- numbers one by one

pub all-at : {P : ℕ → Type 0} {xs : List ℕ} → All P xs → (i : ℕ) → i < length xs → P (get_or xs i 0)
all-at empty i h = absurd (omega arith)
all-at (and p ps) zero h = p
all-at (and p ps) (suc i) h = all-at ps i (omega arith)

-- 32-bit figures fit 11 columns, 64-bit ones 21
pub figure : (n : ℕ) {ns : List ℕ} → n < 2 ^ 32 → All (Fits 11) ns → All (Fits 11) (n ∷ ns)
figure n h a = and {x = n} (omega arith, omega arith) a

pub time : (n : ℕ) {ns : List ℕ} → n < 2 ^ 64 → All (Fits 21) ns → All (Fits 21) (n ∷ ns)
time n h a = and {x = n} (omega arith, h) a

-- i + 1 parts of w bytes have room where n of them have
pub part-fits : (w i n : ℕ) → i < n → w * i + w ≤ w * n
part-fits w i n h = rw (← mul-suc w i) (mul-le-mul_left w (omega arith))

columns-more : (w : ℕ) (ns : List ℕ) (i : ℕ) → i < length ns →
    columns w (take (i + 1) ns) ≡ columns w (take i ns) ++ aligned w (decimal (get_or ns i 0))
unfolding columns end_to_end
columns-more w ns i h =
    let f : ℕ → List ℕ = λ n. aligned w (decimal n) in
    let last = get_or ns i 0 in
    let joined = end_to_end-append (map f (take i ns)) (f last ∷ []) in
    rw (add-one i, take-suc ns i 0 h, map-append f (take i ns) (last ∷ []), joined)
    (ap (λ (x : List ℕ). end_to_end (map f (take i ns)) ++ x) (append-nil (f last)))

pub no-columns : (at w : ℕ) (ns s : List ℕ) → Put at (w * 0) (columns w (take 0 ns)) s at s
unfolding columns end_to_end
no-columns at w ns s = same-put (w * 0) at (columns w (take 0 ns)) (put-none at s) (omega arith) refl refl

pub column-more : {at m e : ℕ} {s s₁ s₂ : List ℕ} (w : ℕ) (ns : List ℕ) (i : ℕ) → i < length ns →
    at + w * i ≤ length s →
    Put at (w * i) (columns w (take i ns)) s m s₁ → Put m w (aligned w (decimal (get_or ns i 0))) s₁ e s₂ →
    Put at (w * (i + 1)) (columns w (take (i + 1) ns)) s e s₂
column-more {e = e} w ns i h room p q =
    let d : w * i + w ≡ w * (i + 1) = rw add-one (sym (mul-suc w i)) in
    same-put (w * (i + 1)) e (columns w (take (i + 1) ns)) (join p q room) d refl (sym (columns-more w ns i h))

-- ---- lines

pub end-put : {at m e : ℕ} {s s₁ s₂ : List ℕ} (used : ℕ) → used ≤ 100 → at + (101 - used) ≤ length s →
    Put at (100 - used) (replicate (100 - used) 32) s m s₁ → Put m 1 (10 ∷ []) s₁ e s₂ →
    Put at (101 - used) (ending used) s e s₂
unfolding ending
end-put {e = e} used h room p q =
    same-put (101 - used) e (ending used) (join p q (omega arith)) (omega arith) refl refl

-- a mark, n columns of fields, the line's end
pub line-put : {at m b e n : ℕ} {s s₁ s₂ s₃ : List ℕ} (mark : ℕ) (fields : List ℕ) (used : ℕ) →
    used ≡ 1 + n → used ≤ 100 → at + 101 ≤ length s →
    Put at 1 (mark ∷ []) s m s₁ → Put m n fields s₁ b s₂ → Put b (101 - used) (ending used) s₂ e s₃ →
    Put at 101 (line mark fields) s e s₃
unfolding line
line-put {e = e} mark fields used u h room p q r =
    let x = join p q (omega arith) in
    let l : used ≡ length ((mark ∷ []) ++ fields) = u ∙ sym x.size in
    let y = join x r (omega arith) in
    same-put 101 e (line mark fields) y (omega arith) refl (ap (λ (k : ℕ). (mark ∷ []) ++ fields ++ ending k) l)

-- lines one by one

table_more : (f : ℕ → List ℕ) (n from : ℕ) →
    end_to_end (table (suc n) from f) ≡ end_to_end (table n from f) ++ f (from + n)
unfolding table end_to_end
table_more f zero from = rw (add-zero from) (append-nil (f from))
table_more f (suc n) from =
    let e : suc from + n ≡ from + suc n = omega arith in
    ap (λ (x : List ℕ). f from ++ x) (table_more f n (suc from))
    ∙ (rw e (sym (append_assoc (f from) (end_to_end (table n (suc from) f)) (f (from + suc n)))))

pub no_lines : (f : ℕ → List ℕ) (at : ℕ) (s : List ℕ) → Put at (101 * 0) (lines_to 0 f) s at s
unfolding lines_to table end_to_end
no_lines f at s = put-none at s

pub line-more : {at m e : ℕ} {s s₁ s₂ : List ℕ} (f : ℕ → List ℕ) (j : ℕ) → at + 101 * j ≤ length s →
    Put at (101 * j) (lines_to j f) s m s₁ → Put m 101 (f j) s₁ e s₂ →
    Put at (101 * (j + 1)) (lines_to (j + 1) f) s e s₂
unfolding lines_to
line-more {e = e} f j room p q =
    let d : end_to_end (table j 0 f) ++ f j ≡ end_to_end (table (j + 1) 0 f) =
    rw (add-one j) (sym (rw (zero-add j) at (table_more f j 0)))
    in
    same-put (101 * (j + 1)) e (lines_to (j + 1) f) (join p q room) (omega arith) refl d
