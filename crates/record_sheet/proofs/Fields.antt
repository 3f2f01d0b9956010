-- A line's fields tell its figures: each field is read back as a number.
use Prim.Native.Nat.{ℕ, zero, suc, ◌+◌, ◌-◌, ◌*◌, ◌/◌, ◌%◌, ◌^◌, ◌≤◌, ◌<◌}
use native.Mathlib.Omega.{arith}
use native.Mathlib.Nat.{pow-suc, div-lt_iff_lt-mul}
use mathlib.Core.Path.{◌≡◌, refl, sym, ap, ◌∙◌}
use mathlib.Core.Bool.{Bool, true, false}
use mathlib.Core.List.{List, [], ◌∷◌, ◌++◌, append_assoc}
use lib.ListN.{length, replicate}
use lib.Dec.{ltb}
use borrow.Author.Tests.{ltb-true, ltb-false}
use Rattle.rules.specs.declared.Header.{Header}
use Rattle.rules.specs.declared.UnitRow.{UnitRow}
use Rattle.rules.specs.declared.SceneRow.{SceneRow}
use Rattle.rules.specs.Bytes.{pick, byte, end_to_end, All, empty, and}
use Rattle.rules.specs.Digits.{decimal_in, decimal, hex_digit, hex_in}
use Rattle.rules.specs.Sheet.{aligned, columns, header_fields, unit_fields, scene_fields, ending, line}
use Rattle.rules.specs.Sheet.{header_line, unit_line, scene_line}
use Rattle.record_laws.proofs.Record.{UnitFits, SceneFits}
use Rattle.record_lines.specs.Put.{Fits}
use Rattle.record_sheet.proofs.Theorems.{fits, header-columns, unit-columns, scene-columns}
use Rattle.record_sheet.proofs.Theorems.{FirstFits, first-counts, unit-times, unit-counts, unit-damaged}
use Rattle.record_sheet.proofs.Theorems.{scene-counts}

-- ---- lists

-- two joined lists are equal part by part if their first parts are equally long
module _ {A : Type 0} where
  pub apart : (x x' y y' : List A) → length x ≡ length x' → x ++ y ≡ x' ++ y' → (x ≡ x') × (y ≡ y')
  apart [] [] y y' l e = (refl, e)
  apart [] (a ∷ x') y y' l e = absurd (omega arith)
  apart (a ∷ x) [] y y' l e = absurd (omega arith)
  apart (a ∷ x) (b ∷ x') y y' l e =
      let h : a ≡ b = cc in
      let t : x ++ y ≡ x' ++ y' = cc in
      let z = apart x x' y y' (omega arith) t in
      (rw (h, z.0), z.1)

-- ---- a number from its field

-- what a column's character is worth: a space nothing
worth : ℕ → ℕ
worth c = c % 16 + 9 * (c / 64)

-- the number that characters say, behind the number a
value_from : ℕ → ℕ → List ℕ → ℕ
value_from b a [] = a
value_from b a (c ∷ cs) = value_from b (b * a + worth c) cs

value-append : (b a : ℕ) (xs ys : List ℕ) → value_from b a (xs ++ ys) ≡ value_from b (value_from b a xs) ys
unfolding value_from
value-append b a [] ys = refl
value-append b a (x ∷ xs) ys = value-append b (b * a + worth x) xs ys

value-spaces : (b k : ℕ) (t : List ℕ) → value_from b 0 (replicate k 32 ++ t) ≡ value_from b 0 t
unfolding value_from worth
value-spaces b zero t = refl
value-spaces b (suc k) t =
    let e : b * 0 + worth 32 ≡ 0 = omega arith in
    ap (λ (a : ℕ). value_from b a (replicate k 32 ++ t)) e ∙ value-spaces b k t

value-aligned : (b w : ℕ) (t : List ℕ) → value_from b 0 (aligned w t) ≡ value_from b 0 t
unfolding aligned
value-aligned b w t = value-spaces b (w - length t) t

-- without its last digit a number is less by a power
less : (b k n : ℕ) → 1 ≤ b → n < b ^ suc k → n / b < b ^ k
less b k n a h = (div-lt_iff_lt-mul {k = b} {x = n} {y = b ^ k} a).1 (omega (arith, pow-suc b k))

value-decimal : (k n : ℕ) → n < 10 ^ k → value_from 10 0 (decimal_in k n) ≡ n
unfolding decimal_in value_from worth
value-decimal zero n h = omega arith
value-decimal (suc k) n h =
    go (ltb n 10) refl (value-decimal k (n / 10) (less 10 k n (omega arith) h))
  where
    go : (b : Bool) → ltb n 10 ≡ b → value_from 10 0 (decimal_in k (n / 10)) ≡ n / 10 →
        value_from 10 0 (pick b ((48 + n) ∷ []) (decimal_in k (n / 10) ++ ((48 + n % 10) ∷ []))) ≡ n
    go true t e = omega (arith, ltb-true n 10 t)
    go false t e = rw (value-append 10 0 (decimal_in k (n / 10)) ((48 + n % 10) ∷ []), e) (omega arith)

digit-worth : (d : ℕ) → d < 16 → worth (hex_digit d) ≡ d
unfolding worth
digit-worth d h = go (ltb d 10) refl
  where
    go : (b : Bool) → ltb d 10 ≡ b → worth (pick b (48 + d) (55 + d)) ≡ d
    go true e = omega (arith, ltb-true d 10 e)
    go false e = omega (arith, ltb-false d 10 e)

value-hex : (k n : ℕ) → n < 16 ^ k → value_from 16 0 (hex_in k n) ≡ n
unfolding hex_in value_from
value-hex zero n h = omega arith
value-hex (suc k) n h =
    let front = value-hex k (n / 16) (less 16 k n (omega arith) h) in
    let last = digit-worth (n % 16) (omega arith) in
    rw (value-append 16 0 (hex_in k (n / 16)) (hex_digit (n % 16) ∷ []), front, last) (omega arith)

-- ---- figures from fields, whatever stands behind them

same_number : (w n m : ℕ) (x y : List ℕ) → 1 ≤ w → Fits w n → Fits w m →
    aligned w (decimal n) ++ x ≡ aligned w (decimal m) ++ y → (n ≡ m) × (x ≡ y)
unfolding decimal
same_number w n m x y h a b e =
    let l = fits w n h a.0 ∙ sym (fits w m h b.0) in
    let z = apart (aligned w (decimal n)) (aligned w (decimal m)) x y l e in
    let v : (k : ℕ) → k < 2 ^ 64 → value_from 10 0 (aligned w (decimal k)) ≡ k =
    λ k l. value-aligned 10 w (decimal k) ∙ value-decimal 20 k (omega arith)
    in
    (sym (v n a.1) ∙ (ap (value_from 10 0) z.0 ∙ v m b.1), z.1)

same-columns : (w : ℕ) {ns ms : List ℕ} (x y : List ℕ) → 1 ≤ w → All (Fits w) ns → All (Fits w) ms →
    length ns ≡ length ms →
    columns w ns ++ x ≡ columns w ms ++ y → (ns ≡ ms) × (x ≡ y)
unfolding columns end_to_end
same-columns w x y h empty empty l e = (refl, e)
same-columns w x y h empty (and q qs) l e = absurd (omega arith)
same-columns w x y h (and p ps) empty l e = absurd (omega arith)
same-columns w x y h (and {x = n} {xs = ns} p ps) (and {x = m} {xs = ms} q qs) l e =
    let f : aligned w (decimal n) ++ (columns w ns ++ x) ≡ aligned w (decimal m) ++ (columns w ms ++ y) =
    sym (append_assoc (aligned w (decimal n)) (columns w ns) x)
    ∙ (e ∙ append_assoc (aligned w (decimal m)) (columns w ms) y)
    in
    let z = same_number w n m (columns w ns ++ x) (columns w ms ++ y) h p q f in
    let t = same-columns w x y h ps qs (omega arith) z.1 in
    (rw (z.0, t.0), t.1)

-- the index bits
same_bits : (n m : ℕ) → n < 2 ^ 64 → m < 2 ^ 64 → aligned 21 (hex_in 16 n) ≡ aligned 21 (hex_in 16 m) → n ≡ m
same_bits n m a b e =
    let v : (k : ℕ) → k < 16 ^ 16 → value_from 16 0 (aligned 21 (hex_in 16 k)) ≡ k =
    λ k l. value-aligned 16 21 (hex_in 16 k) ∙ value-hex 16 k l
    in
    sym (v n (omega arith)) ∙ (ap (value_from 16 0) e ∙ v m (omega arith))

-- ---- rows from lines

same-fields : (mark : ℕ) (x y : List ℕ) → length x ≡ length y → line mark x ≡ line mark y → x ≡ y
unfolding line
same-fields mark x y l e =
    let z = apart (mark ∷ x) (mark ∷ y) (ending (suc (length x))) (ending (suc (length y))) (omega arith) e in
    cc z.0

-- two unit rows, of which word 28 is zero where no damage is known
module _ (known : Bool) (j : ℕ) (u v : UnitRow) (f : UnitFits u) (g : UnitFits v)
    (zeros : known ≡ false → (u.damaged ≡ 0) × (v.damaged ≡ 0)) where
  last-told : (b : Bool) → known ≡ b →
      pick b (columns 11 (u.damaged ∷ [])) [] ≡ pick b (columns 11 (v.damaged ∷ [])) [] → u.damaged ≡ v.damaged
  last-told true k e =
      let w : columns 11 (u.damaged ∷ []) ++ [] ≡ columns 11 (v.damaged ∷ []) ++ [] =
      ap (λ (x : List ℕ). x ++ []) e in
      ap (λ (ns : List ℕ). byte ns 0)
      (same-columns 11 [] [] (omega arith) (unit-damaged u f) (unit-damaged v g) refl w).0
  last-told false k e = let z = zeros k in z.0 ∙ sym z.1

  unit-told : unit_fields known j u ≡ unit_fields known j v → u ≡ v
  unfolding unit_fields
  unit-told e =
      let number = columns 11 (j ∷ []) in
      let t : UnitRow → List ℕ = λ x. columns 21 (x.least ∷ x.greatest ∷ []) in
      let c : UnitRow → List ℕ = λ x. columns 11 (x.size ∷ x.packets ∷ x.lost ∷ []) in
      let d : UnitRow → List ℕ = λ x. pick known (columns 11 (x.damaged ∷ [])) [] in
      let all : (x : UnitRow) → number ++ t x ++ c x ++ d x ≡ number ++ (t x ++ (c x ++ d x)) =
      λ x. append_assoc (number ++ t x) (c x) (d x) ∙ append_assoc number (t x) (c x ++ d x)
      in
      let a : number ++ (t u ++ (c u ++ d u)) ≡ number ++ (t v ++ (c v ++ d v)) = sym (all u) ∙ (e ∙ all v) in
      let b = apart number number (t u ++ (c u ++ d u)) (t v ++ (c v ++ d v)) refl a in
      let y = same-columns 21 (c u ++ d u) (c v ++ d v) (omega arith) (unit-times u f) (unit-times v g) refl b.1 in
      let z = same-columns 11 (d u) (d v) (omega arith) (unit-counts u f) (unit-counts v g) refl y.1 in
      let last = last-told known refl z.1 in
      let row : List ℕ → List ℕ → ℕ → UnitRow =
      λ ts cs n. record {
        least = byte ts 0;
        greatest = byte ts 1;
        size = byte cs 0;
        packets = byte cs 1;
        lost = byte cs 2;
        damaged = n;
      }
      in
      ap (λ (ts : List ℕ). row ts (u.size ∷ u.packets ∷ u.lost ∷ []) u.damaged) y.0
      ∙ (ap (λ (cs : List ℕ). row (v.least ∷ v.greatest ∷ []) cs u.damaged) z.0
      ∙ ap (row (v.least ∷ v.greatest ∷ []) (v.size ∷ v.packets ∷ v.lost ∷ [])) last)

  pub same-unit : j < 2 ^ 32 → unit_line known j u ≡ unit_line known j v → u ≡ v
  unfolding unit_line
  same-unit h e =
      let l = unit-columns known j u h f ∙ sym (unit-columns known j v h g) in
      unit-told (same-fields 85 (unit_fields known j u) (unit_fields known j v) l e)

module _ (j : ℕ) (s t : SceneRow) (h : j < 2 ^ 32) (f : SceneFits s) (g : SceneFits t) where
  scene-told : scene_fields j s ≡ scene_fields j t → s ≡ t
  unfolding scene_fields
  scene-told e =
      let w : scene_fields j s ++ [] ≡ scene_fields j t ++ [] = ap (λ (x : List ℕ). x ++ []) e in
      let z = same-columns 11 [] [] (omega arith) (scene-counts j s h f) (scene-counts j t h g) refl w in
      let row : List ℕ → SceneRow =
      λ ns. record {
        first = byte ns 1;
        pictures = byte ns 2;
        repeated = byte ns 3;
        longest = byte ns 4;
        score = byte ns 5;
        peak = byte ns 6;
        change = byte ns 7;
      }
      in
      ap row z.0

  pub same-scene : scene_line j s ≡ scene_line j t → s ≡ t
  unfolding scene_line
  same-scene e =
      let l = scene-columns j s h f ∙ sym (scene-columns j t h g) in
      scene-told (same-fields 83 (scene_fields j s) (scene_fields j t) l e)

-- W, H, N and the index bits
pub record SameFirst (h k : Header) : Type 0 where
  pub width : h.width ≡ k.width
  pub height : h.height ≡ k.height
  pub pictures : h.pictures ≡ k.pictures
  pub index : h.index ≡ k.index

module _ (h k : Header) (f : FirstFits h) (g : FirstFits k) where
  first-told : header_fields h ≡ header_fields k → SameFirst h k
  unfolding header_fields
  first-told e =
      let b : Header → List ℕ = λ x. aligned 21 (hex_in 16 x.index) in
      let z = same-columns 11 (b h) (b k) (omega arith) (first-counts h f) (first-counts k g) refl e in
      let i = same_bits h.index k.index f.index g.index z.1 in
      record { width = cc z.0; height = cc z.0; pictures = cc z.0; index = i }

  pub same_first : header_line h ≡ header_line k → SameFirst h k
  unfolding header_line
  same_first e =
      let l = header-columns h f ∙ sym (header-columns k g) in
      first-told (same-fields 32 (header_fields h) (header_fields k) l e)
