-- Hexadecimal text that is written byte by byte.
use Prim.Native.Nat.{ℕ, ◌+◌, ◌*◌, ◌/◌, ◌%◌, ◌≤◌, ◌<◌}
use native.Mathlib.Omega.{arith}
use native.Mathlib.Numerals.{add-one}
use mathlib.Core.Path.{◌≡◌, refl, sym, ap, ◌∙◌}
use mathlib.Core.List.{List, [], ◌∷◌, ◌++◌, map, map-append}
use lib.ListN.{length, length-append, length-drop, take, set, get_or}
use lib.Seq.{take-suc, length-take-le}
use Rattle.rules.specs.Bytes.{end_to_end}
use Rattle.rules.specs.Seal.{over}
use Rattle.rules.proofs.Laws.Lists.{end_to_end-append}
use Rattle.words.specs.Written.{written}
use Rattle.words.proofs.Laws.{written-sets}
use Rattle.record_text.proofs.Texts.{line-more}
use Rattle.program_text.specs.Text.{digit, hex_text}

length-hex_text : (bs : List ℕ) → length (hex_text bs) ≡ 2 * length bs
unfolding hex_text end_to_end
length-hex_text [] = refl
length-hex_text (b ∷ bs) = omega (arith, length-hex_text bs)

pub length_over : (r s : List ℕ) → length r ≤ length s → length (over r s) ≡ length s
unfolding over
length_over r s h = simp (length-append, length-drop) (omega arith)

-- the digits of one byte more
hex_text-more : (bs : List ℕ) (i : ℕ) → i < length bs →
    hex_text (take (i + 1) bs) ≡ hex_text (take i bs)
    ++ (digit (get_or bs i 0 / 16) ∷ digit (get_or bs i 0 % 16) ∷ [])
unfolding hex_text end_to_end
hex_text-more bs i h =
    let two : ℕ → List ℕ = λ b. digit (b / 16) ∷ digit (b % 16) ∷ [] in
    rw (
      add-one i,
      take-suc bs i 0 h,
      map-append two (take i bs) (get_or bs i 0 ∷ []),
      end_to_end-append (map two (take i bs)) (two (get_or bs i 0) ∷ []),
    )
    refl

module _ (bs s t : List ℕ) (i : ℕ) (inside : i < length bs) (room : 2 * length bs ≤ length s)
    (is : t ≡ over (hex_text (take i bs)) s) where
  written-so-far : length (hex_text (take i bs)) ≡ 2 * i
  written-so-far = omega (arith, length-hex_text (take i bs), length-take-le i bs (omega arith))

  pub length-text : length t ≡ length s
  length-text = ap length is ∙ length_over (hex_text (take i bs)) s (omega (arith, written-so-far))

  -- two stores more
  pub byte_more : (x y : ℕ) → x ≡ digit (get_or bs i 0 / 16) → y ≡ digit (get_or bs i 0 % 16) →
      set (set t (2 * i) x) (2 * i + 1) y ≡ over (hex_text (take (i + 1) bs)) s
  byte_more x y ex ey =
      let p = hex_text (take i bs) in
      let both = digit (get_or bs i 0 / 16) ∷ digit (get_or bs i 0 % 16) ∷ [] in
      let stores : set (set t (2 * i) x) (2 * i + 1) y ≡ written (2 * i) both t =
      rw (ex, ey, add-one (2 * i)) (written-sets (2 * i) both t (omega (arith, length-text)))
      in
      rw (hex_text-more bs i inside) (line-more p both s t _ (2 * i) is (sym written-so-far) (omega arith) stores)

-- no byte yet
pub none_yet : (bs s : List ℕ) → s ≡ over (hex_text (take 0 bs)) s
unfolding over hex_text end_to_end
none_yet bs s = refl
