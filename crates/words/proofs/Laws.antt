-- The laws of words, whatever their width: the bytes of a number, and strings that are written on.
use Prim.Native.Nat.{ℕ, zero, suc, ◌+◌, ◌/◌, ◌%◌, ◌^◌, ◌≤◌}
use native.Mathlib.Omega.{arith}
use native.Mathlib.Nat.{add_assoc, pow-suc, div-div-eq-div-mul}
use mathlib.Core.Path.{◌≡◌, refl, sym, ap, ◌∙◌}
use mathlib.Core.List.{List, ◌∷◌, ◌++◌, append_assoc}
use lib.ListN.{length, take, drop, length-append, length-drop}
use lib.Seq.{take_at, drop_at, drop-drop, sets, sets-eq, length-take-le}
use borrow.Rule.Slice.PartMut.{put_mid}
use Rattle.std.specs.Int.{bytes_low_first}
use Rattle.rules.specs.Bytes.{bytes_of}
use Rattle.words.specs.Written.{written}

-- a number has as many bytes as are asked for
pub length-bytes_of : (n x : ℕ) → length (bytes_of n x) ≡ n
unfolding bytes_of
length-bytes_of zero x = refl
length-bytes_of (suc n) x = ap suc (length-bytes_of n (x / 256))

-- the library's bytes of a number are the rules'
pub low_first : (i n x : ℕ) → bytes_low_first (suc i) n x ≡ bytes_of n (x / 256 ^ suc i)
unfolding bytes_of
low_first i zero x = refl
low_first i (suc n) x =
    ap (λ (l : List ℕ). x / 256 ^ suc i % 256 ∷ l)
    (low_first (suc i) n x
    ∙ ap (bytes_of n) (rw pow-suc (sym (div-div-eq-div-mul x (256 ^ suc i) 256))))

pub le_bytes : (n x : ℕ) → bytes_low_first 0 n x ≡ bytes_of n x
unfolding bytes_of
le_bytes zero x = refl
le_bytes (suc n) x = ap (λ (l : List ℕ). x % 256 ∷ l) (low_first 0 n x)

module _ (at : ℕ) (bs s : List ℕ) (fits : at + length bs ≤ length s) where
  -- stores one after the other
  pub written-sets : sets s at bs ≡ written at bs s
  unfolding written
  written-sets = sets-eq bs s at fits

  -- a part of s that was written on
  pub part-written : {n : ℕ} {part : List ℕ} → n ≡ length bs → part ≡ bs → put_mid at n s part ≡ written at bs s
  unfolding written
  part-written e h =
      rw (e, h, drop-drop (length bs) at s) (sym (append_assoc (take at s) bs (drop (at + length bs) s)))

  pub length-written : length (written at bs s) ≡ length s
  unfolding written
  length-written = simp (length-append, length-drop, length-take-le at s (omega arith)) (omega arith)

  -- what is written just behind it is written in one go
  pub written-append : (cs : List ℕ) → written (at + length bs) cs (written at bs s) ≡ written at (bs ++ cs) s
  unfolding written
  written-append cs =
      let head : length (take at s ++ bs) ≡ at + length bs =
      simp (length-append, length-take-le at s (omega arith)) in
      let behind : drop (at + length bs + length cs) (take at s ++ bs ++ drop (at + length bs) s)
      ≡ drop (at + length bs + length cs) s =
      sym (drop-drop (length cs) (at + length bs) (take at s ++ bs ++ drop (at + length bs) s))
      ∙ ap (drop (length cs)) (drop_at (take at s ++ bs) (drop (at + length bs) s) (at + length bs) head)
      ∙ drop-drop (length cs) (at + length bs) s
      in
      rw (take_at (take at s ++ bs) (drop (at + length bs) s) (at + length bs) head, behind)
      (simp (length-append, append_assoc, add_assoc))
