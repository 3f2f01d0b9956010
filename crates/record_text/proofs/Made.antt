-- What a program that prints a part of a buffer needs.
use Prim.Native.Nat.{ℕ, ◌≤◌}
use mathlib.Core.Path.{◌≡◌, sym}
use mathlib.Core.List.{List}
use lib.ListN.{length, take}
use lib.Seq.{length-take-le}

-- the first n bytes of a buffer are n
pub part : (s : List ℕ) (n : ℕ) → n ≤ length s → n ≡ length (take n s)
part s n h = sym (length-take-le n s h)
