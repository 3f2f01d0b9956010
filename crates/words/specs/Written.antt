-- A string that was written on.
use Rattle.std.specs.Prelude.{ℕ, ◌+◌, List, ◌++◌, length, take, drop}

-- s with the bytes bs from place `at` on, and every other byte as it was
unfoldable pub written : ℕ → List ℕ → List ℕ → List ℕ
written at bs s = take at s ++ bs ++ drop (at + length bs) s
