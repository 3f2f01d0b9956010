-- Rows that are done are the rule's own: what `RowsOf` says of an opening's picture. No code.
use Prim.Native.Nat.{ℕ, ◌*◌, ◌≤◌}
use native.Mathlib.Omega.{arith}
use mathlib.Core.Path.{◌≡◌}
use mathlib.Core.List.{List, ◌++◌}
use lib.ListN.{take}
use Rattle.rules.specs.declared.Opening.{Opening}
use Rattle.rules.specs.Opening.{side, columns, lines}
use Rattle.rules.specs.Pictures.{pixels}
use Rattle.luma_laws.proofs.Blocks.{pixels-are}
use Rattle.luma_blocks.specs.Pixels.{RowsOf}

-- all rows
pub picture-whole : (o : Opening) (p t : List ℕ) {m : List ℕ} → RowsOf o.width (side o) (columns o) (lines o) p m →
    lines o * columns o ≤ 14104 →
    take (lines o * columns o) m ≡ pixels o (p ++ t)
picture-whole o p t {m} f room = pixels-are o (p ++ t) m (omega (arith, f.size)) (λ r c h k. f.each r c h k t)
