-- A header and rows that are written word by word, each word behind the one before.
use Prim.Native.Nat.{ℕ, ◌+◌, ◌≤◌}
use native.Mathlib.Omega.{arith}
use mathlib.Core.Path.{◌≡◌, ap, ◌∙◌}
use mathlib.Core.List.{List, ◌++◌, append_assoc}
use lib.ListN.{length, length-append}
use Rattle.rules.specs.Bytes.{bytes_of}
use Rattle.rules.specs.Record.{record_length, scene_offset, header_bytes, unit_bytes, scene_bytes}
use Rattle.rules.specs.Seal.{over}
use Rattle.rules.specs.declared.Header.{Header}
use Rattle.rules.specs.declared.UnitRow.{UnitRow}
use Rattle.rules.specs.declared.SceneRow.{SceneRow}
use Rattle.record_laws.proofs.Words.{length-bytes}
use Rattle.words.specs.Written.{written}
use Rattle.words.proofs.Behind.{next, over-written}

-- four words
abbrev pub four : ℕ → ℕ → ℕ → ℕ → List ℕ
four a b c d = bytes_of 4 a ++ bytes_of 4 b ++ bytes_of 4 c ++ bytes_of 4 d

length-four : (a b c d : ℕ) → length (four a b c d) ≡ 16
length-four a b c d = simp (length-append, length-bytes)

module _ (at a b c d : ℕ) (s : List ℕ) {s₁ s₂ s₃ s₄ : List ℕ} (fits : at + 16 ≤ length s) where
  pub four-written : s₁ ≡ written at (bytes_of 4 a) s → s₂ ≡ written (at + 4) (bytes_of 4 b) s₁ →
      s₃ ≡ written (at + 8) (bytes_of 4 c) s₂ →
      s₄ ≡ written (at + 12) (bytes_of 4 d) s₃ → s₄ ≡ written at (four a b c d) s
  four-written e₁ e₂ e₃ e₄ =
      let f₂ : s₂ ≡ written at (bytes_of 4 a ++ bytes_of 4 b) s =
      next at 4 (bytes_of 4 a) (bytes_of 4 b) s (length-bytes 4 a) (omega arith) e₁ e₂ in
      let n₂ : length (bytes_of 4 a ++ bytes_of 4 b) ≡ 8 = simp (length-append, length-bytes) in
      let f₃ : s₃ ≡ written at (bytes_of 4 a ++ bytes_of 4 b ++ bytes_of 4 c) s =
      next at 8 (bytes_of 4 a ++ bytes_of 4 b) (bytes_of 4 c) s n₂ (omega arith) f₂ e₃ in
      let n₃ : length (bytes_of 4 a ++ bytes_of 4 b ++ bytes_of 4 c) ≡ 12 = simp (length-append, length-bytes) in
      next at 12 (bytes_of 4 a ++ bytes_of 4 b ++ bytes_of 4 c) (bytes_of 4 d) s n₃ (omega arith) f₃ e₄

-- a header
module _ (h : Header) (s : List ℕ) {s₁ s₂ s₃ s₄ s₅ s₆ : List ℕ} (fits : 64 ≤ length s) where
  pub header-written : s₁ ≡ written 0 (four h.edition (record_length h.units h.scenes) h.units 64) s →
      s₂ ≡ written 16 (four h.scenes (scene_offset h.units) h.width h.height) s₁ →
      s₃ ≡ written 32 (four h.time h.pid h.pictures h.frames) s₂ →
      s₄ ≡ written 48 (bytes_of 4 h.skipped) s₃ → s₅ ≡ written 52 (bytes_of 4 h.bad) s₄ →
      s₆ ≡ written 56 (bytes_of 8 h.index) s₅ →
      s₆ ≡ over (header_bytes h) s
  unfolding header_bytes
  header-written e₁ e₂ e₃ e₄ e₅ e₆ =
      let a = four h.edition (record_length h.units h.scenes) h.units 64 in
      let b = four h.scenes (scene_offset h.units) h.width h.height in
      let d = four h.time h.pid h.pictures h.frames in
      let k = bytes_of 4 h.skipped in
      let m = bytes_of 4 h.bad in
      let f₂ : s₂ ≡ written 0 (a ++ b) s = next 0 16 a b s (length-four _ _ _ _) (omega arith) e₁ e₂ in
      let n₂ : length (a ++ b) ≡ 32 = simp (length-append, length-bytes) in
      let f₃ : s₃ ≡ written 0 (a ++ b ++ d) s = next 0 32 (a ++ b) d s n₂ (omega arith) f₂ e₃ in
      let n₃ : length (a ++ b ++ d) ≡ 48 = simp (length-append, length-bytes) in
      let f₄ : s₄ ≡ written 0 (a ++ b ++ d ++ k) s = next 0 48 (a ++ b ++ d) k s n₃ (omega arith) f₃ e₄ in
      let n₄ : length (a ++ b ++ d ++ k) ≡ 52 = simp (length-append, length-bytes) in
      let f₅ : s₅ ≡ written 0 (a ++ b ++ d ++ k ++ m) s = next 0 52 (a ++ b ++ d ++ k) m s n₄ (omega arith) f₄ e₅ in
      let n₅ : length (a ++ b ++ d ++ k ++ m) ≡ 56 = simp (length-append, length-bytes) in
      let f₆ = next 0 56 (a ++ b ++ d ++ k ++ m) (bytes_of 8 h.index) s n₅ (omega arith) f₅ e₆ in
      f₆ ∙ (over-written _ s ∙ ap (λ (x : List ℕ). over x s) (simp append_assoc))

-- a row
module _ (at : ℕ) (u : UnitRow) (s : List ℕ) {s₁ s₂ s₃ : List ℕ} (fits : at + 32 ≤ length s) where
  pub unit-written : s₁ ≡ written at (bytes_of 8 u.least) s → s₂ ≡ written (at + 8) (bytes_of 8 u.greatest) s₁ →
      s₃ ≡ written (at + 16) (four u.size u.packets u.lost u.damaged) s₂ → s₃ ≡ written at (unit_bytes u) s
  unfolding unit_bytes
  unit-written e₁ e₂ e₃ =
      let a = bytes_of 8 u.least in
      let b = bytes_of 8 u.greatest in
      let f₂ : s₂ ≡ written at (a ++ b) s = next at 8 a b s (length-bytes 8 u.least) (omega arith) e₁ e₂ in
      let n₂ : length (a ++ b) ≡ 16 = simp (length-append, length-bytes) in
      next at 16 (a ++ b) (four u.size u.packets u.lost u.damaged) s n₂ (omega arith) f₂ e₃
      ∙ ap (λ (x : List ℕ). written at x s) (simp append_assoc)

module _ (at : ℕ) (x : SceneRow) (s : List ℕ) {s₁ s₂ : List ℕ} (fits : at + 32 ≤ length s) where
  pub scene-written : s₁ ≡ written at (four x.first x.pictures x.repeated x.longest) s →
      s₂ ≡ written (at + 16) (four x.score x.peak x.change 0) s₁ → s₂ ≡ written at (scene_bytes x) s
  unfolding scene_bytes
  scene-written e₁ e₂ =
      next at 16 (four x.first x.pictures x.repeated x.longest) (four x.score x.peak x.change 0) s
      (length-four _ _ _ _) (omega arith) e₁ e₂
      ∙ ap (λ (y : List ℕ). written at y s) (simp append_assoc)
