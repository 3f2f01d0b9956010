-- What stands in a sealed record's words: the rows' words added up, and the rows' bytes.
use Prim.Native.Nat.{ℕ, suc, ◌+◌, ◌*◌, ◌<◌}
use native.Mathlib.Omega.{arith}
use native.Mathlib.Nat.{zero-add}
use mathlib.Core.Path.{◌≡◌, refl, sym, ap, ◌∙◌}
use mathlib.Core.List.{List, [], ◌∷◌, ◌++◌, map}
use lib.ListN.{length, take, drop, get_or}
use lib.Seq.{drop_at}
use Rattle.rules.specs.declared.Header.{Header}
use Rattle.rules.specs.declared.UnitRow.{UnitRow}
use Rattle.rules.specs.declared.SceneRow.{SceneRow}
use Rattle.rules.specs.Bytes.{word32, total, table, end_to_end}
use Rattle.rules.specs.Record.{header_bytes, unit_bytes, scene_bytes, record_bytes}
use Rattle.rules.specs.Reading.{header_of, unit_place, unit_in, unit_at}
use Rattle.record_laws.proofs.Words.{word32-drop}
use Rattle.record_laws.proofs.Record.{Figures, unit-read, length-header, length-unit, length-rows, parts-of}
use Rattle.record_laws.proofs.Record.{header_read}
use Rattle.reader_facts.specs.Facts.{unit_words, unit_rows}

-- a table whose entries are those of a list
module _ {A : Type 0} (g : A → ℕ) where
  pub table-list : (f : ℕ → ℕ) (from : ℕ) (xs : List A) →
      ((j : ℕ) (z : A) → j < length xs → f (from + j) ≡ g (get_or xs j z)) → table (length xs) from f ≡ map g xs
  unfolding table
  table-list f from [] h = refl
  table-list f from (x ∷ xs) h =
      let a : f from ≡ g x = rw (sym (add_none from)) (h 0 x (omega arith)) in
      rw (a, table-list f (suc from) xs (λ j z k. ap f (add-more from j) ∙ h (suc j) z (omega arith)))
    where
      add_none : (n : ℕ) → n + 0 ≡ n
      add_none n = omega arith

      add-more : (n j : ℕ) → suc n + j ≡ n + suc j
      add-more n j = omega arith

-- of a record that was made of figures which fit
module _ (h : Header) (us : List UnitRow) (ss : List SceneRow) (f : Figures h us ss) where
  abbrev made : List ℕ
  made = record_bytes h us ss

  pub units-told : word32 made 8 ≡ length us
  units-told =
      let e : word32 made 8 ≡ h.units = unfold header_of in ap (λ (x : Header). x.units) (header_read h us ss f) in
      e ∙ sym f.units

  word_at : (j k : ℕ) → word32 made (64 + 32 * j + k) ≡ word32 (drop (unit_place j) made) k
  unfolding unit_place
  word_at j k = sym (word32-drop (64 + 32 * j) made k)

  -- word k of all rows, where it is the figure g of a row
  words-told : (k : ℕ) (g : UnitRow → ℕ) →
      ((j : ℕ) (z : UnitRow) → j < length us → word32 (drop (unit_place j) made) k ≡ g (get_or us j z)) →
      unit_words made k ≡ total (map g us)
  unfolding unit_words
  words-told k g h =
      rw units-told
      (ap total
      (table-list g (λ j. word32 made (64 + 32 * j + k)) 0 us (λ j z l. rw (zero-add j) (word_at j k ∙ h j z l))))

  pub packets-words : unit_words made 20 ≡ total (map (λ (u : UnitRow). u.packets) us)
  packets-words = words-told 20 (λ (u : UnitRow). u.packets) at_row
    where
      at_row : (j : ℕ) (z : UnitRow) → j < length us → word32 (drop (unit_place j) made) 20 ≡ (get_or us j z).packets
      at_row j z k = unfold unit_at unit_in in ap (λ (u : UnitRow). u.packets) (unit-read h us ss f j z k)

  pub damaged-words : unit_words made 28 ≡ total (map (λ (u : UnitRow). u.damaged) us)
  damaged-words = words-told 28 (λ (u : UnitRow). u.damaged) at_row
    where
      at_row : (j : ℕ) (z : UnitRow) → j < length us → word32 (drop (unit_place j) made) 28 ≡ (get_or us j z).damaged
      at_row j z k = unfold unit_at unit_in in ap (λ (u : UnitRow). u.damaged) (unit-read h us ss f j z k)

  pub rows-bytes : unit_rows made ≡ end_to_end (map unit_bytes us)
  unfolding unit_rows
  rows-bytes =
      rw (
        units-told,
        parts-of h us ss,
        drop_at (header_bytes h) (end_to_end (map unit_bytes us) ++ end_to_end (map scene_bytes ss)) 64
            (length-header h),
        ← length-rows unit_bytes length-unit us,
      )
      (take-front (end_to_end (map unit_bytes us)) (end_to_end (map scene_bytes ss)))
    where
      take-front : (xs ys : List ℕ) → take (length xs) (xs ++ ys) ≡ xs
      take-front [] ys = refl
      take-front (x ∷ xs) ys = ap (λ (r : List ℕ). x ∷ r) (take-front xs ys)
