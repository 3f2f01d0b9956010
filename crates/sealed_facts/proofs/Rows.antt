-- The rows of a sealed record, added up.
use Prim.Native.Nat.{ℕ}
use native.Mathlib.Nat.{zero-add}
use mathlib.Core.Path.{◌≡◌, sym, ap, ◌∙◌}
use mathlib.Core.List.{List, map}
use lib.ListN.{length}
use Rattle.rules.specs.declared.Header.{Header}
use Rattle.rules.specs.declared.UnitRow.{UnitRow}
use Rattle.rules.specs.declared.SceneRow.{SceneRow}
use Rattle.rules.specs.Bytes.{word32, total, table}
use Rattle.rules.specs.Record.{record_bytes}
use Rattle.rules.specs.Reading.{header_of, unit_at, scene_at}
use Rattle.record_laws.proofs.Record.{Figures, header_read, unit-read, scene-read}
use Rattle.reader_facts.proofs.Rows.{table-list, units-told}
use Rattle.record_verify.specs.Totals.{repeated_total, packets_total, lost_total, damaged_total}

-- of a record that was made of figures which fit
module _ (h : Header) (us : List UnitRow) (ss : List SceneRow) (f : Figures h us ss) where
  abbrev made : List ℕ
  made = record_bytes h us ss

  pub scenes-are : word32 made 16 ≡ length ss
  scenes-are =
      let e : word32 made 16 ≡ h.scenes = unfold header_of in ap (λ (x : Header). x.scenes) (header_read h us ss f) in
      e ∙ sym f.scenes

  -- a figure of every row, added up
  unit-sum : (g : UnitRow → ℕ) → total (table (word32 made 8) 0 (λ j. g (unit_at made j))) ≡ total (map g us)
  unit-sum g =
      rw (units-told h us ss f)
      (ap total
      (table-list g (λ j. g (unit_at made j)) 0 us (λ j z k. rw (zero-add j) (ap g (unit-read h us ss f j z k)))))

  scene-sum : (g : SceneRow → ℕ) → total (table (word32 made 16) 0 (λ j. g (scene_at made j))) ≡ total (map g ss)
  scene-sum g =
      rw scenes-are
      (ap total
      (table-list g (λ j. g (scene_at made j)) 0 ss (λ j z k. rw (zero-add j) (ap g (scene-read h us ss f j z k)))))

  pub packets-are : packets_total made ≡ total (map (λ (u : UnitRow). u.packets) us)
  unfolding packets_total
  packets-are = unit-sum (λ (u : UnitRow). u.packets)

  pub lost-are : lost_total made ≡ total (map (λ (u : UnitRow). u.lost) us)
  unfolding lost_total
  lost-are = unit-sum (λ (u : UnitRow). u.lost)

  pub repeated-are : repeated_total made ≡ total (map (λ (s : SceneRow). s.repeated) ss)
  unfolding repeated_total
  repeated-are = scene-sum (λ (s : SceneRow). s.repeated)

  pub damaged-are : damaged_total made ≡ total (map (λ (u : UnitRow). u.damaged) us)
  unfolding damaged_total
  damaged-are = unit-sum (λ (u : UnitRow). u.damaged)
