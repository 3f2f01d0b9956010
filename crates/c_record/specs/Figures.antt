-- What a reading leaves: its number, 0 where it is given, and no place, since all its refusals stand at 0; and in the
-- lent array the figures in document 01's order of the header and of the rows, or after a refusal what stood there. A
-- verdict likewise.
use Rattle.std.specs.Prelude.{ℕ, List, [], ◌∷◌, Ok, Err}
use Rattle.std.specs.Float.{binary64}
use Rattle.std.specs.Float.Ieee.{to_bits}
use Rattle.rules.specs.declared.Header.{Header}
use Rattle.rules.specs.declared.UnitRow.{UnitRow}
use Rattle.rules.specs.declared.SceneRow.{SceneRow}
use Rattle.rules.specs.Refusals.{Answer, listed}
use Rattle.record_verify.specs.declared.Reached.{Reached}
use Rattle.record_verify.specs.declared.Failing.{Failing}
use Rattle.record_verify.specs.declared.Verdict.{Verdict}
use Rattle.record_verify.specs.declared.Verdict.TheVariants as of-verdict

-- ---- the header

abbrev pub figures_of : Header → List ℕ
figures_of h =
    h.edition ∷ h.units ∷ h.scenes ∷ h.width ∷ h.height ∷ h.time ∷ h.pid ∷ h.pictures ∷ h.frames ∷ h.skipped
    ∷ h.bad ∷ h.index ∷ []

abbrev pub header_into : Answer Header → List ℕ → List ℕ
header_into (Ok h) old = figures_of h
header_into (Err e) old = old

-- ---- a unit's row

abbrev pub unit_figures : UnitRow → List ℕ
unit_figures u = u.least ∷ u.greatest ∷ u.size ∷ u.packets ∷ u.lost ∷ u.damaged ∷ []

abbrev pub unit_into : Answer UnitRow → List ℕ → List ℕ
unit_into (Ok u) old = unit_figures u
unit_into (Err e) old = old

-- ---- a scene's row

abbrev pub scene_figures : SceneRow → List ℕ
scene_figures s = s.first ∷ s.pictures ∷ s.repeated ∷ s.longest ∷ s.score ∷ s.peak ∷ s.change ∷ []

abbrev pub scene_into : Answer SceneRow → List ℕ → List ℕ
scene_into (Ok s) old = scene_figures s
scene_into (Err e) old = old

-- ---- a verdict

-- the number where a mark fails: no refusal, so none of the table's
abbrev pub not_sealed : ℕ
not_sealed = 100

abbrev pub verdict_number : Answer Verdict → ℕ
verdict_number (Ok (of-verdict.CouldBeSealed x)) = 0
verdict_number (Ok (of-verdict.CouldNotBeSealed f)) = not_sealed
verdict_number (Err e) = listed e.number

-- no mark; the totals of the rows, and the bits of the three f64 that they reach
abbrev pub reached_figures : Reached → List ℕ
reached_figures x =
    0 ∷ 0 ∷ 0 ∷ 0 ∷ x.unrepeated ∷ x.pictures ∷ x.packets ∷ x.lost ∷ to_bits binary64 x.index.ic
    ∷ to_bits binary64 x.index.ip ∷ to_bits binary64 x.index.value ∷ []

-- the mark that fails first, and no totals
abbrev pub failing_figures : Failing → List ℕ
failing_figures f = f.mark ∷ f.row ∷ f.found ∷ f.limit ∷ 0 ∷ 0 ∷ 0 ∷ 0 ∷ 0 ∷ 0 ∷ 0 ∷ []

abbrev pub verdict_into : Answer Verdict → List ℕ → List ℕ
verdict_into (Ok (of-verdict.CouldBeSealed x)) old = reached_figures x
verdict_into (Ok (of-verdict.CouldNotBeSealed f)) old = failing_figures f
verdict_into (Err e) old = old
