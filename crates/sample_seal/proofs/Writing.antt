-- The record that a seal writes: its header and rows are the rules', and so is its length.
use Prim.Native.Nat.{ℕ, ◌+◌, ◌*◌, ◌^◌, ◌≤◌, ◌<◌}
use native.Mathlib.Omega.{arith}
use mathlib.Core.Path.{◌≡◌, refl, sym, ap, subst, ◌∙◌}
use mathlib.Core.List.{List, map}
use mathlib.Core.Bool.{Bool}
use lib.ListN.{length}
use borrow.Author.Tests.{lt-ltb, le-ltb}
use Rattle.rules.specs.declared.Opening.{Opening}
use Rattle.std.specs.Prelude.{Ok}
use Rattle.rules.specs.Refusals.{Answer, refused, none, fault}
use Rattle.rules.specs.declared.Header.{Header}
use Rattle.rules.specs.declared.Index.{Index}
use Rattle.rules.specs.declared.UnitRow.{UnitRow}
use Rattle.rules.specs.declared.SceneRow.{SceneRow}
use Rattle.rules.specs.Editions.{rounds_to_nearest}
use Rattle.rules.specs.Capture.{units}
use Rattle.rules.specs.Pictures.{picture_count}
use Rattle.rules.specs.Histograms.{histograms}
use Rattle.rules.specs.Cuts.{cut_scores}
use Rattle.rules.specs.Changes.{repeats, changes}
use Rattle.rules.specs.Scenes.{scenes_of}
use Rattle.rules.specs.Index.{index_bits}
use Rattle.rules.specs.Record.{record_length, record_bytes}
use Rattle.rules.specs.Seal.{reduced, scenes_in, scenes, header, sealed, sealed_length, over, no_room, seal_fault}
use Rattle.rules.specs.Seal.{seal_answer, sealed_buffer}
use Rattle.rules.specs.Calls.{seal, sealed_into, answer_to}
use Rattle.luma_laws.proofs.Sizes.{good}
use Rattle.luma_laws.proofs.Scenes.{pictures-most}
use Rattle.luma_scenes.specs.Words.{Holds}
use Rattle.luma_scenes.specs.Contract.{CountPost}
use Rattle.luma_scenes.proofs.Sample.{sample-holds}
use Rattle.sealing.specs.Contract.{RecordWritten}
use Rattle.capture_cells.specs.declared.Cell.{Cell}
use Rattle.capture_steps.specs.Format.{whole_cells}
use Rattle.capture_units.specs.Units.{of_pid, units_of, units_in}
use Rattle.capture_units.proofs.Laws.{units-cells}
use Rattle.capture.specs.declared.Summary.{Summary}
use Rattle.luma.specs.declared.Summary as of-luma
use Rattle.sample_questions.specs.Contract.{IndexIn}
use Rattle.sample_questions.proofs.Taken.{index-is-rule}
use Rattle.sample_seal.specs.Contract.{header_by, Ready}

both : {a b : Answer ℕ} {x y : List ℕ} → a ≡ b → x ≡ y → sealed_into a x ≡ sealed_into b y
both e f = cc

-- every picture's cut score, repeat and change
abbrev scores_of : Opening → List ℕ → List ℕ
scores_of o fed_luma = cut_scores (map (histograms o) (reduced o fed_luma))

abbrev repeats_of : Opening → List ℕ → List Bool
repeats_of o fed_luma = repeats (reduced o fed_luma)

abbrev changes_of : Opening → List ℕ → List ℕ
changes_of o fed_luma = changes (rounds_to_nearest o.edition) (reduced o fed_luma)

module _ (table luma : List ℕ) (o : Opening) (fed_capture fed_luma : List ℕ) (c : Summary) (l : of-luma.Summary)
    (r : Ready table luma o fed_capture fed_luma c l) where
  abbrev pictures : ℕ
  pictures = l.pictures

  opened-well : o.time < 2 ^ 32
  opened-well = omega (arith, (good o r.known.opened).time_high)

  pictures-are : pictures ≡ picture_count o fed_luma
  pictures-are = r.known.pictures

  holds : Holds luma pictures (scores_of o fed_luma) (repeats_of o fed_luma) (changes_of o fed_luma)
  holds =
      let w = r.known.words in
      rw pictures-are
      (sample-holds (rounds_to_nearest o.edition) o fed_luma luma r.known.opened r.known.bytes
      w.scores w.changes w.repeats)

  scenes-are : scenes o fed_luma
      ≡ scenes_of o.time (scores_of o fed_luma) (repeats_of o fed_luma) (changes_of o fed_luma)
  unfolding scenes scenes_in
  scenes-are = refl

  abbrev cells : List Cell
  cells = of_pid o.edition o.pid (whole_cells fed_capture)

  units-are : units o fed_capture ≡ units_of cells
  units-are = units-cells o fed_capture ∙ unfold units_in in refl

  pub few-units : c.units ≤ 750
  few-units =
      let t = r.figures.table.few in
      omega (arith, r.figures.units, ap length units-are)

  pub few_pictures : pictures ≤ 750
  few_pictures = omega (arith, pictures-are, pictures-most o fed_luma)

  module _ (n : ℕ) (k : CountPost luma pictures o.time n) where
    count-is : n ≡ length (scenes o fed_luma)
    count-is = k.scenes (scores_of o fed_luma) (repeats_of o fed_luma) (changes_of o fed_luma) holds opened-well
        ∙ ap length (sym scenes-are)

    pub size_is : 64 + 32 * (c.units + n) ≡ sealed_length o fed_capture fed_luma
    unfolding sealed_length record_length
    size_is = rw (r.figures.units, count-is)

    pub too_short : (before : List ℕ) (a : Answer ℕ) → length before < 64 + 32 * (c.units + n) →
        a ≡ refused 15 (64 + 32 * (c.units + n)) →
        sealed_into a before ≡ answer_to o fed_capture fed_luma (seal before)
    unfolding seal_answer sealed_buffer no_room
    too_short before a h e =
        let f : seal_fault o fed_capture fed_luma (length before) ≡ fault 15 (64 + 32 * (c.units + n)) =
        r.free (length before) ∙ rw (sym size_is, lt-ltb (length before) (64 + 32 * (c.units + n)) h) in
        rw f (ap (λ (x : Answer ℕ). sealed_into x before) e)

    -- ---- the header

    pub header_is : (h : Header) (i : Index) → IndexIn c l i → h ≡ header_by o c pictures n (index_bits i) →
        h ≡ header o fed_capture fed_luma
    unfolding header
    header_is h i e g =
        let x = index-is-rule table luma o fed_capture fed_luma c l r.figures r.known r.units r.some i e in
        g ∙ rw (x, r.figures.units, count-is, pictures-are, r.figures.frames, r.figures.skipped, r.figures.bad)

    record_is : (before after : List ℕ) → RecordWritten table luma (header o fed_capture fed_luma) before after →
        after ≡ over (record_bytes (header o fed_capture fed_luma) (units o fed_capture) (scenes o fed_luma)) before
    unfolding header
    record_is before after w =
        let there = subst (λ (x : ℕ). Holds luma x (scores_of o fed_luma) (repeats_of o fed_luma)
        (changes_of o fed_luma))
        pictures-are holds in
        let hd = header o fed_capture fed_luma in
        w r.figures.beside cells (scores_of o fed_luma) (repeats_of o fed_luma) (changes_of o fed_luma)
        r.figures.table r.figures.few there opened-well (ap length units-are) (ap length scenes-are)
        ∙ ap (λ (us : List UnitRow). over (record_bytes hd us
        (scenes_of o.time (scores_of o fed_luma) (repeats_of o fed_luma) (changes_of o fed_luma))) before)
        (sym units-are)
        ∙ ap (λ (xs : List SceneRow). over (record_bytes hd (units o fed_capture) xs) before) (sym scenes-are)

    pub written-post : (before after : List ℕ) (h : Header) (i : Index) (a : Answer ℕ) → IndexIn c l i →
        h ≡ header_by o c pictures n (index_bits i) → RecordWritten table luma h before after →
        64 + 32 * (c.units + n) ≤ length before → a ≡ Ok (64 + 32 * (c.units + n)) →
        sealed_into a after ≡ answer_to o fed_capture fed_luma (seal before)
    unfolding seal_answer sealed_buffer no_room sealed
    written-post before after h i a e g w room d =
        let f : seal_fault o fed_capture fed_luma (length before) ≡ none =
        r.free (length before) ∙ rw (sym size_is, le-ltb (length before) (64 + 32 * (c.units + n)) room) in
        let x = header_is h i e g in
        let w' : RecordWritten table luma (header o fed_capture fed_luma) before after = rw x at w in
        let b = record_is before after w' in
        rw f (both (d ∙ ap Ok size_is) b)
