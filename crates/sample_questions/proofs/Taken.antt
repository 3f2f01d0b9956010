-- The index that is taken from what the two sides count is the rule's.
use Prim.Native.Nat.{ℕ, ◌%◌, ◌^◌, ◌≤◌}
use native.Mathlib.Omega.{arith}
use native.Mathlib.Nat.{mod-eq_of_lt}
use mathlib.Core.Path.{◌≡◌, refl, ap, ◌∙◌}
use mathlib.Core.List.{List}
use mathlib.Core.Bool.{not}
use lib.ListN.{length}
use Rattle.rules.specs.declared.Opening.{Opening}
use Rattle.rules.specs.declared.Index.{Index}
use Rattle.rules.specs.Capture.{units}
use Rattle.rules.specs.Changes.{repeats}
use Rattle.rules.specs.Seal.{reduced, unrepeated, index_from, index}
use Rattle.rules.proofs.Laws.Lists.{count-few}
use Rattle.luma_laws.proofs.Counted.{reduced-length}
use Rattle.luma_laws.proofs.Scenes.{pictures-most}
use Rattle.index.specs.Counts.{Counts, IndexFrom}
use Rattle.index.proofs.Taken.{index_is}
use Rattle.luma_laws.proofs.Past.{length-repeats}
use Rattle.capture_steps.specs.Format.{whole_cells}
use Rattle.capture_units.specs.Units.{of_pid, units_of, units_in}
use Rattle.capture_laws.proofs.UnitsMore.{all_packets, all_lost}
use Rattle.capture_units.proofs.More.{packets-some, cells-total, lost-small}
use Rattle.capture_units.proofs.Laws.{units-cells}
use Rattle.capture.specs.declared.Summary.{Summary}
use Rattle.capture.specs.Contract.{Figures}
use Rattle.luma.specs.declared.Summary as of-luma
use Rattle.luma.specs.Contract.{Known}
use Rattle.sample_questions.specs.Contract.{IndexIn}

-- of equal counts
pub index-by : {u u' n n' p p' l l' : ℕ} {i : Index} → u ≡ u' → n ≡ n' → p ≡ p' → l ≡ l' → IndexFrom u n p l i →
    IndexFrom u' n' p' l' i
index-by a b c d h = rw (← a, ← b, ← c, ← d) h

-- where no refusal stands, and there is a packet and a picture, it is the rule's
pub index-is-rule : (table luma : List ℕ) (o : Opening) (fed_capture fed_luma : List ℕ) (c : Summary)
    (l : of-luma.Summary) →
    Figures table o fed_capture c → Known luma o fed_luma l → 1 ≤ c.units → 1 ≤ l.pictures →
    (i : Index) → IndexIn c l i → i ≡ index o fed_capture fed_luma
unfolding index index_from unrepeated
index-is-rule table luma o fed_capture fed_luma c l fig k some-units some_pictures i e =
    let ps = of_pid o.edition o.pid (whole_cells fed_capture) in
    let us : units o fed_capture ≡ units_of ps = units-cells o fed_capture ∙ unfold units_in in refl in
    let few = fig.few in
    let fm : l.pictures ≤ 750 = omega (arith, k.pictures, pictures-most o fed_luma) in
    let few-fresh : l.fresh ≤ l.pictures =
    omega (
      arith,
      k.fresh,
      count-few not (repeats (reduced o fed_luma)),
      length-repeats (reduced o fed_luma),
      reduced-length o
          fed_luma,
      k.pictures,
    ) in
    let packets : c.packets ≡ all_packets (units_of ps) = fig.packets ∙ ap all_packets us in
    let all = cells-total ps in
    let lost : c.lost ≡ all_lost (units_of ps) = fig.lost ∙ ap all_lost us in
    let lo = lost-small ps in
    let g₁ : l.fresh % 2 ^ 32 ≡ l.fresh = mod-eq_of_lt (omega arith) in
    let g₂ : l.pictures % 2 ^ 32 ≡ l.pictures = mod-eq_of_lt (omega arith) in
    let g₃ : c.packets % 2 ^ 32 ≡ c.packets = mod-eq_of_lt (omega arith) in
    let g₄ : c.lost % 2 ^ 32 ≡ c.lost = mod-eq_of_lt (omega arith) in
    let e' = rw (g₁, g₂, g₃, g₄) at e in
    let some = packets-some ps (omega (arith, fig.units, ap length us)) in
    let counts : Counts l.fresh l.pictures c.packets c.lost = record {
      some_pictures = some_pictures;
      of_them = few-fresh;
      some_packets = omega arith;
      few_pictures = omega arith;
      few_packets = omega arith;
      few_lost = omega arith;
    } in
    index_is counts e' ∙ rw (k.fresh, k.pictures, fig.packets, fig.lost)
