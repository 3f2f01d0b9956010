-- `carolsedge_verify` meets its contract, by the three cases of a verdict. Assumes nothing.
use mathlib.Core.Path.{ap, ◌∙◌}
use Rattle.std.specs.Prelude.{Ok}
use Rattle.c_record.proofs.Answers.{verdict-numbers, verdict-could, verdict-could-not, verdict-refused}
use Rattle.c_record.proofs.carolsedge_verify.Goals as goal

pub put_reached-requires : goal.put_reached-requires
put_reached-requires c =
    let could = c.in-Ok-CouldBeSealed in
    verdict-numbers _ c.args.verdict.now _ c.verify.ensures (λ k. (c.type_inv.bytes k).fits) _
    (could.is ∙ ap Ok could.field-0-is)

pub returns-in-Ok-CouldBeSealed : goal.returns-in-Ok-CouldBeSealed
returns-in-Ok-CouldBeSealed c =
    let could = c.in-Ok-CouldBeSealed in
    verdict-could _ _ _ c.verify.ensures _ _ (could.is ∙ ap Ok could.field-0-is) c.put_reached.ensures

pub returns-in-Ok-CouldNotBeSealed : goal.returns-in-Ok-CouldNotBeSealed
returns-in-Ok-CouldNotBeSealed c =
    let could-not = c.in-Ok-CouldNotBeSealed in
    verdict-could-not _ _ _ c.verify.ensures _ _ (could-not.is ∙ ap Ok could-not.field-0-is) c.put_failing.ensures

pub returns-in-Err : goal.returns-in-Err
returns-in-Err c = verdict-refused _ _ _ c.verify.ensures _ _ c.in-Err.is c.listed_number.ensures
