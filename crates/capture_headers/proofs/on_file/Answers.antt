use Prim.{tt}
use native.Mathlib.Omega.{arith}
use mathlib.Core.Path.{refl, ap, ◌∙◌, sym}
use Rattle.capture_steps.specs.declared.types.Walk.{Walk}
use Rattle.capture_steps.proofs.Front.{placed}
use Rattle.capture_steps.proofs.Files.{file-on, file-bad-magic, file-bad-link}
use Rattle.capture_steps.proofs.Pieces.{at_head}
use Rattle.capture_headers.proofs.on_file.Goals as goal
use Rattle.capture_headers.proofs.on_file.Goals.{else-walk-eq4-via-else-walk-eq4}
use Rattle.capture_headers.proofs.on_file.Goals.{else-walk-eq4-via-then-walk-eq4+else-not-is_magic}
use Rattle.capture_headers.proofs.on_file.Goals.{else-walk-eq24-via-else-walk-eq24}
use Rattle.capture_headers.proofs.on_file.Goals.{else-walk-eq24-via-then-walk-eq24+else-link_of-ne1}

pub returns-then-not-is_magic : goal.returns-then-not-is_magic
returns-then-not-is_magic c =
    rw c.step.ensures (record {
      taken = refl;
      fits = λ piece. tt;
      goes = λ piece joined st. let k = c.requires in let t = c.args.part.now in
          let u = at_head k.clear (omega arith) st in
          file-bad-magic u _ _ t _ _ k.some (placed u.room c.carry.ensures)
          k.magic k.header c.if-walk-eq4.true c.is_magic.ensures
          c.if-not-is_magic.true (ap (λ (x : Walk). x.status) c.refused.ensures)
          (ap (λ (x : Walk). x.place) c.refused.ensures);
    })

pub returns-then-link_of-ne1 : goal.returns-then-link_of-ne1
returns-then-link_of-ne1 c =
    rw c.step-then-link_of-ne1.ensures (record {
      taken = refl;
      fits = λ piece. tt;
      goes = λ piece joined st. let k = c.requires in let t = c.args.part.now in
          let u = at_head k.clear (omega arith) st in
          file-bad-link u _ _ t _ _ k.some (placed u.room c.carry.ensures)
          k.magic k.header c.if-walk-eq24.true
          (λ z. c.if-link_of-ne1.true (c.link_of.ensures ∙ z))
          (ap (λ (x : Walk). x.status) c.refused-then-link_of-ne1.ensures)
          (ap (λ (x : Walk). x.place) c.refused-then-link_of-ne1.ensures);
    })

pub returns : goal.returns
returns c =
    rw c.step-2.ensures (record {
      taken = refl;
      fits = λ piece. tt;
      goes = λ piece joined st. let k = c.requires in let t = c.args.part.now in
          let u = at_head k.clear (omega arith) st in
          file-on u _ _ t _ _ k.some (placed u.room c.carry.ensures)
          k.magic k.header refl refl refl refl refl
          (λ h. elim c.else-walk-eq4.branch [
            | else-walk-eq4-via-then-walk-eq4+else-not-is_magic w ↦
                sym w.is_magic.ensures ∙ w.if-not-is_magic.false
            | else-walk-eq4-via-else-walk-eq4 w ↦ absurd (w.if-walk-eq4.false h)
          ])
          (λ h. elim c.else-walk-eq24.branch [
            | else-walk-eq24-via-then-walk-eq24+else-link_of-ne1 w ↦
                sym w.link_of.ensures ∙ w.if-link_of-ne1.false
            | else-walk-eq24-via-else-walk-eq24 w ↦ absurd (w.if-walk-eq24.false h)
          ]);
    })
