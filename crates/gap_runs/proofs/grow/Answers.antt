use Prim.Native.Nat.{ℕ, ◌+◌, ◌-◌, ◌<◌}
use native.Mathlib.Omega.{arith}
use mathlib.Core.Path.{◌≡◌, sym, ap, ◌∙◌}
use mathlib.Core.List.{List}
use lib.ListN.{set}
use Rattle.gap_runs.proofs.Filling.{partly, none-new, all_new, partly-small, newer}
use Rattle.gap_runs.proofs.grow.Goals as goal

-- l is one above the entry that is next

held : (l : ℕ) (ys zs : List ℕ) → 0 < l → zs ≡ partly l ys → zs ≡ partly (l - 1 + 1) ys
held l ys zs h e = let more : l ≡ l - 1 + 1 = omega arith in e ∙ ap (λ (k : ℕ). partly k ys) more

pub loop-l-init : goal.loop-l-init
loop-l-init c = sym (none-new c.args.entries.now)

pub one_more-requires : goal.one_more-requires
one_more-requires c =
    let at = c.loop-l in let ys = c.args.entries.now in
    rw (held at.l ys at.entries (omega arith) at.invariant)
    (partly-small (at.l - 1) ys (omega arith) c.requires)

pub loop-l-preserved : goal.loop-l-preserved
loop-l-preserved c =
    let at = c.loop-l in
    let ys = c.args.entries.now in
    let here = held at.l ys at.entries (omega arith) at.invariant in
    ap (set at.entries (at.l - 1)) c.one_more.ensures ∙ rw here (newer (at.l - 1) ys (omega arith))

pub returns : goal.returns
returns c =
    let at = c.loop-l in
    let end : at.l ≡ 0 = omega arith in
    rw end at at.invariant ∙ all_new c.args.entries.now
