use native.Mathlib.Omega.{arith}
use Rattle.luma_blocks.proofs.Rows.{going-none}
use Rattle.luma_blocks.proofs.feed_rows.Goals as goal

pub loop-p-init : goal.loop-p-init
loop-p-init c = going-none _ _ _ _ _ _ _ (omega arith) (omega arith)

pub take_some-p-requires : goal.take_some-p-requires
take_some-p-requires c =
    let p = c.requires in
    let l = c.loop-p in (
      record {
        some = p.some;
        few = p.few;
        room = p.room;
        wide = p.wide;
        above = omega (arith, l.invariant.below);
        left = l.invariant.left;
      },
      omega arith,
    )

pub loop-p-smaller : goal.loop-p-smaller
loop-p-smaller c = omega (arith, c.take_some-p.ensures.some)

pub loop-p-preserved : goal.loop-p-preserved
loop-p-preserved c = c.take_some-p.ensures.goes _ _ _ c.loop-p.invariant

pub returns-else-p-shape : goal.returns-else-p-shape
returns-else-p-shape c = record { going = c.loop-p.invariant; all = λ h. omega arith }

pub returns-after-loop-p : goal.returns-after-loop-p
returns-after-loop-p c = record { going = c.loop-p.invariant; all = λ h. omega arith }
