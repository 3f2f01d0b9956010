-- `write` meets its contract: where nothing but a short buffer can refuse, the guards for other states never hold, and
-- the record is the rules'.
use native.Mathlib.Omega.{arith}
use mathlib.Core.Path.{refl, ap}
use Rattle.rules.specs.declared.Header.{Header}
use Rattle.rules.specs.Record.{record_length}
use Rattle.sample_seal.proofs.Writing.{few-units, few_pictures, too_short, written-post}
use Rattle.sample_seal.proofs.Sealing.{refused-leaves, done-leaves}
use Rattle.sample_seal.proofs.write.Goals as goal

pub returns-then-c-gt750 : goal.returns-then-c-gt750
returns-then-c-gt750 c =
    record {
      rule = λ fc fl r. absurd (omega (arith, few-units _ _ _ _ _ _ _ r));
      refusals = refused-leaves _ _ 12 0 refl;
    }

pub returns-then-l-gt750 : goal.returns-then-l-gt750
returns-then-l-gt750 c =
    record {
      rule = λ fc fl r. absurd (omega (arith, few_pictures _ _ _ _ _ _ _ r));
      refusals = refused-leaves _ _ 14 0 refl;
    }

pub returns-then-buffer-size : goal.returns-then-buffer-size
returns-then-buffer-size c =
    rw c.no_room.ensures
    (record {
      rule = λ fc fl r. too_short _ _ _ fc fl _ _ r c.count-scenes.result
          c.count-scenes.ensures _ _ c.if-buffer-size.true refl;
      refusals = refused-leaves _ _ 15 _ refl;
    })

pub header_of-h-requires : goal.header_of-h-requires
header_of-h-requires c = c.index_in-i.ensures.numbers.value

pub write_record-requires : goal.write_record-requires
unfolding record_length
write_record-requires c =
    let h = c.header_of-h.ensures in
    let u = ap (λ (x : Header). x.units) h in
    let n = ap (λ (x : Header). x.scenes) h in
    omega arith

pub returns : goal.returns
returns c =
    record {
      rule = λ fc fl r. written-post _ _ _ fc fl _ _ r c.count-scenes.result c.count-scenes.ensures _ _
          c.header_of-h.result _ _ c.index_in-i.ensures
          c.header_of-h.ensures c.write_record.ensures
          c.if-buffer-size.false refl;
      refusals = done-leaves _ _ _ _ refl;
    }
