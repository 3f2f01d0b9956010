use native.Mathlib.Omega.{arith}
use mathlib.Core.Path.{refl}
use Rattle.rules.specs.Rtp.{rtp_units_in}
use Rattle.rtp_units.proofs.Room.{too_short, long-enough}
use Rattle.rtp_units.specs.Units.{told}
use Rattle.rtp_units.proofs.put_units.Goals as goal

pub returns-then-buffer-needed : goal.returns-then-buffer-needed
returns-then-buffer-needed c =
    let a = c.args in
    let l = told a.lists.now in
    rw c.no_room.ensures (too_short (rtp_units_in l a.rows.now) a.buffer.now c.count_units-units.result
    (c.count_units-units.ensures.1 l refl) c.if-buffer-needed.true)

pub write_units-requires : goal.write_units-requires
write_units-requires c =
    let a = c.args in
    let l = told a.lists.now in
    record {
      stayed = c.requires.stayed;
      room = omega (arith, c.count_units-units.ensures.1 l refl);
    }

pub returns : goal.returns
returns c =
    let a = c.args in
    let l = told a.lists.now in
    let n = c.count_units-units in
    long-enough (rtp_units_in l a.rows.now) a.buffer.now n.result (n.ensures.1 l refl)
    c.if-buffer-needed.false _ c.write_units.ensures
