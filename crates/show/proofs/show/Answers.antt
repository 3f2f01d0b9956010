-- `show` is safe: what opening the record says bounds its rows.
use Rattle.std.proofs.Common.{arith}
use Rattle.record_reader.proofs.Answers.{accepted}
use Rattle.show.proofs.show.Goals as goal

pub header_figures-requires : goal.header_figures-requires
header_figures-requires g c =
    omega (arith, (accepted c.args.bytes.now _ c.«open».ensures _ _ c.in-Ok.is).size)

pub show_units-requires : goal.show_units-requires
show_units-requires g c =
    omega (arith, (accepted c.args.bytes.now _ c.«open».ensures _ _ c.in-Ok.is).size)

pub show_scenes-requires : goal.show_scenes-requires
show_scenes-requires g c =
    let a = accepted c.args.bytes.now _ c.«open».ensures _ _ c.in-Ok.is in
    (a.units, omega (arith, a.size))
