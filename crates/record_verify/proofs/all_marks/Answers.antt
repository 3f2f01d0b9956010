-- `all_marks` meets its contract: each part is asked, and the first that fails is answered. Assumes nothing.
use native.Mathlib.Omega.{arith}
use Rattle.record_verify.specs.Marks.{checks}
use Rattle.record_verify.proofs.Answers.{first-fails, second-fails, third-fails, fourth-says}
use Rattle.record_verify.proofs.Accepted.{taken, units-there, scenes-there, header-asked, header-found, index-found}
use Rattle.record_verify.proofs.Bound.{rows-numbers}
use Rattle.record_verify.proofs.all_marks.Goals as goal

pub header_figures-h-requires : goal.header_figures-h-requires
header_figures-h-requires c = omega (arith, (taken c.args.bytes.now _ _ c.requires.counts c.requires.allowed).size)

pub header_marks-requires : goal.header_marks-requires
header_marks-requires c =
    header-asked c.args.bytes.now _ _ c.requires.counts c.requires.allowed _ c.header_figures-h.ensures _
    c.requires.of_its_rows.0 _
    (omega (arith, c.requires.of_its_rows.0.few_packets, c.requires.of_its_rows.0.few_damaged))

pub returns-in_err-header_marks : goal.returns-in_err-header_marks
unfolding checks
returns-in_err-header_marks c =
    let found = header-found c.args.bytes.now _ _ c.requires.counts c.requires.allowed _ c.header_figures-h.ensures _
    c.requires.of_its_rows.0 c.header_marks.ensures in
    first-fails _ _ _ _ found _ c.in_err-header_marks.was c.from_residual.ensures.1

pub units_marks-requires-clause-room : goal.units_marks-requires-clause-room
units_marks-requires-clause-room c = units-there c.args.bytes.now _ _ c.requires.counts c.requires.allowed

pub returns-in_err-units_marks : goal.returns-in_err-units_marks
unfolding checks
returns-in_err-units_marks c =
    let found = header-found c.args.bytes.now _ _ c.requires.counts c.requires.allowed _ c.header_figures-h.ensures _
    c.requires.of_its_rows.0 c.header_marks.ensures in
    second-fails _ _ _ _ found c.in_ok-header_marks.was c.units_marks.ensures _ c.in_err-units_marks.was
    c.from_residual-in_err-units_marks.ensures.1

pub scenes_marks-requires-clause-room : goal.scenes_marks-requires-clause-room
scenes_marks-requires-clause-room c = scenes-there c.args.bytes.now _ _ c.requires.counts c.requires.allowed

pub returns-in_err-scenes_marks : goal.returns-in_err-scenes_marks
unfolding checks
returns-in_err-scenes_marks c =
    let found = header-found c.args.bytes.now _ _ c.requires.counts c.requires.allowed _ c.header_figures-h.ensures _
    c.requires.of_its_rows.0 c.header_marks.ensures in
    third-fails _ _ _ _ found c.in_ok-header_marks.was c.units_marks.ensures c.in_ok-units_marks.was
    c.scenes_marks.ensures _ c.in_err-scenes_marks.was c.from_residual-in_err-scenes_marks.ensures.1

pub index_bits-requires : goal.index_bits-requires
index_bits-requires c =
    let r = c.args.bytes.now in
    rw c.requires.of_its_rows.1
    (rows-numbers r (λ i. (c.type_inv.bytes i).fits) c.requires.allowed).value

pub returns : goal.returns
unfolding checks
returns c =
    let r = c.args.bytes.now in
    let found = header-found r _ _ c.requires.counts c.requires.allowed _ c.header_figures-h.ensures _
    c.requires.of_its_rows.0 c.header_marks.ensures in
    let bits = index-found r _ _ c.requires.counts c.requires.allowed _ c.header_figures-h.ensures _
    c.requires.of_its_rows.0 _ _ c.requires.of_its_rows.1 c.index_bits.ensures c.exactly.ensures in
    fourth-says _ _ _ _ found c.in_ok-header_marks.was c.units_marks.ensures c.in_ok-units_marks.was
    c.scenes_marks.ensures c.in_ok-scenes_marks.was bits
