-- `take` meets its contract, event by event.
use mathlib.Core.Path.{refl}
use Rattle.capture.proofs.Taking.{take-nothing, take-shown, take_whole, take_cells, take-refused}
use Rattle.capture.proofs.take.Goals as goal

pub returns-in-Nothing : goal.returns-in-Nothing
returns-in-Nothing c o kept before chunk st te v = take-nothing v (rw c.in-Nothing.is at te)

pub returns-in-Shown : goal.returns-in-Shown
returns-in-Shown c o kept before chunk st te v =
    let x = rw c.in-Shown.is at te in
    take-shown v _ (search) (rw c.in-Shown.is at c.requires).1 x.0 x.1

pub returns-in-Whole : goal.returns-in-Whole
returns-in-Whole c o kept before chunk st te v =
    let x = rw c.in-Whole.is at te in
    take_whole v _ (search) x.0 x.1

pub add_run-requires : goal.add_run-requires
add_run-requires c = rw c.in-Cells.is at c.requires

pub returns-in-Cells : goal.returns-in-Cells
returns-in-Cells c o kept before chunk st te v =
    let x = rw c.in-Cells.is at te in
    take_cells v _ c.add_run.ensures x.0 x.1

pub returns-in-Refused : goal.returns-in-Refused
returns-in-Refused c o kept before chunk st te v =
    let x = rw c.in-Refused.is at te in
    take-refused kept chunk _ v st x.0 x.1 refl refl
