use Prim.Native.Nat.{ℕ, ◌+◌, ◌≤◌, ◌<◌}
use native.Mathlib.Omega.{arith}
use mathlib.Core.Path.{◌≡◌}
use mathlib.Core.Bool.{true}
use mathlib.Core.List.{List}
use lib.ListN.{length}
use Rattle.rules.specs.Shelf.{edge, record_count, head_length, laid_out, part, record_lost}
use Rattle.shelf.proofs.Steps.{lost-records, records-start, record-read, records-more, records-stop, records-end}
use Rattle.shelf.proofs.Steps.{lost-more, lost-end}
use Rattle.shelf.proofs.Laws.{laid_out_lem, part-inside, shelf-fits}
use Rattle.shelf.proofs.read_records.Goals as goal

-- the head is whole
headed : (s : List ℕ) (n : ℕ) → n ≡ record_count s → laid_out s ≡ true →
    (n ≡ record_count s) × (head_length n ≤ length s)
headed s n is-n laid = (is-n, omega (arith, is-n, (laid_out_lem s laid).head))

pub word32-records-requires : goal.word32-records-requires
word32-records-requires c = omega (arith, (laid_out_lem c.args.bytes.now c.requires).head)

-- record j has its part
inside : (s : List ℕ) (records j from to : ℕ) → records ≡ record_count s → laid_out s ≡ true → j < records →
    from ≡ edge s j → to ≡ edge s (j + 1) → (from < to) × (to ≤ length s)
inside s records j from to n laid h f t =
    let p = part-inside s (laid_out_lem s laid) j (omega (arith, n)) in
    (omega (arith, p.0, f, t), omega (arith, p.1, t))

pub loop-j-init : goal.loop-j-init
loop-j-init c =
    let s = c.args.bytes.now in let n = c.word32-records.ensures in
    (lost-records s _ n, records-start s _ n)

pub edge-start-requires : goal.edge-start-requires
edge-start-requires c = headed c.args.bytes.now _ c.word32-records.ensures c.requires

pub edge-end-requires : goal.edge-end-requires
edge-end-requires c = headed c.args.bytes.now _ c.word32-records.ensures c.requires

pub slice_bounds-read_record-count : goal.slice_bounds-read_record-count
slice_bounds-read_record-count c =
    let p = inside c.args.bytes.now c.word32-records.result c.loop-j.j _ _ c.word32-records.ensures c.requires c.loop-j-test.true
    c.edge-start.ensures c.edge-end.ensures in
    omega (arith, p.0)

pub slice_bounds-read_record-start : goal.slice_bounds-read_record-start
slice_bounds-read_record-start c =
    let p = inside c.args.bytes.now c.word32-records.result c.loop-j.j _ _ c.word32-records.ensures c.requires c.loop-j-test.true
    c.edge-start.ensures c.edge-end.ensures in
    omega (arith, p.0)

pub slice_bounds-read_record-end : goal.slice_bounds-read_record-end
slice_bounds-read_record-end c =
    let p = inside c.args.bytes.now c.word32-records.result c.loop-j.j _ _ c.word32-records.ensures c.requires c.loop-j-test.true
    c.edge-start.ensures c.edge-end.ensures in
    omega (arith, p.1)

pub returns-in_default : goal.returns-in_default
returns-in_default c =
    rw (
      c.refused_record.ensures,
      records-stop c.args.bytes.now c.word32-records.result c.loop-j.j c.loop-j-test.true _ _
          c.edge-start.ensures c.edge-end.ensures _ c.read_record-read.ensures _ _ c.loop-j.invariant.1
          c.in_default.is,
    )

pub overflow_add-lost : goal.overflow_add-lost
overflow_add-lost c =
    let s = c.args.bytes.now in
    let most = shelf-fits s (λ k. (c.type_inv.bytes k).fits) c.requires in
    let read = record-read s c.word32-records.result c.loop-j.j c.loop-j-test.true _ _ c.edge-start.ensures c.edge-end.ensures _
    c.read_record-read.ensures _ c.in-Ok.is in
    let more = lost-more (λ (k : ℕ). record_lost (part s k)) c.word32-records.result c.loop-j.j c.loop-j.lost _
    c.loop-j.invariant.0 _ c.loop-j-test.true read.1 in
    record { fits = omega arith }

pub loop-j-preserved : goal.loop-j-preserved
loop-j-preserved c =
    let s = c.args.bytes.now in
    let read = record-read s c.word32-records.result c.loop-j.j c.loop-j-test.true _ _ c.edge-start.ensures c.edge-end.ensures _
    c.read_record-read.ensures _ c.in-Ok.is in (
      lost-more (λ (k : ℕ). record_lost (part s k)) c.word32-records.result c.loop-j.j c.loop-j.lost _ c.loop-j.invariant.0 _
          c.loop-j-test.true read.1,
      records-more s c.word32-records.result c.loop-j.j c.loop-j-test.true _ _ c.edge-start.ensures c.edge-end.ensures _
          c.read_record-read.ensures _ _ c.loop-j.invariant.1 c.in-Ok.is,
    )

pub returns : goal.returns
returns c =
    rw (
      records-end c.args.bytes.now _ _ _ c.loop-j-test.false c.loop-j.invariant.1,
      ← lost-end (λ (k : ℕ). record_lost (part c.args.bytes.now k)) c.word32-records.result c.loop-j.j
          c.loop-j.lost _ c.loop-j.invariant.0 c.loop-j-test.false,
      c.word32-records.ensures,
    )
