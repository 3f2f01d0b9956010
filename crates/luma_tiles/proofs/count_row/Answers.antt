use Rattle.std.proofs.Common.{◌≡◌, ◌+◌, ◌-◌, ◌*◌, take, drop, length-take, length-drop, ap, arith}
use Rattle.rules.specs.Histograms.{third}
use Rattle.luma_laws.proofs.Histograms.{third-small}
use Rattle.luma_laws.proofs.Columns.{edges}
use Rattle.luma_tiles.proofs.Laws.{parts-counted}
use Rattle.luma_tiles.proofs.count_row.Goals as goal

pub split_at-requires : goal.split_at-requires
split_at-requires c =
    let e = edges c.requires.boundary c.requires.boundary_2 in
    simp (length-take, length-drop) (omega arith)

pub overflow_sub-tiles : goal.overflow_sub-tiles
overflow_sub-tiles c =
    let e = edges c.requires.boundary c.requires.boundary_2 in
    omega arith

pub split_at-requires-2 : goal.split_at-requires-2
split_at-requires-2 c =
    let e = edges c.requires.boundary c.requires.boundary_2 in
    let l = simp (length-take, length-drop) at c.split_at.ensures.back_len in
    omega arith

pub overflow_mul-t-2 : goal.overflow_mul-t-2
unfolding third
overflow_mul-t-2 c =
    let t = third-small c.args.tiles.lines c.args.r c.requires.inside in
    omega arith

pub count_columns-requires : goal.count_columns-requires
unfolding third
count_columns-requires c =
    let e = edges c.requires.boundary c.requires.boundary_2 in
    let t = third-small c.args.tiles.lines c.args.r c.requires.inside in
    record {
      slot = omega arith;
      tiles = omega arith;
      second = simp length-take (omega arith);
      third = simp length-take (omega arith);
    }

pub slice_bounds-count_columns-end-2 : goal.slice_bounds-count_columns-end-2
slice_bounds-count_columns-end-2 c =
    let e = edges c.requires.boundary c.requires.boundary_2 in
    simp length-take (omega arith)

pub slice_bounds-count_rest-count-2 : goal.slice_bounds-count_rest-count-2
slice_bounds-count_rest-count-2 c =
    let e = edges c.requires.boundary c.requires.boundary_2 in
    omega arith

pub slice_bounds-count_rest-start-2 : goal.slice_bounds-count_rest-start-2
slice_bounds-count_rest-start-2 c =
    let e = edges c.requires.boundary c.requires.boundary_2 in
    omega arith

pub overflow_add-t : goal.overflow_add-t
unfolding third
overflow_add-t c =
    let t = third-small c.args.tiles.lines c.args.r c.requires.inside in
    omega arith

pub returns : goal.returns
unfolding third
returns c =
    let p = c.requires in
    let a = c.args in
    let e = edges c.requires.boundary c.requires.boundary_2 in
    let w = a.tiles.columns in
    let all : a.r * w + w - a.r * w ≡ w = omega arith in
    let one = c.split_at.ensures in
    let two = c.split_at-2.ensures in
    let whole = simp (length-take, length-drop) at one.back_len in
    parts-counted w a.tiles.lines a.r a.base _ _ _ a.pixels.now e.second e.third (omega arith) p.wide p.there
    (ap (λ n. take n (drop (a.r * w) a.pixels.now)) all) one.front one.back two.front two.back
    c.count_columns.ensures c.count_rest.ensures c.count_rest-2.ensures
