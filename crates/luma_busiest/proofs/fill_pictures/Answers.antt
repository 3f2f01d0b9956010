use Prim.Native.Nat.{◌+◌, ◌-◌, ◌*◌, ◌/◌, ◌%◌, ◌≤◌, min}
use native.Mathlib.Omega.{arith}
use native.Mathlib.Nat.{suc-mul, mul-le-mul_right, div-mul-le_self, div-eq_of_lt-le}
use mathlib.Core.Path.{◌≡◌, sym, ◌∙◌}
use lib.ListN.{length, take, drop, replicate, length-replicate, length-drop}
use lib.Seq.{length-take-le}
use Rattle.std.proofs.lemmas.Grind.{div_ceil_times}
use Rattle.rules.specs.Bytes.{smaller}
use Rattle.rules.specs.Seal.{over}
use Rattle.rules.specs.Busiest.{shade}
use Rattle.rules.proofs.Laws.Lists.{smaller-min}
use Rattle.words.proofs.Laws.{part-written}
use Rattle.luma_busiest.proofs.Laws.Answers.{picture-bytes, luma-most}
use Rattle.luma_busiest.proofs.Laws.Pieces.{none_left, filled_none, filled_more, filled-all, end-length, touched}
use Rattle.luma_busiest.proofs.fill_pictures.Goals as goal

pub overflow_mul-size : goal.overflow_mul-size
overflow_mul-size c = omega (arith, (picture-bytes _ _ c.requires.good_size).1)

pub overflow_mul-all : goal.overflow_mul-all
overflow_mul-all c = omega (arith, luma-most _ _ _ c.requires.good_size c.requires.few_pictures)

pub returns-then-all-at : goal.returns-then-all-at
unfolding over
returns-then-all-at c =
    let a = c.args in
    let none = none_left a.width a.height a.time a.pictures a.at a.piece.now c.if-all-at.true in
    record { length = rw none; bytes = rw none }

pub overflow_add-at : goal.overflow_add-at
overflow_add-at c = omega (arith, luma-most _ _ _ c.requires.good_size c.requires.few_pictures)

pub loop-i-init : goal.loop-i-init
loop-i-init c =
    let a = c.args in
    let size = a.width * a.height in
    let none : min (a.at / size * size - a.at) c.min-end.result ≡ 0 = omega (arith, div-mul-le_self a.at size) in
    rw none (filled_none _ _ _ _ _ _)

pub overflow_mul-i : goal.overflow_mul-i
overflow_mul-i c =
    let a = c.args in
    let l = c.loop-i in
    let some = (picture-bytes _ _ c.requires.good_size).0 in
    omega (
      arith,
      luma-most _ _ _ c.requires.good_size c.requires.few_pictures,
      (touched (a.width * a.height) a.at (a.at + c.min-end.result) l.i some (omega arith) (omega arith)).0,
    )

pub overflow_mul-i-in-loop-i : goal.overflow_mul-i-in-loop-i
overflow_mul-i-in-loop-i c =
    let a = c.args in
    let l = c.loop-i in
    let size = picture-bytes _ _ c.requires.good_size in
    omega (
      arith,
      size.1,
      suc-mul l.i (a.width * a.height),
      luma-most _ _ _ c.requires.good_size c.requires.few_pictures,
      (touched (a.width * a.height) a.at (a.at + c.min-end.result) l.i size.0 (omega arith) (omega arith)).0,
    )

pub overflow_sub-i : goal.overflow_sub-i
overflow_sub-i c =
    let a = c.args in
    let l = c.loop-i in
    let some = (picture-bytes _ _ c.requires.good_size).0 in
    omega (
      arith,
      (touched (a.width * a.height) a.at (a.at + c.min-end.result) l.i some (omega arith) (omega arith)).1,
    )

pub loop-i-preserved : goal.loop-i-preserved
loop-i-preserved c =
    let a = c.args in
    let l = c.loop-i in
    let size = a.width * a.height in
    let some = (picture-bytes _ _ c.requires.good_size).0 in
    let here = touched size a.at (a.at + c.min-end.result) l.i some (omega arith) (omega arith) in
    let from = c.saturating_sub-from.result in
    let to = c.min-to.result in
    let begins : min (l.i * size - a.at) c.min-end.result ≡ from = omega arith in
    let next : min ((l.i + 1) * size - a.at) c.min-end.result ≡ to = omega arith in
    let later = suc-mul l.i size in
    let up : from ≤ to = omega arith in
    let room : to ≤ length l.piece = omega arith in
    let i-is : l.i ≡ (a.at + from) / size = sym (div-eq_of_lt-le size (omega arith) (omega arith)) in
    let long : length (take (to - from) (drop from l.piece)) ≡ to - from =
    length-take-le (to - from) (drop from l.piece) (omega (arith, length-drop from l.piece)) in
    let bytes = replicate (to - from) (shade a.time l.i) in
    let many : length bytes ≡ to - from = length-replicate (to - from) (shade a.time l.i) in
    let value : c.fill.new.self ≡ bytes =
    c.fill.ensures.after (λ y e. e) ∙ rw (long, c.shade_of.ensures) in
    rw next (filled_more a.width a.height a.time a.pictures a.at a.piece.now from to l.i l.piece _ some i-is up
    (omega arith) (omega arith) (omega arith) (rw begins at l.invariant)
    (part-written from bytes l.piece (omega arith) (sym many) value))

pub returns : goal.returns
returns c =
    let a = c.args in
    let l = c.loop-i in
    let size = a.width * a.height in
    let last = a.at + c.min-end.result in
    let some = (picture-bytes _ _ c.requires.good_size).0 in
    let far : (last / size + min 1 (last % size)) * size ≤ l.i * size = mul-le-mul_right size (omega arith) in
    let whole : min (l.i * size - a.at) c.min-end.result ≡ c.min-end.result =
    omega (arith, (div_ceil_times last size some).0) in
    let left = a.pictures * size - a.at in
    let end : c.min-end.result ≡ smaller left (length a.piece.now) =
    c.min-end.ensures ∙ sym (smaller-min left (length a.piece.now)) in
    record {
      length = end ∙ end-length a.width a.height a.time a.pictures a.at a.piece.now;
      bytes = filled-all a.width a.height a.time a.pictures a.at a.piece.now l.piece (rw (whole ∙ end) at l.invariant);
    }
