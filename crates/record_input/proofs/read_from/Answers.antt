-- Each read puts its bytes after those at the buffer's front, which stay.
use Rattle.std.proofs.Common.{◌≡◌, ℕ, ◌+◌, ◌≤◌, List, ◌++◌, rules, length, take, subst, refl, sym}
use Rattle.std.proofs.Common.{take_at, drop_at, length-take-le}
use Rattle.std.specs.Io.KnownBytes.{Consumes}
use Rattle.std.proofs.KnownBytes.{Consumes-trans}
use borrow.Rule.Slice.PartMut.{put_mid, post_of}
use lib.Seq.{take-add, take-append-le}
use Rattle.record_input.proofs.read_from.Goals as goal

-- what was read before, and the n bytes that one read put after it
joined : (a k n : ℕ) (xs ys : List ℕ) → a ≤ length xs → n ≤ length ys →
    take a xs ++ take n ys ≡ take (a + n) (put_mid a k xs ys)
joined a k n xs ys within fits =
    let after = ys ++ post_of a k xs in
    let front = length-take-le a xs within in
    sym (rw (
      take-add a n (take a xs ++ after),
      take_at (take a xs) after a front,
      drop_at (take a xs) after a front,
      take-append-le n ys (post_of a k xs) fits,
    ) refl)

pub loop-end-preserved : goal.loop-end-preserved
loop-end-preserved g c =
    let l = c.loop-end in
    let all = joined l.end _ c.in_ok-n.n l.input c.read.new.buf l.invariant.in_range c.in_ok-n.ensures.bound.0 in
    record {
      in_range = search rules;
      bytes = subst (Consumes _ _) all (Consumes-trans _ _ _ _ _ l.invariant.bytes c.in_ok-n.ensures.bytes.0);
    }
