-- What is lent to the seal is filled, and stands behind the answer.
use Prim.Native.Nat.{ℕ, ◌-◌}
use native.Mathlib.Omega.{arith}
use mathlib.Core.Path.{◌≡◌, ap}
use mathlib.Core.List.{List}
use lib.ListN.{length}
use borrow.Rule.Slice.PartMut.{put_mid, same_len_mid}
use Rattle.replay.proofs.Outcomes.{sealed-law}
use Rattle.replay.proofs.call_seal.Goals as goal

pub returns : goal.returns
returns c =
    let out : List ℕ = c.args.out.now in
    let filled : List ℕ = c.fill.new.self in
    let kept : length (put_mid 17 (length out - 17) out filled) ≡ length out = same_len_mid 17 (length out - 17) out
    filled c.fill.ensures.len in
    sealed-law _ out filled _ _ _ (length (put_mid 17 (length out - 17) out filled) - 17) c.requires
    (c.fill.ensures.after (λ y h. h)) (ap (λ (n : ℕ). n - 17) kept) c.seal-a.ensures c.put.ensures
    (rw kept c.requires) (omega arith)
