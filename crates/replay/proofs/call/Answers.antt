-- The script has the bytes of the call that the head names, and each arm is that call.
use native.Mathlib.Omega.{arith}
use mathlib.Core.Path.{refl, ap, ◌∙◌}
use Rattle.replay_script.specs.declared.Head.{Head}
use Rattle.replay_script.specs.Script.{size_of, next_of}
use Rattle.replay_script.proofs.Laws.{fits-capture, fits-luma}
use Rattle.replay.proofs.Outcomes.{after-capture, after-luma, after-seal, after-index}
use Rattle.replay.proofs.Outcomes.{after-repeats}
use Rattle.replay.proofs.call.Goals as goal

pub call_index-requires : goal.call_index-requires
call_index-requires c = c.requires.size ∙ ap size_of c.in-Index.is

pub call_repeats-requires : goal.call_repeats-requires
call_repeats-requires c = c.requires.size ∙ ap size_of c.in-Repeats.is

pub call_seal-requires : goal.call_seal-requires
call_seal-requires c = omega (arith, c.requires.size ∙ ap size_of c.in-Seal.is)

pub slice_bounds-call_capture-end : goal.slice_bounds-call_capture-end
slice_bounds-call_capture-end c =
    omega (arith, fits-capture c.args.script.now c.args.at _ (rw c.in-Capture.is at c.requires.here))

pub call_capture-requires : goal.call_capture-requires
call_capture-requires c = c.requires.size ∙ ap size_of c.in-Capture.is

pub slice_bounds-call_luma-end : goal.slice_bounds-call_luma-end
slice_bounds-call_luma-end c =
    omega (arith, fits-luma c.args.script.now c.args.at _ (rw c.in-Luma.is at c.requires.here))

pub call_luma-requires : goal.call_luma-requires
call_luma-requires c = c.requires.size ∙ ap size_of c.in-Luma.is

pub returns-in-Index : goal.returns-in-Index
returns-in-Index c =
    let is = c.in-Index.is in
    after-index _ _ _ _ _ _ is (ap (λ (h : Head). next_of h c.args.at) is) c.call_index.ensures

pub returns-in-Repeats : goal.returns-in-Repeats
returns-in-Repeats c =
    let is = c.in-Repeats.is in
    after-repeats _ _ _ _ _ _ _ _ is (ap (λ (h : Head). next_of h c.args.at) is) c.call_repeats.ensures

pub returns-in-Seal : goal.returns-in-Seal
returns-in-Seal c =
    let is = c.in-Seal.is in
    after-seal _ _ _ _ _ _ _ _ is (ap (λ (h : Head). next_of h c.args.at) is)
    (c.requires.size ∙ ap size_of is) c.call_seal.ensures

pub returns-in-Capture : goal.returns-in-Capture
returns-in-Capture c =
    let is = c.in-Capture.is in
    rw is (after-capture _ _ _ _ _ _ _ _ _ refl refl refl c.call_capture.ensures)

pub returns-in-Luma : goal.returns-in-Luma
returns-in-Luma c =
    let is = c.in-Luma.is in
    rw is (after-luma _ _ _ _ _ _ _ _ _ refl refl refl c.call_luma.ensures)
