-- What is answered, by what was tested of the lists.
use Prim.Native.Nat.{ℕ, ◌≤◌}
use mathlib.Core.Path.{◌≡◌, ◌∙◌}
use mathlib.Core.Bool.{Bool, true, false}
use mathlib.Core.List.{List}
use lib.ListN.{length}
use lib.Dec.{eqb}
use borrow.Author.Tests.{eqb-true}
use Rattle.rules.specs.Refusals.{Answer, refused}
use Rattle.rules.specs.Bytes.{within}
use Rattle.rules.proofs.Laws.Lists.{both, inside}
use Rattle.rules.specs.Rtp.{RtpLists, ordered, rtp_units_in, rtp_units, good_lists, rtp_fault, rtp_answer, rtp_buffer}
use Rattle.rules.specs.Rtp.{Read}
use Rattle.rtp_units.specs.Units.{Told}

pub record Good (s : List ℕ) (l : RtpLists) : Type 0 where
  pub some : 1 ≤ length s
  pub few : length s ≤ 4096
  pub marker : length l.marker ≡ length s
  pub time : length l.time ≡ length s
  pub size : length l.size ≡ length s

module _ (s : List ℕ) (l : RtpLists) where
  pub good-lists : good_lists s l ≡ true → Good s l
  unfolding good_lists
  good-lists e =
      let n = length s in
      let b₁ = both _ (eqb (length l.size) n) e in
      let b₂ = both _ (eqb (length l.time) n) b₁.0 in
      let b₃ = both (within 1 4096 n) (eqb (length l.marker) n) b₂.0 in
      let w = inside 1 4096 n b₃.0 in
      record {
        some = w.0;
        few = w.1;
        marker = eqb-true (length l.marker) n b₃.1;
        time = eqb-true (length l.time) n b₂.1;
        size = eqb-true (length l.size) n b₁.1;
      }

  pub bad-lists : (buffer : List ℕ) (b : Bool) → b ≡ good_lists s l → b ≡ false →
      Read s l buffer (refused 25 0) buffer
  unfolding rtp_answer rtp_buffer rtp_fault
  bad-lists buffer b d e = record { told = rw (← d, e); left = rw (← d, e) }

  pub as-told : (rows buffer after : List ℕ) (r : Answer ℕ) → good_lists s l ≡ true → rows ≡ ordered s →
      Told (rtp_units_in l rows) buffer r after →
      Read s l buffer r after
  unfolding rtp_answer rtp_buffer rtp_fault rtp_units
  as-told rows buffer after r e is-rows t =
      record { told = t.told ∙ rw (e, is-rows); left = t.left ∙ rw (e, is-rows) }
