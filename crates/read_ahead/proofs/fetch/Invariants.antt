-- `fetch` reads inside f, and its sum fits.
use Rattle.std.proofs.Common.{◌≤◌, ◌*◌, length}
use Rattle.read_ahead.proofs.fetch.Given as goal

abbrev pub invariant-loop-at : goal.invariant-loop-at
invariant-loop-at l = (l.end ≤ length l.f) × (l.end ≤ 268435520) × (l.sum ≤ 4 * l.at)
