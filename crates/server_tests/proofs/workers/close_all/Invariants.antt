use Rattle.std.proofs.Common.{◌≡◌, ◌+◌, length, All}
use Rattle.std.specs.Prelude.{vec_len}
use Rattle.server_tests.specs.Lists.{IsAt}
use Rattle.server_tests.proofs.workers.close_all.Given as goal

abbrev pub invariant-loop-other : goal.invariant-loop-other
invariant-loop-other l = (l.all.cell ≡ l.cell.id) × (length l.all.joined + 1 + vec_len l.seats ≡ l.cell.seats) × All (IsAt l.cell.id) l.seats.items

abbrev pub decreases-loop-other : goal.decreases-loop-other
decreases-loop-other l = goal.left-loop-other l
