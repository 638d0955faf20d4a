use Rattle.std.proofs.Common.{length}
use Rattle.inline_select.proofs.Waiting.{AreWaiting}
use Rattle.inline_select.proofs.moving.inlined_back.Given as goal

abbrev pub invariant-loop-more : goal.invariant-loop-more
invariant-loop-more l = AreWaiting l.steps l.below.items l.done

abbrev pub decreases-loop-more : goal.decreases-loop-more
decreases-loop-more l = length l.below.items
