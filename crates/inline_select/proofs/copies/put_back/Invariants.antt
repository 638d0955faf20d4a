use Rattle.std.proofs.Common.{◌≡◌, ◌++◌, length}
use Rattle.std.specs.Prelude.{reverse}
use Rattle.inline_select.proofs.copies.put_back.Given as goal

abbrev pub invariant-loop-item : goal.invariant-loop-item
invariant-loop-item g l = l.onto ++ reverse l.left ≡ l.initial.onto ++ reverse l.initial.left

abbrev pub decreases-loop-item : goal.decreases-loop-item
decreases-loop-item g l = length l.left
