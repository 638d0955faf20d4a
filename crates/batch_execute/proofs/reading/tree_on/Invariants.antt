use Rattle.std.proofs.Common.{◌≡◌, ◌≤◌, None, drop, length}
use Rattle.batch_execute.specs.Reading as spec
use Rattle.batch_execute.specs.Trails.{trail_of}
use Rattle.batch_execute.proofs.reading.tree_on.Given as goal

abbrev pub invariant-left : goal.invariant-left
invariant-left l = record {
  within : l.left ≤ length l.trail;
  none : spec.tree_on (trail_of (drop l.left l.trail)) l.step ≡ None;
}

abbrev pub decreases-left : goal.decreases-left
decreases-left l = l.left
