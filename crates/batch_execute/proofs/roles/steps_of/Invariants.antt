use Rattle.std.proofs.Common.{◌≡◌, ◌≤◌, drop, length}
use Rattle.batch_execute.specs.Roles as spec
use Rattle.batch_execute.proofs.roles.steps_of.Given as goal

abbrev pub invariant-left : goal.invariant-left
invariant-left l = record {
  steps : l.steps.items ≡ spec.steps_of (drop l.left l.outs) l.places;
  within : l.left ≤ length l.outs;
}

abbrev pub decreases-left : goal.decreases-left
decreases-left l = l.left
