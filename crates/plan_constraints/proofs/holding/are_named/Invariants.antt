use Rattle.std.proofs.Common.{◌≡◌, ◌≤◌, drop, length}
use Rattle.plan_constraints.specs.Tests as spec
use Rattle.plan_constraints.proofs.holding.are_named.Given as goal

abbrev pub invariant-loop-i : goal.invariant-loop-i
invariant-loop-i l = record {
  same : spec.are_named (drop l.i l.members) (drop l.i l.names) ≡ spec.are_named l.members l.names;
  within : l.i ≤ length l.names;
}
