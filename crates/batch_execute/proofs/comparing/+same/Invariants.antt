use Rattle.std.proofs.Common.{◌≡◌, ◌≤◌, drop, length, map}
use Rattle.plan_steps.specs.Same as spec
use Rattle.batch_execute.proofs.comparing.+same.Given as goal

abbrev pub invariant-are_same_fetches-loop-i : goal.invariant-are_same_fetches-loop-i
invariant-are_same_fetches-loop-i l = record {
  same : spec.all_same (map spec.same_fetch (drop l.i l.a)) (drop l.i l.b) ≡ spec.all_same (map spec.same_fetch l.a) l.b;
  within : l.i ≤ length l.b;
}
