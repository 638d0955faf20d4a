use Rattle.std.proofs.Common.{◌≡◌, ◌≤◌, drop, length}
use Rattle.std.specs.Cmp.Lexicographic.{pointwise}
use Rattle.plan_steps.specs.Same as spec
use Rattle.batch_execute.proofs.comparing.are_same_orders.Given as goal

abbrev pub invariant-loop-i : goal.invariant-loop-i
invariant-loop-i l = record {
  same : pointwise spec.same_by (drop l.i l.a) (drop l.i l.b) ≡ pointwise spec.same_by l.a l.b;
  within : l.i ≤ length l.b;
}
