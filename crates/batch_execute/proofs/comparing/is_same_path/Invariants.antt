use Rattle.std.proofs.Common.{◌≡◌, ◌≤◌, drop, length}
use Rattle.std.specs.Cmp.Lexicographic.{pointwise}
use Rattle.plan_constraints.specs.Same as paths
use Rattle.batch_execute.proofs.comparing.is_same_path.Given as goal

abbrev pub invariant-loop-i : goal.invariant-loop-i
invariant-loop-i l = record {
  same : pointwise paths.same_part (drop l.i l.a) (drop l.i l.b) ≡ pointwise paths.same_part l.a l.b;
  within : l.i ≤ length l.b;
}
