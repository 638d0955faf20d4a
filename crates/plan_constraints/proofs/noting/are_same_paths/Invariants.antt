use Rattle.std.proofs.Common.{◌≡◌, ◌≤◌, drop, length}
use Rattle.std.specs.Cmp.Lexicographic.{pointwise}
use Rattle.plan_constraints.specs.Same as spec
use Rattle.plan_constraints.proofs.noting.are_same_paths.Given as goal

abbrev pub invariant-loop-i : goal.invariant-loop-i
invariant-loop-i l = record {
  same : pointwise spec.same_part (drop l.i l.xs) (drop l.i l.ys) ≡ pointwise spec.same_part l.xs l.ys;
  within : l.i ≤ length l.ys;
}
