use Rattle.std.proofs.Common.{◌≡◌, ◌≤◌, drop, length}
use Rattle.std.specs.Str.{bytes_eq}
use Rattle.std.specs.Cmp.Lexicographic.{pointwise}
use Rattle.plan_constraints.proofs.noting.are_same_names.Given as goal

abbrev pub invariant-loop-i : goal.invariant-loop-i
invariant-loop-i l = record {
  same : pointwise bytes_eq (drop l.i l.xs) (drop l.i l.ys) ≡ pointwise bytes_eq l.xs l.ys;
  within : l.i ≤ length l.ys;
}
