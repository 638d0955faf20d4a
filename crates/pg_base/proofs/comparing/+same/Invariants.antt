use Rattle.std.proofs.Common.{◌≡◌, ◌≤◌, drop, length}
use Rattle.std.specs.Cmp.Lexicographic.{pointwise}
use Rattle.pg_base.specs.SameValue as spec
use Rattle.pg_base.proofs.comparing.+same.Given as goal

abbrev pub invariant-are_same-loop-i : goal.invariant-are_same-loop-i
invariant-are_same-loop-i l = record {
  same : pointwise spec.same_value (drop l.i l.xs) (drop l.i l.ys) ≡ pointwise spec.same_value l.xs l.ys;
  within : l.i ≤ length l.ys;
}

abbrev pub invariant-are_same_members-loop-i : goal.invariant-are_same_members-loop-i
invariant-are_same_members-loop-i l = record {
  same : pointwise spec.same_value_member (drop l.i l.xs) (drop l.i l.ys) ≡ pointwise spec.same_value_member l.xs l.ys;
  within : l.i ≤ length l.ys;
}
