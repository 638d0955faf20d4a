use Rattle.std.proofs.Common.{◌≡◌, ◌≤◌, drop, length}
use Rattle.std.specs.Cmp.Lexicographic.{pointwise}
use Rattle.place_tree.specs.Same as spec
use Rattle.place_tree.proofs.alike.+alike.Given as goal

abbrev pub invariant-are_alike-loop-i : goal.invariant-are_alike-loop-i
invariant-are_alike-loop-i l = record {
  same : pointwise spec.same_arg (drop l.i l.xs) (drop l.i l.ys) ≡ pointwise spec.same_arg l.xs l.ys;
  within : l.i ≤ length l.ys;
}

abbrev pub invariant-have_same_members-loop-i : goal.invariant-have_same_members-loop-i
invariant-have_same_members-loop-i l = record {
  same : pointwise spec.same_member (drop l.i l.xs) (drop l.i l.ys) ≡ pointwise spec.same_member l.xs l.ys;
  within : l.i ≤ length l.ys;
}
