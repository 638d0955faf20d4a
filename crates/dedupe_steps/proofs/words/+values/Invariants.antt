use Rattle.std.proofs.Common.{◌≡◌, ◌++◌, drop}
use Rattle.dedupe_steps.specs.Words as spec
use Rattle.dedupe_steps.proofs.words.+values.Given as goal

abbrev pub invariant-put_values-loop-item : goal.invariant-put_values-loop-item
invariant-put_values-loop-item l = l.out.items ++ spec.each_value (drop l.item-index l.items) ≡ l.initial.out.items ++ spec.each_value l.items

abbrev pub invariant-put_members-loop-member : goal.invariant-put_members-loop-member
invariant-put_members-loop-member l = l.out.items ++ spec.each_member (drop l.member-index l.members) ≡ l.initial.out.items ++ spec.each_member l.members
