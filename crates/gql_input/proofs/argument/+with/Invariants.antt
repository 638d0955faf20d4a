use Rattle.std.proofs.Common.{◌≡◌, ◌++◌, drop}
use Rattle.gql_input.specs.Listed.{each_value, each_member}
use Rattle.gql_input.proofs.argument.+with.Given as goal

abbrev pub invariant-members_with-loop-member : goal.invariant-members_with-loop-member
invariant-members_with-loop-member l = l.given ++ each_member l.vars (drop l.member-index l.members) ≡ each_member l.vars l.members

abbrev pub invariant-values_with-loop-item : goal.invariant-values_with-loop-item
invariant-values_with-loop-item l = l.values ++ each_value l.vars (drop l.item-index l.items) ≡ each_value l.vars l.items
