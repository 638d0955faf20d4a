use Rattle.std.proofs.Common.{◌≡◌, drop}
use Rattle.list_execution.specs.Listed.{some_null, some_member_null}
use Rattle.list_execution.proofs.nulls.+nulls.Given as goal

abbrev pub invariant-some_has_null-loop-item : goal.invariant-some_has_null-loop-item
invariant-some_has_null-loop-item l = some_null l.schema l.ty (drop l.item-index l.items) ≡ some_null l.schema l.ty l.items

abbrev pub invariant-member_has_null-loop-member : goal.invariant-member_has_null-loop-member
invariant-member_has_null-loop-member l = some_member_null l.schema l.inputs (drop l.member-index l.members) ≡ some_member_null l.schema l.inputs l.members
