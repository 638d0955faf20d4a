use Rattle.std.proofs.Common.{◌≡◌, drop}
use Rattle.pg_base.specs.Value.{member_in}
use Rattle.list_execution.proofs.fields.member_in.Given as goal

abbrev pub invariant-loop-member : goal.invariant-loop-member
invariant-loop-member l = member_in (drop l.member-index l.members) l.name ≡ member_in l.members l.name
