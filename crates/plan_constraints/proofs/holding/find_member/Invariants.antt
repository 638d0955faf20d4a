use Rattle.std.proofs.Common.{◌≡◌, drop}
use Rattle.pg_base.specs.Value as values
use Rattle.plan_constraints.proofs.holding.find_member.Given as goal

abbrev pub invariant-loop-member : goal.invariant-loop-member
invariant-loop-member l = values.member_in (drop l.member-index l.members) l.name ≡ values.member_in l.members l.name
