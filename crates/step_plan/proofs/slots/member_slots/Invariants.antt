use Rattle.std.proofs.Common.{◌≡◌, ◌++◌, drop}
use Rattle.step_plan.specs.Listed.{written_slots}
use Rattle.step_plan.proofs.slots.member_slots.Given as goal

abbrev pub invariant-loop-member : goal.invariant-loop-member
invariant-loop-member l =
    l.equals ++ written_slots l.schema l.vars l.inputs l.columns (drop l.member-index l.members)
    ≡ written_slots l.schema l.vars l.inputs l.columns l.members
