use Rattle.std.proofs.Common.{◌≡◌, map, drop}
use Rattle.plan_constraints.specs.Same.{with_constraints}
use Rattle.step_plan.specs.Listed.{noted_as, vars_in_items, vars_in_members}
use Rattle.step_plan.proofs.arguments.+notes.Given as goal

abbrev pub invariant-note_items-loop-item : goal.invariant-note_items-loop-item
invariant-note_items-loop-item l =
    with_constraints l.list (map (noted_as l.how l.vars) (vars_in_items (drop l.item-index l.items)))
    ≡ with_constraints l.fn.list (map (noted_as l.how l.vars) (vars_in_items l.items))

abbrev pub invariant-note_members-loop-member : goal.invariant-note_members-loop-member
invariant-note_members-loop-member l =
    with_constraints l.list (map (noted_as l.how l.vars) (vars_in_members (drop l.member-index l.members)))
    ≡ with_constraints l.fn.list (map (noted_as l.how l.vars) (vars_in_members l.members))
