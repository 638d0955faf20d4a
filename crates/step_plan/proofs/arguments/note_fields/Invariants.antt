use Rattle.std.proofs.Common.{◌≡◌, map, drop}
use Rattle.plan_constraints.specs.Noted as spec
use Rattle.plan_constraints.specs.Same.{with_constraints}
use Rattle.step_plan.proofs.arguments.note_fields.Given as goal

abbrev pub invariant-loop-member : goal.invariant-loop-member
invariant-loop-member l =
    with_constraints l.list (map (spec.field_shape l.vars l.name) (map (λ m. m.name) (drop l.member-index l.members)))
    ≡ with_constraints l.fn.list (map (spec.field_shape l.vars l.name) (map (λ m. m.name) l.members))
