use Rattle.std.proofs.Common.{◌≡◌, OnOk, subst}
use Rattle.plan_constraints.specs.Same.{with_constraints}
use Rattle.step_plan.proofs.Notes.{object_noted}
use Rattle.step_plan.proofs.arguments.note_held.Goals as goal

pub returns-in-Object : goal.returns-in-Object
returns-in-Object c =
    subst (λ l. OnOk c.note_object.result (c.note_object.new.list ≡ with_constraints c.args.list.now l))
    (object_noted c.args.vars.now c.args.name.now c.args.value.now _ _ c.in-Object.is c.as_slice.ensures) c.note_object.ensures
