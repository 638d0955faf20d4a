use Rattle.std.proofs.Common.{map, ap, ◌∙◌}
use Rattle.std.specs.List.{filter_map}
use Rattle.step_plan.specs.Slots as spec
use Rattle.step_plan.proofs.Held.{members_are}
use Rattle.step_plan.proofs.slots.value_slots.Goals as goal

pub returns-in_ok-equals-in-Object : goal.returns-in_ok-equals-in-Object
returns-in_ok-equals-in-Object c =
    c.in_ok-equals-in-Object.ensures
    ∙ ap (λ ms. filter_map (spec.field_slot c.args.inputs.now c.args.columns.now c.args.name.now) (map (λ m. m.name) ms))
    (members_are c.args.value.now _ _ c.in-Object.is c.as_slice.ensures)
