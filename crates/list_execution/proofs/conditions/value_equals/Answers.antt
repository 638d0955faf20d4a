use Rattle.std.proofs.Common.{ap, ◌∙◌}
use Rattle.std.specs.List.{filter_map}
use Rattle.place_tree.specs.Arguments as spec
use Rattle.list_execution.proofs.Held.{members_are}
use Rattle.list_execution.proofs.conditions.value_equals.Goals as goal

pub returns-in_ok-equals-in-Object : goal.returns-in_ok-equals-in-Object
returns-in_ok-equals-in-Object c =
    c.in_ok-equals-in-Object.ensures
    ∙ ap (filter_map (spec.equal_of c.args.schema.now c.args.inputs.now c.args.columns.now)) (members_are c.args.value.now _ _ c.in-Object.is c.as_slice.ensures)
