use Rattle.std.proofs.Common.{ap, ◌∙◌}
use Rattle.std.specs.List.{filter_map}
use Rattle.place_tree.specs.Arguments as spec
use Rattle.step_plan.proofs.Held.{items_are}
use Rattle.step_plan.proofs.orders.value_names.Goals as goal

pub returns-in_ok-names-in-List : goal.returns-in_ok-names-in-List
returns-in_ok-names-in-List c =
    c.in_ok-names-in-List.ensures ∙ ap (filter_map spec.named_case) (items_are c.args.value.now _ _ c.in-List.is c.as_slice.ensures)
