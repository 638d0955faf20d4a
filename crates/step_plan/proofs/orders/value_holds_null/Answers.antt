use Rattle.std.proofs.Common.{ap, ◌∙◌}
use Rattle.std.specs.List.{list_any}
use Rattle.pg_base.specs.Value.{is_null as is_null_value}
use Rattle.step_plan.proofs.Held.{items_are}
use Rattle.step_plan.proofs.orders.value_holds_null.Goals as goal

pub returns-in-List : goal.returns-in-List
returns-in-List c = c.some_is_null.ensures ∙ ap (list_any is_null_value) (items_are c.args.value.now _ _ c.in-List.is c.as_slice.ensures)
