use Rattle.std.proofs.Common.{◌≡◌, ◌++◌, drop}
use Rattle.std.specs.List.{filter_map}
use Rattle.place_tree.specs.Arguments as spec
use Rattle.step_plan.proofs.orders.order_by.Given as goal

abbrev pub invariant-loop-name : goal.invariant-loop-name
invariant-loop-name l = l.order ++ filter_map (spec.by_name l.cases l.columns) (drop l.name-index l.names) ≡ filter_map (spec.by_name l.cases l.columns) l.names
