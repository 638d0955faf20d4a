use Rattle.std.proofs.Common.{◌≡◌, ◌++◌, drop}
use Rattle.std.specs.List.{filter_map}
use Rattle.place_tree.specs.Arguments as spec
use Rattle.step_plan.proofs.orders.names_of.Given as goal

abbrev pub invariant-loop-item : goal.invariant-loop-item
invariant-loop-item l = l.names ++ filter_map spec.named_case (drop l.item-index l.items) ≡ filter_map spec.named_case l.items
