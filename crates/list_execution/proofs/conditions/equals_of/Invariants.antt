use Rattle.std.proofs.Common.{◌≡◌, ◌++◌, drop}
use Rattle.std.specs.List.{filter_map}
use Rattle.place_tree.specs.Arguments as spec
use Rattle.list_execution.proofs.conditions.equals_of.Given as goal

abbrev pub invariant-loop-member : goal.invariant-loop-member
invariant-loop-member l = l.condition ++ filter_map (spec.equal_of l.schema l.inputs l.columns) (drop l.member-index l.members) ≡ filter_map (spec.equal_of l.schema l.inputs l.columns) l.members
