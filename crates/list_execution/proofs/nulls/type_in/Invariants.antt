use Rattle.std.proofs.Common.{◌≡◌, drop}
use Rattle.place_tree.specs.Arguments as spec
use Rattle.list_execution.proofs.nulls.type_in.Given as goal

abbrev pub invariant-loop-input : goal.invariant-loop-input
invariant-loop-input l = spec.type_in (drop l.input-index l.inputs) l.name ≡ spec.type_in l.inputs l.name
