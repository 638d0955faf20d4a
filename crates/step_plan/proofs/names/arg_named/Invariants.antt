use Rattle.std.proofs.Common.{◌≡◌, drop}
use Rattle.place_tree.specs.Fields as spec
use Rattle.step_plan.proofs.names.arg_named.Given as goal

abbrev pub invariant-loop-i : goal.invariant-loop-i
invariant-loop-i l = spec.place_from l.i (spec.arg_names (drop l.i l.args)) l.name ≡ spec.place_from 0 (spec.arg_names l.args) l.name
