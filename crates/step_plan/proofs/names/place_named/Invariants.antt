use Rattle.std.proofs.Common.{◌≡◌, drop}
use Rattle.place_tree.specs.Fields as spec
use Rattle.step_plan.proofs.names.place_named.Given as goal

abbrev pub invariant-loop-i : goal.invariant-loop-i
invariant-loop-i l = spec.place_from l.i (drop l.i l.names) l.name ≡ spec.place_from 0 l.names l.name
