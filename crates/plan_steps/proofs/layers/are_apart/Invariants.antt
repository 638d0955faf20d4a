use Rattle.std.proofs.Common.{◌≡◌, drop}
use Rattle.plan_steps.specs.Check as spec
use Rattle.plan_steps.proofs.layers.are_apart.Given as goal

abbrev pub invariant-loop-i : goal.invariant-loop-i
invariant-loop-i l = spec.are_apart (drop l.i l.layers) ≡ spec.are_apart l.layers
