use Rattle.std.proofs.Common.{◌≡◌, drop}
use Rattle.plan_steps.specs.Check as spec
use Rattle.plan_steps.proofs.layers.differ.Given as goal

abbrev pub invariant-loop-i : goal.invariant-loop-i
invariant-loop-i l = spec.differ (drop l.i l.numbers) ≡ spec.differ l.numbers
