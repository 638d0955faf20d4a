use Rattle.std.proofs.Common.{◌≡◌, drop}
use Rattle.plan_steps.specs.Check as spec
use Rattle.plan_steps.proofs.checking.steps_fit.Given as goal

abbrev pub invariant-loop-k : goal.invariant-loop-k
invariant-loop-k l = spec.steps_fit l.catalog l.plan l.k (drop l.k l.steps) ≡ spec.steps_fit l.catalog l.plan 0 l.steps
