use Rattle.std.proofs.Common.{◌≡◌, drop}
use Rattle.plan_steps.specs.Check as spec
use Rattle.plan_steps.proofs.layers.all_laid.Given as goal

abbrev pub invariant-loop-k : goal.invariant-loop-k
invariant-loop-k l = spec.all_laid l.layers l.k (drop l.k l.steps) ≡ spec.all_laid l.layers 0 l.steps
