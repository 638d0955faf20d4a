use Rattle.std.proofs.Common.{◌≡◌, drop}
use Rattle.plan_constraints.specs.Tests as spec
use Rattle.plan_constraints.proofs.holding.all_met.Given as goal

abbrev pub invariant-loop-constraint : goal.invariant-loop-constraint
invariant-loop-constraint l = spec.all_met (drop l.constraint-index l.constraints) l.vars ≡ spec.all_met l.constraints l.vars
