use Rattle.std.proofs.Common.{◌≡◌, drop}
use Rattle.plan_constraints.specs.Same as spec
use Rattle.plan_constraints.proofs.noting.is_among.Given as goal

abbrev pub invariant-loop-other : goal.invariant-loop-other
invariant-loop-other l = spec.is_among l.constraint (drop l.other-index l.list) ≡ spec.is_among l.constraint l.list
