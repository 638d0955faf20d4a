use Rattle.std.proofs.Common.{◌≡◌, drop}
use Rattle.std.specs.Prelude.{option_map}
use Rattle.dedupe_steps.specs.Orders as spec
use Rattle.dedupe_steps.proofs.orders.nothing_told.Given as goal

abbrev pub invariant-loop-constraint : goal.invariant-loop-constraint
invariant-loop-constraint l = option_map spec.is_nothing (spec.told (drop l.constraint-index l.constraints) l.name) ≡ option_map spec.is_nothing (spec.told l.constraints l.name)
