use Rattle.std.proofs.Common.{◌≡◌, drop}
use Rattle.std.specs.Prelude.{option_map}
use Rattle.plan_steps.specs.Fetches.{holds_null}
use Rattle.dedupe_steps.specs.Orders as spec
use Rattle.dedupe_steps.proofs.orders.nulls_told.Given as goal

abbrev pub invariant-loop-constraint : goal.invariant-loop-constraint
invariant-loop-constraint l = option_map holds_null (spec.told (drop l.constraint-index l.constraints) l.name) ≡ option_map holds_null (spec.told l.constraints l.name)
