use Rattle.std.proofs.Common.{◌≡◌, drop, Some}
use Rattle.dedupe_steps.specs.Orders as spec
use Rattle.dedupe_steps.specs.Sights.{each_null}
use Rattle.dedupe_steps.proofs.orders.null_items.Given as goal

abbrev pub invariant-loop-item : goal.invariant-loop-item
invariant-loop-item l = spec.either_of (Some l.found) (each_null l.constraints (drop l.item-index l.items)) ≡ each_null l.constraints l.items
