use Rattle.std.proofs.Common.{◌≡◌, ◌++◌, drop, map}
use Rattle.std.specs.Prelude.{slice_get}
use Rattle.plan_steps.specs.Values as values
use Rattle.output_plan.proofs.layout.order_names.Given as goal

abbrev pub invariant-loop-by : goal.invariant-loop-by
invariant-loop-by l =
    l.names ++ map (λ b. values.order_name (slice_get l.columns b.column) b.descending) (drop l.by-index l.order)
    ≡ map (λ b. values.order_name (slice_get l.columns b.column) b.descending) l.order
