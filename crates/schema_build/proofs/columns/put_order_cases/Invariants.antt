use Rattle.std.proofs.Common.{◌≡◌, ◌++◌, drop, filter, flat_map}
use Rattle.std.specs.Prelude.{◌&&◌}
use Rattle.pg_base.specs.Behaviors as behaviors
use Rattle.pg_base.specs.ColumnFields as spec
use Rattle.schema_build.proofs.columns.put_order_cases.Given as goal

abbrev pub invariant-loop-c : goal.invariant-loop-c
invariant-loop-c l =
    l.cases.items ++ flat_map spec.column_cases (filter (λ c. behaviors.is_on behaviors.ordering l.tags && behaviors.is_on behaviors.ordering c.tags) (drop l.c-index l.columns)) ≡ l.fn.cases.items ++ flat_map spec.column_cases (filter (λ c. behaviors.is_on behaviors.ordering l.tags && behaviors.is_on behaviors.ordering c.tags) l.columns)
