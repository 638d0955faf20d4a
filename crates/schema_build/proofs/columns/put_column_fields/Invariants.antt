use Rattle.std.proofs.Common.{◌≡◌, ◌++◌, drop}
use Rattle.pg_base.specs.Listing.{each_at, when}
use Rattle.pg_base.specs.Behaviors as behaviors
use Rattle.pg_base.specs.ColumnFields as spec
use Rattle.schema_build.proofs.columns.put_column_fields.Given as goal

abbrev pub invariant-loop-c : goal.invariant-loop-c
invariant-loop-c l = record {
  place : l.place ≡ l.c-index;
  done : l.fields.items ++ each_at (λ place c. when (behaviors.is_on behaviors.selecting c.tags) (spec.column_field l.types l.table place c)) l.place (drop l.c-index l.columns) ≡ l.fn.fields.items ++ each_at (λ place c. when (behaviors.is_on behaviors.selecting c.tags) (spec.column_field l.types l.table place c)) 0 l.columns;
}
