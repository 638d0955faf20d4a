use Rattle.std.proofs.Common.{◌≡◌, ◌++◌, drop}
use Rattle.std.specs.Prelude.{◌&&◌, ◌==◌}
use Rattle.pg_base.specs.Listing.{each_at, when}
use Rattle.pg_base.specs.Behaviors as behaviors
use Rattle.pg_base.specs.RowFields as spec
use Rattle.schema_build.proofs.rows.put_backward_fields_from.Given as goal

abbrev pub invariant-loop-l : goal.invariant-loop-l
invariant-loop-l m = record {
  place : m.place ≡ m.l-index;
  done : m.fields.items ++ each_at (λ place l. when (l.target == m.target && behaviors.is_on behaviors.connecting l.tags) (spec.backward_field m.types m.table m.t place l)) m.place (drop m.l-index m.links) ≡ m.fn.fields.items ++ each_at (λ place l. when (l.target == m.target && behaviors.is_on behaviors.connecting l.tags) (spec.backward_field m.types m.table m.t place l)) 0 m.links;
}
