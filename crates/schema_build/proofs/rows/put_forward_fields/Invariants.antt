use Rattle.std.proofs.Common.{◌≡◌, ◌++◌, drop}
use Rattle.pg_base.specs.Listing.{each_at, when}
use Rattle.pg_base.specs.Behaviors as behaviors
use Rattle.pg_base.specs.RowFields as spec
use Rattle.schema_build.proofs.rows.put_forward_fields.Given as goal

abbrev pub invariant-loop-l : goal.invariant-loop-l
invariant-loop-l m = record {
  place : m.place ≡ m.l-index;
  done : m.fields.items ++ each_at (λ place l. when (behaviors.is_on behaviors.selecting l.tags) (spec.forward_field m.catalog m.types m.table m.t place l)) m.place (drop m.l-index m.links) ≡ m.fn.fields.items ++ each_at (λ place l. when (behaviors.is_on behaviors.selecting l.tags) (spec.forward_field m.catalog m.types m.table m.t place l)) 0 m.links;
}
