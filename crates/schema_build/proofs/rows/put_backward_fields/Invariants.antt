use Rattle.std.proofs.Common.{◌≡◌, ◌++◌, drop}
use Rattle.pg_base.specs.Listing.{each_at}
use Rattle.pg_base.specs.RowFields as spec
use Rattle.schema_build.proofs.rows.put_backward_fields.Given as goal

abbrev pub invariant-loop-t : goal.invariant-loop-t
invariant-loop-t l = record {
  place : l.place ≡ l.t-index;
  done : l.fields.items ++ each_at (spec.backward_fields_from l.types l.target) l.place (drop l.t-index l.tables) ≡ l.fn.fields.items ++ each_at (spec.backward_fields_from l.types l.target) 0 l.tables;
}
