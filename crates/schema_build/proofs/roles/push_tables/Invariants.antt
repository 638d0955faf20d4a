use Rattle.std.proofs.Common.{◌≡◌, ◌++◌, drop}
use Rattle.pg_base.specs.Listing.{each_at}
use Rattle.pg_base.specs.Roles as spec
use Rattle.schema_build.proofs.roles.push_tables.Given as goal

abbrev pub invariant-loop-t : goal.invariant-loop-t
invariant-loop-t l = record {
  place : l.place ≡ l.t-index;
  done : l.roles.items ++ each_at (spec.table_roles) l.place (drop l.t-index l.tables) ≡ l.fn.roles.items ++ each_at (spec.table_roles) 0 l.tables;
}
