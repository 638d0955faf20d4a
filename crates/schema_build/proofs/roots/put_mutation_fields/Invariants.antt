use Rattle.std.proofs.Common.{◌≡◌, ◌++◌, drop}
use Rattle.pg_base.specs.Listing.{each_at}
use Rattle.pg_base.specs.RootFields as spec
use Rattle.schema_build.proofs.roots.put_mutation_fields.Given as goal

abbrev pub invariant-loop-t : goal.invariant-loop-t
invariant-loop-t l = record {
  place : l.place ≡ l.t-index;
  done : l.fields.items ++ each_at (spec.mutation_fields_of l.types) l.place (drop l.t-index l.tables)
      ≡ l.fn.fields.items ++ each_at (spec.mutation_fields_of l.types) 0 l.tables;
}
