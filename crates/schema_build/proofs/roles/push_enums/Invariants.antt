use Rattle.std.proofs.Common.{◌≡◌, ◌++◌, drop}
use Rattle.pg_base.specs.Listing.{each_at}
use Rattle.pg_base.specs.Roles as spec
use Rattle.schema_build.proofs.roles.push_enums.Given as goal

abbrev pub invariant-loop-e : goal.invariant-loop-e
invariant-loop-e l = record {
  place : l.place ≡ l._e-index;
  done : l.roles.items ++ each_at (spec.enum_roles) l.place (drop l._e-index l.enums) ≡ l.fn.roles.items ++ each_at (spec.enum_roles) 0 l.enums;
}
