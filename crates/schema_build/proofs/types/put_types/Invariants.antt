use Rattle.std.proofs.Common.{◌≡◌, ◌++◌, drop, map}
use Rattle.pg_base.specs.SchemaOf as spec
use Rattle.schema_build.proofs.types.put_types.Given as goal

abbrev pub invariant-loop-role : goal.invariant-loop-role
invariant-loop-role l =
    l.listed.items ++ map (spec.type_of_role l.catalog l.types) (drop l.role-index l.roles)
    ≡ l.fn.listed.items ++ map (spec.type_of_role l.catalog l.types) l.roles
