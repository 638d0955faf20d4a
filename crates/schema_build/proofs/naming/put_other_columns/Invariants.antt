use Rattle.std.proofs.Common.{◌≡◌, ◌++◌, drop, flat_map, codes}
use Rattle.std.specs.String.{string_bytes}
use Rattle.pg_base.specs.Naming as spec
use Rattle.schema_build.proofs.naming.put_other_columns.Given as goal

abbrev pub invariant-loop-other : goal.invariant-loop-other
invariant-loop-other l =
    string_bytes l.out ++ flat_map (λ place. codes "And" ++ spec.column_type_name l.t place) (drop l.other-index l.others)
    ≡ string_bytes l.fn.out ++ flat_map (λ place. codes "And" ++ spec.column_type_name l.t place) l.others
