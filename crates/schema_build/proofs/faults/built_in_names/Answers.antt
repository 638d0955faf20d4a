use Rattle.std.proofs.Common.{[], ◌∷◌, codes}
use Rattle.pg_base.specs.declared.build_fault.Origin.TheVariants as origin
use Rattle.pg_base.specs.SchemaFaults.{named}
use Rattle.schema_build.proofs.Looking.{no_names}
use Rattle.schema_build.proofs.faults.built_in_names.Goals as goal

pub returns : goal.returns
returns c =
    c.in_ok-put_built_in-3.ensures (named (codes "String") origin.BuiltIn ∷ named (codes "Boolean") origin.BuiltIn ∷ [])
    (c.in_ok-put_built_in-2.ensures (named (codes "Boolean") origin.BuiltIn ∷ [])
    (c.in_ok-put_built_in.ensures [] (no_names c.new-names.result c.new-names.ensures.empty)))
