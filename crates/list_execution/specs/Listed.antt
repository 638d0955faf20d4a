-- The same definitions over the lists that the code goes through.
use Rattle.std.specs.Prelude.{Bool, false, ◌||◌, List, [], ◌∷◌}
use Rattle.pg_base.specs.declared.value.Value.{Value}
use Rattle.pg_base.specs.declared.value.Member.{Member}
use Rattle.pg_base.specs.declared.schema.TypeRef.{TypeRef}
use Rattle.pg_base.specs.declared.schema.ArgDef.{ArgDef}
use Rattle.pg_base.specs.Schema.{SchemaParts}
use Rattle.place_tree.specs.Arguments.{has_null, type_in}

abbrev pub some_null : SchemaParts → TypeRef → List Value → Bool
some_null schema ty [] = false
some_null schema ty (v ∷ items) = has_null schema ty v || some_null schema ty items

abbrev pub some_member_null : SchemaParts → List ArgDef → List Member → Bool
some_member_null schema inputs [] = false
some_member_null schema inputs (m ∷ members) =
    has_null schema (type_in inputs m.name) m.value || some_member_null schema inputs members
