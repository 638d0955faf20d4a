-- What mutations take and give.
use Rattle.std.specs.Prelude.{ℕ, true, false, List, [], ◌∷◌, ◌++◌, codes}
use Rattle.pg_base.specs.declared.table_def.KeyDef.{KeyDef}
use Rattle.pg_base.specs.declared.table_def.TableDef.{TableDef}
use Rattle.pg_base.specs.Schema.{string}
use Rattle.pg_base.specs.declared.schema.ArgDef.{ArgDef}
use Rattle.pg_base.specs.declared.schema.FieldDef.{FieldDef}
use Rattle.pg_base.specs.declared.does.Does.TheVariants as does
use Rattle.pg_base.specs.declared.role.Role.{Role}
use Rattle.pg_base.specs.declared.role.Role.TheVariants as role
use Rattle.pg_base.specs.Naming.{row_field_name}
use Rattle.pg_base.specs.Roles.{place_of}
use Rattle.pg_base.specs.TypeRefs.{one, argument, field}
use Rattle.pg_base.specs.ColumnFields.{key_arguments}

-- the client's own mark of a request
abbrev pub client_id : ArgDef
client_id = argument (codes "clientMutationId") (one string false)

abbrev pub create_input_fields : List Role → ℕ → TableDef → List ArgDef
create_input_fields types table t =
    client_id ∷ argument (row_field_name t) (one (place_of types (role.Input table)) true) ∷ []

abbrev pub update_input_fields : List Role → ℕ → TableDef → KeyDef → List ArgDef
update_input_fields types table t k =
    client_id ∷ (key_arguments types t k
    ++ argument (row_field_name t ++ codes "Patch") (one (place_of types (role.Patch table)) true) ∷ [])

abbrev pub delete_input_fields : List Role → TableDef → KeyDef → List ArgDef
delete_input_fields types t k = client_id ∷ key_arguments types t k

abbrev pub payload_fields : List Role → ℕ → TableDef → List FieldDef
payload_fields types table t =
    field (codes "clientMutationId") (one string false) does.ClientId
    ∷ field (row_field_name t) (one (place_of types (role.Row table)) false) does.Payload ∷ []
