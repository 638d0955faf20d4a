-- The schema of a catalog: each type by what it is for.
use Rattle.std.specs.Prelude.{List, Some, None, if◌then◌else◌, map}
use Rattle.pg_base.specs.Catalog.{CatalogParts}
use Rattle.pg_base.specs.Schema.{SchemaParts}
use Rattle.pg_base.specs.declared.schema.TypeKind.{TypeKind}
use Rattle.pg_base.specs.declared.schema.TypeKind.TheVariants as kind
use Rattle.pg_base.specs.declared.schema.TypeDef.{TypeDef}
use Rattle.pg_base.specs.declared.role.Role.{Role}
use Rattle.pg_base.specs.declared.role.Role.TheVariants as role
use Rattle.pg_base.specs.EnumCases.{case_of_label}
use Rattle.pg_base.specs.Lookups.{enum_at, table_at, key_in}
use Rattle.pg_base.specs.Roles.{roles_of, name_of_role, place_of, has_mutation}
use Rattle.pg_base.specs.ColumnFields.{condition_fields, insert_fields, patch_fields, order_cases}
use Rattle.pg_base.specs.Connections.{page_fields, connection_fields, edge_fields}
use Rattle.pg_base.specs.RowFields.{row_fields}
use Rattle.pg_base.specs.MutationInputs.{create_input_fields, update_input_fields, delete_input_fields, payload_fields}
use Rattle.pg_base.specs.RootFields.{query_fields, mutation_fields}

-- what a type has, where the schema's types are these
abbrev pub kind_of_role : CatalogParts → List Role → Role → TypeKind
kind_of_role catalog types role.BigInt = kind.Scalar
kind_of_role catalog types role.Cursor = kind.Scalar
kind_of_role catalog types role.PageInfo = kind.Object (page_fields types)
kind_of_role catalog types (role.Enum place) = kind.Enum (map case_of_label (enum_at catalog place).cases)
kind_of_role catalog types (role.Row table) = kind.Object (row_fields catalog types table)
kind_of_role catalog types (role.Connection table) =
    kind.Object (connection_fields types table (table_at catalog table))
kind_of_role catalog types (role.Edge table) = kind.Object (edge_fields types table)
kind_of_role catalog types (role.Order table) = kind.Enum (order_cases (table_at catalog table))
kind_of_role catalog types (role.Condition table) = kind.Input (condition_fields types (table_at catalog table))
kind_of_role catalog types (role.Input table) = kind.Input (insert_fields types (table_at catalog table))
kind_of_role catalog types (role.Patch table) = kind.Input (patch_fields types (table_at catalog table))
kind_of_role catalog types role.Query = kind.Object (query_fields catalog types)
kind_of_role catalog types role.Mutation = kind.Object (mutation_fields catalog types)
kind_of_role catalog types (role.CreateInput table) =
    kind.Input (create_input_fields types table (table_at catalog table))
kind_of_role catalog types (role.CreatePayload table) =
    kind.Object (payload_fields types table (table_at catalog table))
kind_of_role catalog types (role.UpdateInput table key) =
    kind.Input (update_input_fields types table (table_at catalog table) (key_in (table_at catalog table) key))
kind_of_role catalog types (role.UpdatePayload table) =
    kind.Object (payload_fields types table (table_at catalog table))
kind_of_role catalog types (role.DeleteInput table key) =
    kind.Input (delete_input_fields types (table_at catalog table) (key_in (table_at catalog table) key))
kind_of_role catalog types (role.DeletePayload table) =
    kind.Object (payload_fields types table (table_at catalog table))

abbrev pub type_of_role : CatalogParts → List Role → Role → TypeDef
type_of_role catalog types r = record { name = name_of_role catalog r; kind = kind_of_role catalog types r }

abbrev pub schema_with : CatalogParts → List Role → SchemaParts
schema_with catalog types = record {
  types = map (type_of_role catalog types) types;
  query = place_of types role.Query;
  mutation = if has_mutation catalog then Some (place_of types role.Mutation) else None;
}

unfoldable pub schema_of : CatalogParts → SchemaParts
schema_of catalog = schema_with catalog (roles_of catalog)
