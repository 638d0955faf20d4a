-- The fields of Query and Mutation.
use Rattle.std.specs.Prelude.{ℕ, true, false, List, [], ◌∷◌, ◌++◌, Option, None, unwrap_or, codes}
use Rattle.pg_base.specs.Catalog.{CatalogParts}
use Rattle.pg_base.specs.declared.table_def.KeyDef.{KeyDef}
use Rattle.pg_base.specs.declared.table_def.TableDef.{TableDef}
use Rattle.pg_base.specs.declared.schema.FieldDef.{FieldDef}
use Rattle.pg_base.specs.declared.does.Does.{Does}
use Rattle.pg_base.specs.declared.does.Does.TheVariants as does
use Rattle.pg_base.specs.declared.role.Role.{Role}
use Rattle.pg_base.specs.declared.role.Role.TheVariants as role
use Rattle.pg_base.specs.Listing.{when, all_when, each_at}
use Rattle.pg_base.specs.Naming.{row_type_name, rows_type_name, row_field_name, by_columns}
use Rattle.pg_base.specs.Behaviors.{is_on, selecting, connecting}
use Rattle.pg_base.specs.Roles.{each_key, has_create, has_update, has_delete, place_of}
use Rattle.pg_base.specs.TypeRefs.{one, argument}
use Rattle.pg_base.specs.ColumnFields.{key_arguments}
use Rattle.pg_base.specs.Connections.{connection_arguments}

-- ---- Query

abbrev pub all_field : List Role → ℕ → TableDef → FieldDef
all_field types table t = record {
  name = codes "all" ++ rows_type_name t;
  args = connection_arguments types table t;
  ty = one (place_of types (role.Connection table)) false;
  does = does.All table;
  deprecated = None;
}

abbrev pub key_field : List Role → ℕ → TableDef → ℕ → KeyDef → FieldDef
key_field types table t key k = record {
  name = unwrap_or k.tags.field_name (row_field_name t ++ by_columns t k.columns);
  args = key_arguments types t k;
  ty = one (place_of types (role.Row table)) false;
  does = does.ByKey table key;
  deprecated = k.tags.deprecated;
}

abbrev pub query_fields_of : List Role → ℕ → TableDef → List FieldDef
query_fields_of types table t =
    when (is_on connecting t.tags) (all_field types table t)
    ++ all_when (is_on selecting t.tags) (each_key (λ key k. key_field types table t key k ∷ []) t)

abbrev pub query_fields : CatalogParts → List Role → List FieldDef
query_fields catalog types = each_at (query_fields_of types) 0 catalog.tables

-- ---- Mutation

-- a field that takes one input and gives a payload
abbrev pub change_field : List Role → List ℕ → Role → Role → Does → Option (List ℕ) → FieldDef
change_field types name input payload does deprecated = record {
  name = name;
  args = argument (codes "input") (one (place_of types input) true) ∷ [];
  ty = one (place_of types payload) false;
  does = does;
  deprecated = deprecated;
}

abbrev pub create_field : List Role → ℕ → TableDef → FieldDef
create_field types table t =
    change_field types (codes "create" ++ row_type_name t)
    (role.CreateInput table) (role.CreatePayload table) (does.Create table) None

abbrev pub update_field : List Role → ℕ → TableDef → ℕ → KeyDef → FieldDef
update_field types table t key k =
    change_field types (codes "update" ++ row_type_name t ++ by_columns t k.columns)
    (role.UpdateInput table key) (role.UpdatePayload table) (does.Update table key) k.tags.deprecated

abbrev pub delete_field : List Role → ℕ → TableDef → ℕ → KeyDef → FieldDef
delete_field types table t key k =
    change_field types (codes "delete" ++ row_type_name t ++ by_columns t k.columns)
    (role.DeleteInput table key) (role.DeletePayload table) (does.Delete table key) k.tags.deprecated

abbrev pub mutation_fields_of : List Role → ℕ → TableDef → List FieldDef
mutation_fields_of types table t =
    when (has_create t) (create_field types table t)
    ++ all_when (has_update t) (each_key (λ key k. update_field types table t key k ∷ []) t)
    ++ all_when (has_delete t) (each_key (λ key k. delete_field types table t key k ∷ []) t)

abbrev pub mutation_fields : CatalogParts → List Role → List FieldDef
mutation_fields catalog types = each_at (mutation_fields_of types) 0 catalog.tables
