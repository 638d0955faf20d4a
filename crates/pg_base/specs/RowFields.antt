-- The fields of a table's rows: columns, the rows that they refer to, and the rows that refer to them.
use Rattle.std.specs.Prelude.{ℕ, false, ◌&&◌, ◌==◌, if◌then◌else◌, List, [], ◌++◌, Some, unwrap_or}
use Rattle.pg_base.specs.Catalog.{CatalogParts}
use Rattle.pg_base.specs.declared.table_def.LinkDef.{LinkDef}
use Rattle.pg_base.specs.declared.table_def.TableDef.{TableDef}
use Rattle.pg_base.specs.declared.schema.FieldDef.{FieldDef}
use Rattle.pg_base.specs.declared.does.Does.TheVariants as does
use Rattle.pg_base.specs.declared.role.Role.{Role}
use Rattle.pg_base.specs.declared.role.Role.TheVariants as role
use Rattle.pg_base.specs.Listing.{when, each_at}
use Rattle.pg_base.specs.Lookups.{table_at, finds_one}
use Rattle.pg_base.specs.Naming.{row_field_name, rows_field_name, by_columns}
use Rattle.pg_base.specs.Behaviors.{is_on, selecting, connecting}
use Rattle.pg_base.specs.Roles.{place_of}
use Rattle.pg_base.specs.TypeRefs.{one}
use Rattle.pg_base.specs.ColumnFields.{column_fields}
use Rattle.pg_base.specs.Connections.{connection_arguments}

-- the row that a row refers to by the link
abbrev pub forward_field : CatalogParts → List Role → ℕ → TableDef → ℕ → LinkDef → FieldDef
forward_field catalog types table t place l = record {
  name = unwrap_or l.tags.field_name (row_field_name (table_at catalog l.target) ++ by_columns t l.columns);
  args = [];
  ty = one (place_of types (role.Row l.target)) false;
  does = does.Forward table place;
  deprecated = l.tags.deprecated;
}

-- the one row, or the rows, of a table that refer to a row by the link
abbrev pub backward_row : List Role → ℕ → TableDef → ℕ → LinkDef → FieldDef
backward_row types table t place l = record {
  name = unwrap_or l.tags.foreign_field_name (row_field_name t ++ by_columns t l.columns);
  args = [];
  ty = one (place_of types (role.Row table)) false;
  does = does.Backward table place;
  deprecated = l.tags.deprecated;
}

abbrev pub backward_rows : List Role → ℕ → TableDef → ℕ → LinkDef → FieldDef
backward_rows types table t place l = record {
  name = unwrap_or l.tags.foreign_field_name (rows_field_name t ++ by_columns t l.columns);
  args = connection_arguments types table t;
  ty = one (place_of types (role.Connection table)) false;
  does = does.Backward table place;
  deprecated = l.tags.deprecated;
}

abbrev pub backward_field : List Role → ℕ → TableDef → ℕ → LinkDef → FieldDef
backward_field types table t place l =
    if finds_one (Some t) l then backward_row types table t place l else backward_rows types table t place l

abbrev pub forward_fields : CatalogParts → List Role → ℕ → TableDef → List FieldDef
forward_fields catalog types table t =
    each_at (λ place l. when (is_on selecting l.tags) (forward_field catalog types table t place l)) 0 t.links

-- of one table, the links to another
abbrev pub backward_fields_from : List Role → ℕ → ℕ → TableDef → List FieldDef
backward_fields_from types target table t =
    each_at
    (λ place l. when (l.target == target && is_on connecting l.tags) (backward_field types table t place l))
    0 t.links

abbrev pub backward_fields : CatalogParts → List Role → ℕ → List FieldDef
backward_fields catalog types target = each_at (backward_fields_from types target) 0 catalog.tables

abbrev pub row_fields : CatalogParts → List Role → ℕ → List FieldDef
row_fields catalog types table =
    column_fields types table (table_at catalog table)
    ++ forward_fields catalog types table (table_at catalog table)
    ++ backward_fields catalog types table
