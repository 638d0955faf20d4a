-- Columns as fields of rows and of inputs, and as cases of orders.
use Rattle.std.specs.Prelude.{ℕ, Bool, true, false, not, ◌&&◌, is_none, List, [], ◌∷◌, ◌++◌, map, filter, flat_map}
use Rattle.std.specs.Prelude.{codes}
use Rattle.pg_base.specs.declared.table_def.ColumnDef.{ColumnDef}
use Rattle.pg_base.specs.declared.table_def.KeyDef.{KeyDef}
use Rattle.pg_base.specs.declared.table_def.TableDef.{TableDef}
use Rattle.pg_base.specs.declared.schema.ArgDef.{ArgDef}
use Rattle.pg_base.specs.declared.schema.FieldDef.{FieldDef}
use Rattle.pg_base.specs.declared.does.Does.TheVariants as does
use Rattle.pg_base.specs.declared.role.Role.{Role}
use Rattle.pg_base.specs.Listing.{when, each_at}
use Rattle.pg_base.specs.EnumCases.{case_of_label}
use Rattle.pg_base.specs.Lookups.{column_at}
use Rattle.pg_base.specs.Naming.{column_called, column_field_name}
use Rattle.pg_base.specs.Behaviors.{is_on, columns_on, selecting, inserting, updating, ordering, filtering}
use Rattle.pg_base.specs.TypeRefs.{one, type_of_kind, argument}

-- ---- fields of rows

abbrev pub column_field : List Role → ℕ → ℕ → ColumnDef → FieldDef
column_field types table place c = record {
  name = column_field_name c;
  args = [];
  ty = one (type_of_kind types c.kind) c.not_null;
  does = does.Column table place;
  deprecated = c.tags.deprecated;
}

abbrev pub column_fields : List Role → ℕ → TableDef → List FieldDef
column_fields types table t =
    each_at (λ place c. when (is_on selecting c.tags) (column_field types table place c)) 0 t.columns

-- ---- fields of inputs

abbrev pub input_field : List Role → Bool → ColumnDef → ArgDef
input_field types not_null c = argument (column_field_name c) (one (type_of_kind types c.kind) not_null)

abbrev pub condition_fields : List Role → TableDef → List ArgDef
condition_fields types t = map (input_field types false) (columns_on filtering t)

-- a new row must be given what takes no null and has no value of its own
abbrev pub must_be_given : ColumnDef → Bool
must_be_given c = c.not_null && (is_none c.default && not c.identity)

abbrev pub insert_fields : List Role → TableDef → List ArgDef
insert_fields types t = map (λ c. input_field types (must_be_given c) c) (columns_on inserting t)

abbrev pub patch_fields : List Role → TableDef → List ArgDef
patch_fields types t = map (input_field types false) (columns_on updating t)

-- a key's columns, in the key's order
abbrev pub key_arguments : List Role → TableDef → KeyDef → List ArgDef
key_arguments types t k = map (λ place. input_field types true (column_at t place)) k.columns

-- ---- cases of orders

abbrev pub column_cases : ColumnDef → List (List ℕ)
column_cases c =
    (case_of_label (column_called c) ++ codes "_ASC") ∷ (case_of_label (column_called c) ++ codes "_DESC") ∷ []

-- the columns that an order can go by
abbrev pub order_columns : TableDef → List ColumnDef
order_columns t = filter (λ c. is_on ordering t.tags && is_on ordering c.tags) t.columns

abbrev pub order_cases : TableDef → List (List ℕ)
order_cases t = codes "NATURAL" ∷ flat_map column_cases (order_columns t)
