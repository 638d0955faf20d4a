-- The names that tables, columns, keys and enums have in the schema.
use Rattle.std.specs.Prelude.{ℕ, List, [], ◌∷◌, ◌++◌, map, unwrap_or, codes}
use Rattle.name_rules.specs.Inflection.{singular_of, plural_of}
use Rattle.name_rules.specs.Names.{type_name_of, field_name_of}
use Rattle.pg_base.specs.declared.tags.Tags.{Tags}
use Rattle.pg_base.specs.declared.enum_def.EnumDef.{EnumDef}
use Rattle.pg_base.specs.declared.table_def.ColumnDef.{ColumnDef}
use Rattle.pg_base.specs.declared.table_def.TableDef.{TableDef}
use Rattle.pg_base.specs.Lookups.{column_at}

-- the name in the script, or the one that its tags put in its place
abbrev pub called : List ℕ → Tags → List ℕ
called name tags = unwrap_or tags.name name

abbrev pub enum_type_name : EnumDef → List ℕ
enum_type_name e = type_name_of (called e.name e.tags)

-- ---- a table's names: of one row and of several, as types and as fields

-- the table's name with its last part in the singular
abbrev pub singular_name : TableDef → List ℕ
singular_name t = singular_of (called t.name t.tags)

-- the plural of that singular
abbrev pub plural_name : TableDef → List ℕ
plural_name t = plural_of (singular_name t)

abbrev pub row_type_name : TableDef → List ℕ
row_type_name t = type_name_of (singular_name t)

abbrev pub rows_type_name : TableDef → List ℕ
rows_type_name t = type_name_of (plural_name t)

abbrev pub row_field_name : TableDef → List ℕ
row_field_name t = field_name_of (singular_name t)

abbrev pub rows_field_name : TableDef → List ℕ
rows_field_name t = field_name_of (plural_name t)

-- ---- columns

abbrev pub column_called : ColumnDef → List ℕ
column_called c = called c.name c.tags

abbrev pub column_field_name : ColumnDef → List ℕ
column_field_name c = field_name_of (column_called c)

abbrev pub column_type_name : TableDef → ℕ → List ℕ
column_type_name t place = type_name_of (column_called (column_at t place))

abbrev pub joined_by_and : List (List ℕ) → List ℕ
joined_by_and [] = []
joined_by_and (name ∷ []) = name
joined_by_and (name ∷ other ∷ names) = name ++ codes "And" ++ joined_by_and (other ∷ names)

-- `ByAAndB` of the columns a and b
abbrev pub by_columns : TableDef → List ℕ → List ℕ
by_columns t places = codes "By" ++ joined_by_and (map (column_type_name t) places)
