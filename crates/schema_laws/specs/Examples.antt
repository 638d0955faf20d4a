-- Small catalogs that are valid, and others that break one rule each.
use Rattle.std.specs.Prelude.{ℕ, pos, Bool, true, false, not, ◌==◌, List, [], ◌∷◌, map, Some, None, replicate, codes}
use Rattle.std.specs.List.{list_any}
use Rattle.pg_base.specs.Catalog.{CatalogParts}
use Rattle.pg_base.specs.Tags.{no_tags}
use Rattle.pg_base.specs.declared.cell.Cell.{Cell}
use Rattle.pg_base.specs.declared.cell.Cell.TheVariants as cell
use Rattle.pg_base.specs.declared.kind.Kind.{Kind}
use Rattle.pg_base.specs.declared.kind.Kind.TheVariants as kind
use Rattle.pg_base.specs.declared.enum_def.EnumDef.{EnumDef}
use Rattle.pg_base.specs.declared.table_def.ColumnDef.{ColumnDef}
use Rattle.pg_base.specs.declared.table_def.KeyDef.{KeyDef}
use Rattle.pg_base.specs.declared.table_def.LinkDef.{LinkDef}
use Rattle.pg_base.specs.declared.table_def.TableDef.{TableDef}

-- ---- parts without tags

abbrev pub column : List ℕ → Kind → ColumnDef
column name k = record { name = name; kind = k; not_null = false; default = None; identity = false; tags = no_tags }

abbrev pub not_null : List ℕ → Kind → ColumnDef
not_null name k = record { name = name; kind = k; not_null = true; default = None; identity = false; tags = no_tags }

abbrev pub identity : List ℕ → Kind → ColumnDef
identity name k = record { name = name; kind = k; not_null = true; default = None; identity = true; tags = no_tags }

abbrev pub with_default : List ℕ → Kind → Cell → ColumnDef
with_default name k value =
    record { name = name; kind = k; not_null = false; default = Some value; identity = false; tags = no_tags }

abbrev pub primary : List ℕ → List ℕ → KeyDef
primary name columns = record { name = name; columns = columns; primary = true; tags = no_tags }

abbrev pub unique : List ℕ → List ℕ → KeyDef
unique name columns = record { name = name; columns = columns; primary = false; tags = no_tags }

abbrev pub link : List ℕ → List ℕ → ℕ → List ℕ → LinkDef
link name columns target target_columns =
    record { name = name; columns = columns; target = target; target_columns = target_columns; tags = no_tags }

abbrev pub table : List ℕ → List ColumnDef → List KeyDef → List LinkDef → TableDef
table name columns keys links = record { name = name; columns = columns; keys = keys; links = links; tags = no_tags }

abbrev pub enum : List ℕ → List (List ℕ) → EnumDef
enum name cases = record { name = name; cases = cases; tags = no_tags }

abbrev pub catalog : List EnumDef → List TableDef → CatalogParts
catalog enums tables = record { enums = enums; tables = tables }

-- every behaviour but these is on
abbrev pub without : List ℕ → List Bool
without off = map (λ behavior. not (list_any (λ other. other == behavior) off)) (0 ∷ 1 ∷ 2 ∷ 3 ∷ 4 ∷ 5 ∷ 6 ∷ 7 ∷ [])

-- ---- valid

-- no table at all
abbrev pub empty : CatalogParts
empty = catalog [] []

-- CREATE TABLE t (id integer PRIMARY KEY);
abbrev pub t_by_id : TableDef
t_by_id = table (codes "t") (not_null (codes "id") kind.Int ∷ []) (primary (codes "t_pkey") (0 ∷ []) ∷ []) []

abbrev pub one_table : CatalogParts
one_table = catalog [] (t_by_id ∷ [])

-- CREATE TABLE u (t_id bigint REFERENCES t); integer and bigint can be compared
abbrev pub u_to_t : TableDef
u_to_t = table (codes "u") (column (codes "t_id") kind.BigInt ∷ []) [] (link (codes "u_t_id_fkey") (0
    ∷ []) 0 (0 ∷ []) ∷ [])

abbrev pub linked : CatalogParts
linked = catalog [] (t_by_id ∷ u_to_t ∷ [])

-- a table that refers to itself
abbrev pub tree : CatalogParts
tree = catalog [] (table (codes "t") (not_null (codes "id") kind.Int ∷ column (codes "up") kind.Int ∷ [])
    (primary (codes "t_pkey") (0 ∷ []) ∷ []) (link (codes "t_up_fkey") (1 ∷ []) 0 (0 ∷ []) ∷ []) ∷ [])

-- FOREIGN KEY (b, a) REFERENCES p (b, a), where the key of p is (a, b)
abbrev pub a_and_b : List ColumnDef
a_and_b = not_null (codes "a") kind.Int ∷ not_null (codes "b") (kind.Varchar 5) ∷ []

abbrev pub key_in_other_order : CatalogParts
key_in_other_order = catalog [] (table (codes "p") a_and_b (primary (codes "p_pkey") (0 ∷ 1 ∷ []) ∷ []) []
    ∷ table (codes "q") a_and_b [] (link (codes "q_fkey") (1 ∷ 0 ∷ []) 0 (1 ∷ 0 ∷ []) ∷ []) ∷ [])

-- an enum with a default, an identity, a truth value
abbrev pub enums_and_identity : CatalogParts
enums_and_identity = catalog (enum (codes "mood") (codes "sad" ∷ codes "ok" ∷ []) ∷ []) (table (codes "t")
    (identity (codes "id") kind.BigInt ∷ with_default (codes "m") (kind.Enum 0) (cell.EnumCase 1)
    ∷ with_default (codes "b") kind.Bool (cell.Bool true) ∷ with_default (codes "n") kind.Int (cell.Int (pos 7)) ∷ [])
    (unique (codes "t_id_key") (0 ∷ []) ∷ unique (codes "t_m_key") (1 ∷ []) ∷ []) [] ∷ [])

abbrev pub valid_catalogs : List CatalogParts
valid_catalogs = empty ∷ one_table ∷ linked ∷ tree ∷ key_in_other_order ∷ enums_and_identity ∷ []

-- ---- invalid

abbrev pub one_column : List ColumnDef
one_column = column (codes "a") kind.Int ∷ []

abbrev pub table_of : List ColumnDef → List KeyDef → List LinkDef → CatalogParts
table_of columns keys links = catalog [] (table (codes "t") columns keys links ∷ [])

abbrev pub two_tables_of_one_name : CatalogParts
two_tables_of_one_name = catalog [] (t_by_id ∷ t_by_id ∷ [])

abbrev pub table_named_as_enum : CatalogParts
table_named_as_enum = catalog (enum (codes "t") [] ∷ []) (t_by_id ∷ [])

abbrev pub two_columns_of_one_name : CatalogParts
two_columns_of_one_name = table_of (column (codes "a") kind.Int ∷ column (codes "a") kind.Text ∷ []) [] []

abbrev pub key_named_as_link : CatalogParts
key_named_as_link = table_of one_column (unique (codes "c") (0 ∷ []) ∷ []) (link (codes "c") (0 ∷ []) 0 (0 ∷ []) ∷ [])

-- 64 bytes
abbrev pub name_too_long : CatalogParts
name_too_long = catalog [] (table (replicate 64 97) [] [] [] ∷ [])

abbrev pub varchar_of_0 : CatalogParts
varchar_of_0 = table_of (column (codes "a") (kind.Varchar 0) ∷ []) [] []

abbrev pub no_such_enum : CatalogParts
no_such_enum = table_of (column (codes "a") (kind.Enum 0) ∷ []) [] []

abbrev pub identity_of_text : CatalogParts
identity_of_text = table_of (identity (codes "a") kind.Text ∷ []) [] []

abbrev pub default_of_other_kind : CatalogParts
default_of_other_kind = table_of (with_default (codes "a") kind.Int (cell.Bool true) ∷ []) [] []

-- the enum has two cases, at 0 and 1
abbrev pub no_such_case : CatalogParts
no_such_case = catalog (enum (codes "e") (codes "x" ∷ codes "y" ∷ []) ∷ [])
    (table (codes "t") (with_default (codes "a") (kind.Enum 0) (cell.EnumCase 2) ∷ []) [] [] ∷ [])

abbrev pub no_such_column : CatalogParts
no_such_column = table_of one_column (unique (codes "k") (1 ∷ []) ∷ []) []

abbrev pub column_twice_in_key : CatalogParts
column_twice_in_key = table_of one_column (unique (codes "k") (0 ∷ 0 ∷ []) ∷ []) []

abbrev pub primary_key_with_null : CatalogParts
primary_key_with_null = table_of one_column (primary (codes "k") (0 ∷ []) ∷ []) []

abbrev pub two_primary_keys : CatalogParts
two_primary_keys = table_of (not_null (codes "a") kind.Int ∷ not_null (codes "b") kind.Int ∷ [])
    (primary (codes "k") (0 ∷ []) ∷ primary (codes "l") (1 ∷ []) ∷ []) []

abbrev pub link_to_no_table : CatalogParts
link_to_no_table = table_of one_column [] (link (codes "l") (0 ∷ []) 1 (0 ∷ []) ∷ [])

abbrev pub link_to_no_key : CatalogParts
link_to_no_key = table_of one_column [] (link (codes "l") (0 ∷ []) 0 (0 ∷ []) ∷ [])

abbrev pub link_to_other_kind : CatalogParts
link_to_other_kind = catalog [] (t_by_id
    ∷ table (codes "u") (column (codes "a") kind.Text ∷ []) [] (link (codes "l") (0 ∷ []) 0 (0 ∷ []) ∷ []) ∷ [])

abbrev pub invalid_catalogs : List CatalogParts
invalid_catalogs =
    two_tables_of_one_name ∷ table_named_as_enum ∷ two_columns_of_one_name ∷ key_named_as_link ∷ name_too_long
    ∷ varchar_of_0 ∷ no_such_enum ∷ identity_of_text ∷ default_of_other_kind ∷ no_such_case ∷ no_such_column
    ∷ column_twice_in_key ∷ primary_key_with_null ∷ two_primary_keys ∷ link_to_no_table ∷ link_to_no_key
    ∷ link_to_other_kind ∷ []
