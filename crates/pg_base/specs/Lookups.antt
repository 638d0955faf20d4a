-- What stands at the places of a catalog. Where nothing stands there, an empty one of its kind does.
use Rattle.std.specs.Prelude.{ℕ, ◌+◌, Bool, false, ◌==◌, if◌then◌else◌, List, [], ◌∷◌}
use Rattle.std.specs.Prelude.{Option, Some, None, slice_get, unwrap_or}
use Rattle.std.specs.Option.{option_and_then}
use Rattle.std.specs.List.{list_any, list_all}
use Rattle.pg_base.specs.Catalog.{CatalogParts}
use Rattle.pg_base.specs.Tags.{no_tags}
use Rattle.pg_base.specs.declared.enum_def.EnumDef.{EnumDef}
use Rattle.pg_base.specs.declared.table_def.ColumnDef.{ColumnDef}
use Rattle.pg_base.specs.declared.table_def.KeyDef.{KeyDef}
use Rattle.pg_base.specs.declared.table_def.LinkDef.{LinkDef}
use Rattle.pg_base.specs.declared.table_def.TableDef.{TableDef}
use Rattle.pg_base.specs.declared.kind.Kind.TheVariants as kind

-- ---- enums, tables, columns and keys

abbrev pub no_enum : EnumDef
no_enum = record { name = []; cases = []; tags = no_tags }

abbrev pub enum_at : CatalogParts → ℕ → EnumDef
enum_at catalog place = unwrap_or (slice_get catalog.enums place) no_enum

abbrev pub no_table : TableDef
no_table = record { name = []; columns = []; keys = []; links = []; tags = no_tags }

abbrev pub table_at : CatalogParts → ℕ → TableDef
table_at catalog place = unwrap_or (slice_get catalog.tables place) no_table

abbrev pub no_column : ColumnDef
no_column = record { name = []; kind = kind.Text; not_null = false; default = None; identity = false; tags = no_tags }

abbrev pub column_at : TableDef → ℕ → ColumnDef
column_at t place = unwrap_or (slice_get t.columns place) no_column

abbrev pub no_key : KeyDef
no_key = record { name = []; columns = []; primary = false; tags = no_tags }

abbrev pub key_in : TableDef → ℕ → KeyDef
key_in t place = unwrap_or (slice_get t.keys place) no_key

-- ---- the same, where it may be that nothing stands there

abbrev pub columns_in : Option TableDef → List ColumnDef
columns_in None = []
columns_in (Some t) = t.columns

abbrev pub columns_of : CatalogParts → ℕ → List ColumnDef
columns_of catalog table = columns_in (slice_get catalog.tables table)

abbrev pub key_at : CatalogParts → ℕ → ℕ → Option KeyDef
key_at catalog table key = option_and_then (λ t. slice_get t.keys key) (slice_get catalog.tables table)

abbrev pub link_at : CatalogParts → ℕ → ℕ → Option LinkDef
link_at catalog table link = option_and_then (λ t. slice_get t.links link) (slice_get catalog.tables table)

-- ---- links

abbrev pub is_among : List ℕ → ℕ → Bool
is_among places place = list_any (λ other. other == place) places

-- some key of the referring table has all its columns among the link's, so that at most one row refers to a row
abbrev pub finds_one : Option TableDef → LinkDef → Bool
finds_one None link = false
finds_one (Some t) link = list_any (λ k. list_all (is_among link.columns) k.columns) t.keys
