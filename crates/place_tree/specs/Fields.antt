-- The fields that places have, and the columns that names of the schema stand for.
use Rattle.std.specs.Prelude.{ℕ, ◌+◌, ◌-◌, ◌/◌, ◌%◌, Bool, true, false, ◌==◌, not, if◌then◌else◌, List, [], ◌∷◌, Option, Some, None, slice_get, option_map}
use Rattle.std.specs.List.{list_any, list_all}
use Rattle.std.specs.Str.{bytes_eq}
use Rattle.pg_base.specs.Catalog.{CatalogParts}
use Rattle.pg_base.specs.declared.table_def.ColumnDef.{ColumnDef}
use Rattle.pg_base.specs.declared.table_def.KeyDef.{KeyDef}
use Rattle.pg_base.specs.declared.table_def.LinkDef.{LinkDef}
use Rattle.pg_base.specs.declared.table_def.TableDef.{TableDef}
use Rattle.rel_model.specs.declared.window.By.{By}
use Rattle.pg_base.specs.declared.schema.ArgDef.{ArgDef}
use Rattle.pg_base.specs.declared.schema.FieldDef.{FieldDef}
use Rattle.pg_base.specs.declared.does.Does.{Does}
use Rattle.pg_base.specs.declared.does.Does.TheVariants as does
use Rattle.pg_base.specs.Schema.{SchemaParts}
use Rattle.pg_base.specs.Base.{BaseParts}
use Rattle.pg_base.specs.Schema.{field_at}
use Rattle.place_tree.specs.declared.place.Place.{Place}

-- the number of the field `__typename`, which no type lists
abbrev pub typename : ℕ
typename = 4294967295

-- the definition of a place's field, and none for `__typename`
abbrev pub field_of : SchemaParts → Place → Option FieldDef
field_of schema p = field_at schema p.ty p.field

abbrev pub does_of : SchemaParts → Place → Option Does
does_of schema p = option_map (λ f. f.does) (field_of schema p)

abbrev pub columns_in : Option TableDef → List ColumnDef
columns_in None = []
columns_in (Some t) = t.columns

abbrev pub columns_of : CatalogParts → ℕ → List ColumnDef
columns_of catalog table = columns_in (slice_get catalog.tables table)

abbrev pub key_in : Option TableDef → ℕ → Option KeyDef
key_in None key = None
key_in (Some t) key = slice_get t.keys key

abbrev pub key_at : CatalogParts → ℕ → ℕ → Option KeyDef
key_at catalog table key = key_in (slice_get catalog.tables table) key

abbrev pub link_in : Option TableDef → ℕ → Option LinkDef
link_in None link = None
link_in (Some t) link = slice_get t.links link

abbrev pub link_at : CatalogParts → ℕ → ℕ → Option LinkDef
link_at catalog table link = link_in (slice_get catalog.tables table) link

abbrev pub is_among : List ℕ → ℕ → Bool
is_among places place = list_any (λ other. other == place) places

-- whether some key of the referring table has all its columns among the link's, so that one row at most refers to a row
abbrev pub finds_one : Option TableDef → LinkDef → Bool
finds_one None link = false
finds_one (Some t) link = list_any (λ k. list_all (is_among link.columns) k.columns) t.keys

abbrev pub finds_many : Option TableDef → Option LinkDef → Bool
finds_many t None = false
finds_many t (Some link) = not (finds_one t link)

-- whether a field gives a list of rows
abbrev pub finds_list : CatalogParts → Does → Bool
finds_list catalog (does.Column table column) = false
finds_list catalog (does.Forward table link) = false
finds_list catalog (does.Backward table link) = finds_many (slice_get catalog.tables table) (link_at catalog table link)
finds_list catalog (does.All table) = true
finds_list catalog (does.ByKey table key) = false
finds_list catalog (does.Create table) = false
finds_list catalog (does.Update table key) = false
finds_list catalog (does.Delete table key) = false
finds_list catalog does.Nodes = false
finds_list catalog does.Edges = false
finds_list catalog does.PageInfo = false
finds_list catalog does.Total = false
finds_list catalog does.Node = false
finds_list catalog does.Cursor = false
finds_list catalog does.HasNext = false
finds_list catalog does.HasPrevious = false
finds_list catalog does.Start = false
finds_list catalog does.End = false
finds_list catalog does.ClientId = false
finds_list catalog does.Payload = false

abbrev pub is_list_of : CatalogParts → Option Does → Bool
is_list_of catalog None = false
is_list_of catalog (Some d) = finds_list catalog d

abbrev pub is_list : BaseParts → Place → Bool
is_list base p = is_list_of base.catalog (does_of base.schema p)

-- whether it is one of the fields that ask for rows of a table
abbrev pub is_row_field : Option Does → Bool
is_row_field (Some (does.All table)) = true
is_row_field (Some (does.ByKey table key)) = true
is_row_field (Some (does.Forward table link)) = true
is_row_field (Some (does.Backward table link)) = true
is_row_field _ = false

-- ---- columns by the names of the schema

-- the place of the first that has the name
abbrev pub place_from : ℕ → List (List ℕ) → List ℕ → Option ℕ
place_from from [] name = None
place_from from (n ∷ names) name = if bytes_eq n name then Some from else place_from (from + 1) names name

abbrev pub place_named : List (List ℕ) → List ℕ → Option ℕ
place_named names name = place_from 0 names name

abbrev pub arg_names : List ArgDef → List (List ℕ)
arg_names [] = []
arg_names (a ∷ args) = a.name ∷ arg_names args

abbrev pub by_column : Option ℕ → Bool → Option By
by_column None descending = None
by_column (Some column) descending = Some (record { column = column; descending = descending })

-- the column that a case of an order stands for: NATURAL, which stands for none, and then two for each column
abbrev pub by_case : List ℕ → ℕ → Option By
by_case columns case =
    if case == 0 then None else by_column (slice_get columns ((case - 1) / 2)) ((case - 1) % 2 == 1)
