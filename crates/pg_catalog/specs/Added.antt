-- What a part adds to the catalog so far.
use Rattle.std.specs.Prelude.{ℕ, Bool, false, true, List, [], ◌∷◌, ◌++◌, map, Option, None, Some, if◌then◌else◌}
use Rattle.pg_base.specs.Catalog.{CatalogParts, constraint_names}
use Rattle.pg_base.specs.Tags.{no_tags}
use Rattle.pg_base.specs.declared.tags.Tags.{Tags}
use Rattle.pg_base.specs.declared.enum_def.EnumDef.{EnumDef}
use Rattle.pg_base.specs.declared.table_def.ColumnDef.{ColumnDef}
use Rattle.pg_base.specs.declared.table_def.KeyDef.{KeyDef}
use Rattle.pg_base.specs.declared.table_def.LinkDef.{LinkDef}
use Rattle.pg_base.specs.declared.table_def.TableDef.{TableDef}
use Rattle.pg_catalog.specs.declared.part.Part.{Part}
use Rattle.pg_catalog.specs.declared.part.Part.TheVariants as part
use Rattle.pg_catalog.specs.declared.part.EnumPart.{EnumPart}
use Rattle.pg_catalog.specs.declared.part.TablePart.{TablePart}
use Rattle.pg_catalog.specs.declared.part.KeyPart.{KeyPart}
use Rattle.pg_catalog.specs.declared.part.LinkPart.{LinkPart}
use Rattle.pg_catalog.specs.declared.part.Commented.{Commented}
use Rattle.pg_catalog.specs.declared.part.Commented.TheVariants as commented
use Rattle.pg_catalog.specs.Names.{enum_names, table_names, column_names, stands, place_of, table_of, changed}
use Rattle.pg_catalog.specs.Columns.{column_of}
use Rattle.pg_catalog.specs.Constraints.{key_of, link_of}

abbrev pub enum_of : EnumPart → EnumDef
enum_of e = record { name = e.name; cases = e.cases; tags = no_tags }

abbrev pub new_table : List EnumDef → TablePart → TableDef
new_table enums t =
    record { name = t.name; columns = map (column_of enums) t.columns; keys = []; links = []; tags = no_tags }

-- the item of the name, among those of these names, changed
abbrev pub changed_named : {A : Type 0} → List A → Option ℕ → (A → A) → List A
changed_named items None change = items
changed_named items (Some at) change = changed items at change

abbrev pub with_table : CatalogParts → List ℕ → (TableDef → TableDef) → CatalogParts
with_table c name change = record c { tables = changed_named c.tables (place_of (table_names c) name) change }

abbrev pub takes_no_null : ColumnDef → ColumnDef
takes_no_null column = record column { not_null = true }

-- the columns at these places take no null
abbrev pub not_null_at : List ColumnDef → List ℕ → List ColumnDef
not_null_at columns [] = columns
not_null_at columns (at ∷ places) = not_null_at (changed columns at takes_no_null) places

-- the table with one more key; a primary key's columns take no null
abbrev pub columns_under : List ColumnDef → KeyDef → List ColumnDef
columns_under columns key = if key.primary then not_null_at columns key.columns else columns

abbrev pub holding : TableDef → KeyDef → TableDef
holding t key = record t { columns = columns_under t.columns key; keys = t.keys ++ key ∷ [] }

abbrev pub with_key : KeyPart → TableDef → TableDef
with_key k t = holding t (key_of t k)

abbrev pub linked : TableDef → LinkDef → TableDef
linked t link = record t { links = t.links ++ link ∷ [] }

-- the link's target is looked up in the catalog before it
abbrev pub with_link_to : CatalogParts → LinkPart → Option TableDef → TableDef → TableDef
with_link_to c l None t = t
with_link_to c l (Some target) t = linked t (link_of c t target l)

abbrev pub with_link : CatalogParts → LinkPart → TableDef → TableDef
with_link c l t = with_link_to c l (table_of c l.target) t

-- the key of the name with these tags, or else the link
abbrev pub with_tags_of_key : Tags → ℕ → TableDef → TableDef
with_tags_of_key tags at t = record t { keys = changed t.keys at (λ k. record k { tags = tags }) }

abbrev pub with_tags_of_link : Tags → ℕ → TableDef → TableDef
with_tags_of_link tags at t = record t { links = changed t.links at (λ l. record l { tags = tags }) }

abbrev pub with_constraint_tags : Tags → Option ℕ → Option ℕ → TableDef → TableDef
with_constraint_tags tags None None t = t
with_constraint_tags tags None (Some at) t = with_tags_of_link tags at t
with_constraint_tags tags (Some at) other t = with_tags_of_key tags at t

abbrev pub with_column_tags : Tags → List ℕ → TableDef → TableDef
with_column_tags tags name t =
    let place = place_of (column_names t) name in
    record t { columns = changed_named t.columns place (λ column. record column { tags = tags }) }

-- a comment on a key or a link of the name
abbrev pub with_named_tags : Tags → List ℕ → TableDef → TableDef
with_named_tags tags name t =
    with_constraint_tags tags (place_of (map (λ k. k.name) t.keys) name) (place_of (map (λ l. l.name) t.links) name) t

-- a comment's tags take the place of those before; where nothing has the name, nothing changes
abbrev pub commented_on : CatalogParts → Commented → Tags → CatalogParts
commented_on c (commented.Enum name) tags =
    record c { enums = changed_named c.enums (place_of (enum_names c) name) (λ e. record e { tags = tags }) }
commented_on c (commented.Table name) tags = with_table c name (λ t. record t { tags = tags })
commented_on c (commented.Column table name) tags =
    with_table c table (with_column_tags tags name)
commented_on c (commented.Constraint table name) tags =
    with_table c table (with_named_tags tags name)

-- the catalog after the part
unfoldable pub added : CatalogParts → Part → CatalogParts
added c (part.Enum e) = record c { enums = c.enums ++ enum_of e ∷ [] }
added c (part.Table t) = record c { tables = c.tables ++ new_table c.enums t ∷ [] }
added c (part.Key k) = with_table c k.table (with_key k)
added c (part.Link l) = with_table c l.table (with_link c l)
added c (part.Comment m) = commented_on c m.on m.tags

-- the test of the table, if there is one
abbrev pub tests : Option TableDef → (TableDef → Bool) → Bool
tests None test = false
tests (Some t) test = test t

-- what a comment speaks of stands
abbrev pub is_target : CatalogParts → Commented → Bool
is_target c (commented.Enum name) = stands (enum_names c) name
is_target c (commented.Table name) = stands (table_names c) name
is_target c (commented.Column table name) = tests (table_of c table) (λ t. stands (column_names t) name)
is_target c (commented.Constraint table name) = tests (table_of c table) (λ t. stands (constraint_names t) name)
