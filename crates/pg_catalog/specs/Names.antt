-- Names of what stands in a catalog, and their places.
use Rattle.std.specs.Prelude.{ℕ, Bool, nat_lt, List, [], ◌∷◌, ◌++◌, map, length, Option, None, Some, if◌then◌else◌, position, slice_get, slice_set, option_and_then, option_map}
use Rattle.std.specs.List.{list_any, filter_map}
use Rattle.std.specs.Str.{bytes_eq}
use Rattle.pg_base.specs.Limits.{most_name_bytes}
use Rattle.pg_base.specs.Catalog.{CatalogParts}
use Rattle.pg_base.specs.declared.table_def.TableDef.{TableDef}

abbrev pub enum_names : CatalogParts → List (List ℕ)
enum_names c = map (λ e. e.name) c.enums

abbrev pub table_names : CatalogParts → List (List ℕ)
table_names c = map (λ t. t.name) c.tables

abbrev pub column_names : TableDef → List (List ℕ)
column_names t = map (λ column. column.name) t.columns

-- the name is one of these
abbrev pub stands : List (List ℕ) → List ℕ → Bool
stands names name = list_any (bytes_eq name) names

-- its place among them
abbrev pub place_of : List (List ℕ) → List ℕ → Option ℕ
place_of names name = position (bytes_eq name) names

-- the places of those names that stand
abbrev pub places_of : List (List ℕ) → List (List ℕ) → List ℕ
places_of names some = filter_map (place_of names) some

-- the first name that stands before it already
abbrev pub first_double_after : List (List ℕ) → List (List ℕ) → Option (List ℕ)
first_double_after seen [] = None
first_double_after seen (name ∷ names) =
    if stands seen name then Some name else first_double_after (seen ++ name ∷ []) names

abbrev pub first_double : List (List ℕ) → Option (List ℕ)
first_double names = first_double_after [] names

-- a name longer than may be
abbrev pub is_long : List ℕ → Bool
is_long name = nat_lt most_name_bytes (length name)

-- the table of this name
abbrev pub table_of : CatalogParts → List ℕ → Option TableDef
table_of c name = option_and_then (slice_get c.tables) (place_of (table_names c) name)

-- columns' names, each after a `_`
abbrev pub joined : List (List ℕ) → List ℕ
joined [] = []
joined (column ∷ columns) = 95 ∷ (column ++ joined columns)

-- the list with the item at the place changed
abbrev pub put : {A : Type 0} → List A → ℕ → Option A → List A
put items at None = items
put items at (Some item) = slice_set items at item

abbrev pub changed : {A : Type 0} → List A → ℕ → (A → A) → List A
changed items at change = put items at (option_map change (slice_get items at))
