-- What is on, by the tags of tables, columns, keys and links.
use Rattle.std.specs.Prelude.{ℕ, ◌+◌, Bool, true, if◌then◌else◌, List, [], ◌∷◌, filter, slice_get, unwrap_or}
use Rattle.std.specs.List.{list_any}
use Rattle.pg_base.specs.declared.tags.Tags.{Tags}
use Rattle.pg_base.specs.declared.table_def.ColumnDef.{ColumnDef}
use Rattle.pg_base.specs.declared.table_def.TableDef.{TableDef}

-- the places of the behaviours in tags
abbrev pub selecting : ℕ
selecting = 0

abbrev pub listing : ℕ
listing = 1

abbrev pub connecting : ℕ
connecting = 2

abbrev pub inserting : ℕ
inserting = 3

abbrev pub updating : ℕ
updating = 4

abbrev pub deleting : ℕ
deleting = 5

abbrev pub ordering : ℕ
ordering = 6

abbrev pub filtering : ℕ
filtering = 7

abbrev pub is_on : ℕ → Tags → Bool
is_on behavior tags = unwrap_or (slice_get tags.behavior behavior) true

-- some column of the table has the behaviour
abbrev pub some_column : ℕ → TableDef → Bool
some_column behavior t = list_any (λ c. is_on behavior c.tags) t.columns

-- the columns with the behaviour, in the table's order
abbrev pub columns_on : ℕ → TableDef → List ColumnDef
columns_on behavior t = filter (λ c. is_on behavior c.tags) t.columns

-- the same by their places, which count from a number on
abbrev pub columns_with : ℕ → ℕ → List ColumnDef → List ℕ
columns_with behavior from [] = []
columns_with behavior from (c ∷ columns) =
    if is_on behavior c.tags then from ∷ columns_with behavior (from + 1) columns
    else columns_with behavior (from + 1) columns
