-- The rows of a table that a key and a condition pick, and rows by their numbers.
use Rattle.std.specs.Prelude.{ℕ, ◌<◌, Bool, true, false, ◌==◌, ◌&&◌, not, List, [], ◌∷◌, Option, Some, None, filter, map, slice_get, unwrap_or, if◌then◌else◌, ⊤}
use Rattle.std.specs.Ordering.{int_eq}
use Rattle.std.specs.Bool.{beq}
use Rattle.std.specs.Str.{bytes_eq}
use Rattle.pg_base.specs.declared.cell.Cell.{Cell}
use Rattle.pg_base.specs.declared.cell.Cell.TheVariants as cell
use Rattle.pg_base.specs.Lists.{Each}
use Rattle.rel_model.specs.declared.tables.Row.{Row}
use Rattle.rel_model.specs.declared.tables.TableRows.{TableRows}
use Rattle.rel_model.specs.declared.tables.Tables.{Tables}
use Rattle.rel_model.specs.declared.window.Equal.{Equal}

-- the cells are one; a null is the same as a null
unfoldable pub same_cell : Cell → Cell → Bool
same_cell cell.Null cell.Null = true
same_cell (cell.Int a) (cell.Int b) = int_eq a b
same_cell (cell.Bool a) (cell.Bool b) = beq a b
same_cell (cell.Text a) (cell.Text b) = bytes_eq a b
same_cell (cell.EnumCase a) (cell.EnumCase b) = a == b
same_cell _ _ = false

unfoldable pub is_null : Cell → Bool
is_null cell.Null = true
is_null (cell.Int n) = false
is_null (cell.Bool b) = false
is_null (cell.Text t) = false
is_null (cell.EnumCase place) = false

-- the cell at a place, a null where there is none
abbrev pub cell_at : List Cell → ℕ → Cell
cell_at cells place = unwrap_or (slice_get cells place) cell.Null

-- a key finds equal cells, and a null in it finds nothing
abbrev pub has_key : List ℕ → List Cell → List Cell → Bool
has_key (place ∷ by) (value ∷ key) cells =
    (not (is_null value) && same_cell (cell_at cells place) value) && has_key by key cells
has_key _ _ cells = true

-- a condition finds equal cells, and a null in it finds nulls
abbrev pub meets : List Equal → List Cell → Bool
meets [] cells = true
meets (e ∷ condition) cells = same_cell (cell_at cells e.column) e.cell && meets condition cells

abbrev pub rows_in : Option TableRows → List Row
rows_in None = []
rows_in (Some t) = t.rows

-- the rows of a table, none where there is no such table
abbrev pub rows_of : Tables → ℕ → List Row
rows_of tables table = rows_in (slice_get tables.lists table)

abbrev pub passes : List ℕ → List Cell → List Equal → Row → Bool
passes by key condition row = has_key by key row.cells && meets condition row.cells

abbrev pub picked_from : List ℕ → List Cell → List Equal → List Row → List Row
picked_from by key condition rows = filter (passes by key condition) rows

-- the rows of a table, in row order, whose cells at these places are the key, and that meet the condition
abbrev pub picked : Tables → ℕ → List ℕ → List Cell → List Equal → List Row
picked tables table by key condition = picked_from by key condition (rows_of tables table)

-- ---- rows by their numbers

abbrev pub numbers_of : List Row → List ℕ
numbers_of rows = map (λ r. r.number) rows

abbrev pub row_numbered : List Row → ℕ → Option Row
row_numbered [] number = None
row_numbered (row ∷ rows) number = if row.number == number then Some row else row_numbered rows number

abbrev pub with_row : Option Row → List Row → List Row
with_row None rows = rows
with_row (Some row) rows = row ∷ rows

-- the rows that have these numbers, in their order
abbrev pub rows_numbered : List Row → List ℕ → List Row
rows_numbered rows [] = []
rows_numbered rows (n ∷ numbers) = with_row (row_numbered rows n) (rows_numbered rows numbers)

-- the rows of a table that have these numbers, in their order
abbrev pub rows_at : Tables → ℕ → List ℕ → List Row
rows_at tables table numbers = rows_numbered (rows_of tables table) numbers

-- each row has a number above those before it, as the rows of a valid table have
abbrev pub AreRising : List Row → Type 0
AreRising [] = ⊤
AreRising (r ∷ rows) = Each (λ s. r.number < s.number) rows × AreRising rows
