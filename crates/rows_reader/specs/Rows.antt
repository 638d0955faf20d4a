-- The cells of a row, and a table with one row more.
use Rattle.std.specs.Prelude.{ℕ, ℤ, pos, ◌+◌, ◌==◌, List, [], ◌∷◌, ◌++◌, map, Option, None, Some, position, slice_index_or}
use Rattle.pg_base.specs.declared.cell.Cell.{Cell}
use Rattle.pg_base.specs.declared.enum_def.EnumDef.{EnumDef}
use Rattle.pg_base.specs.declared.table_def.ColumnDef.{ColumnDef}
use Rattle.pg_base.specs.declared.table_def.TableDef.{TableDef}
use Rattle.rel_model.specs.declared.tables.TableRows.{TableRows}
use Rattle.ddl_reader.specs.declared.script.Literal.{Literal}
use Rattle.ddl_reader.specs.declared.script.Literal.TheVariants as literal
use Rattle.ddl_reader.specs.declared.script.RowText.{RowText}
use Rattle.rows_reader.specs.Cells.{cell_of, raised}

abbrev pub value_in : List Literal → Option ℕ → Literal
value_in cells None = literal.Default
value_in cells (Some i) = slice_index_or cells i literal.Default

-- the value that the row gives the column at the place, DEFAULT where it doesn't name that column
abbrev pub value_at : RowText → ℕ → Literal
value_at row at = value_in row.cells (position (λ place. place == at) row.columns)

-- a column of a table, its last identity value, and the value that a row gives it
pub record Slot : Type 0 where
  pub column : ColumnDef
  pub counter : ℤ
  pub value : Literal

-- those of the columns from a place on
abbrev pub slots_from : ℕ → List ColumnDef → List ℤ → RowText → List Slot
slots_from at [] counters row = []
slots_from at (column ∷ columns) counters row =
    record { column = column; counter = slice_index_or counters at (pos 0); value = value_at row at }
    ∷ slots_from (at + 1) columns counters row

abbrev pub slots_of : List ColumnDef → List ℤ → RowText → List Slot
slots_of columns counters row = slots_from 0 columns counters row

-- the row's cells, one for each column
abbrev pub cells_of : List EnumDef → List Slot → List Cell
cells_of enums slots = map (λ s. cell_of enums s.column s.counter s.value) slots

-- the cells that a row text becomes in a table that has these rows so far
abbrev pub row_cells : List EnumDef → TableDef → TableRows → RowText → List Cell
row_cells enums t list row = cells_of enums (slots_of t.columns list.counters row)

-- the last identity values after these cells
abbrev pub all_raised : List ColumnDef → List ℤ → List Cell → List ℤ
all_raised (column ∷ columns) (n ∷ counters) (value ∷ cells) =
    raised column.identity n value ∷ all_raised columns counters cells
all_raised _ _ _ = []

-- the table with one row more, which has the next number
abbrev pub list_with : TableDef → TableRows → List Cell → TableRows
list_with t list cells = record {
  rows = list.rows ++ record { number = list.next_number; cells = cells } ∷ [];
  next_number = list.next_number + 1;
  counters = all_raised t.columns list.counters cells;
}
