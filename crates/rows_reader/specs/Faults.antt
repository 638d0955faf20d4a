-- The faults of a row, in the table that it goes into as it stands: one definition for each number, which gives the
-- name at fault.
use Rattle.std.specs.Prelude.{ℕ, Bool, not, ◌&&◌, ◌==◌, nat_le, List, ◌∷◌, length, Option, None, Some, if◌then◌else◌, find, option_map}
use Rattle.std.specs.Option.{option_or}
use Rattle.pg_base.specs.Limits.{most_rows}
use Rattle.pg_base.specs.declared.pos.Pos.{Pos}
use Rattle.pg_base.specs.declared.cell.Cell.{Cell}
use Rattle.pg_base.specs.declared.enum_def.EnumDef.{EnumDef}
use Rattle.pg_base.specs.declared.table_def.ColumnDef.{ColumnDef}
use Rattle.pg_base.specs.declared.table_def.KeyDef.{KeyDef}
use Rattle.pg_base.specs.declared.table_def.TableDef.{TableDef}
use Rattle.rel_model.specs.declared.tables.Row.{Row}
use Rattle.rel_model.specs.declared.tables.TableRows.{TableRows}
use Rattle.rel_model.specs.Picked.{is_null}
use Rattle.ddl_reader.specs.declared.script.RowText.{RowText}
use Rattle.rows_reader.specs.declared.fault.RowsFault.{RowsFault}
use Rattle.rows_reader.specs.declared.values.Check.{Check}
use Rattle.rows_reader.specs.declared.values.Check.TheVariants as check
use Rattle.rows_reader.specs.Cells.{is_bad, has_no_case, is_too_long}
use Rattle.rows_reader.specs.Rows.{Slot, slots_of, row_cells}
use Rattle.rows_reader.specs.Keys.{is_taken}

-- the name, where the test holds
abbrev pub when : Bool → List ℕ → Option (List ℕ)
when test name = if test then Some name else None

-- 6: the table has as many rows as it may have
abbrev pub past_limit : TableDef → TableRows → Option (List ℕ)
past_limit t list = when (nat_le most_rows (length list.rows)) t.name

-- 2: more values than columns, or fewer
abbrev pub wrong_count : TableDef → RowText → Option (List ℕ)
wrong_count t row = when (not (length row.cells == length row.columns)) t.name

-- a value fails the check
abbrev pub fails : Check → List EnumDef → Slot → Bool
fails check.Kind enums s = is_bad s.column s.counter s.value
fails check.Case enums s = has_no_case enums s.column s.value
fails check.Length enums s = is_too_long s.column s.value

-- 1, 7, 8: the first column, in the table's order, whose value fails the check
abbrev pub first_failing : Check → List EnumDef → List Slot → Option (List ℕ)
first_failing what enums slots = option_map (λ s. s.column.name) (find (fails what enums) slots)

abbrev pub lacks_value : ColumnDef → Cell → Bool
lacks_value column value = column.not_null && is_null value

-- 3: the first column that takes no null and would have one
abbrev pub first_null : List ColumnDef → List Cell → Option (List ℕ)
first_null (column ∷ columns) (value ∷ cells) =
    if lacks_value column value then Some column.name else first_null columns cells
first_null _ _ = None

-- 4: the first key in whose columns a row has the same cells
abbrev pub first_taken : List KeyDef → List Row → List Cell → Option (List ℕ)
first_taken keys rows cells = option_map (λ k. k.name) (find (λ k. is_taken k.columns rows cells) keys)

-- the fault of the number at the name, else the next
abbrev pub else_next : Pos → ℕ → Option (List ℕ) → Option RowsFault → Option RowsFault
else_next place which None next = next
else_next place which (Some name) next = Some (record { which = which; pos = place; name = name })

-- the first fault of what is written
unfoldable pub fault_of_values : List EnumDef → TableDef → TableRows → RowText → Option RowsFault
fault_of_values enums t list row =
    else_next row.pos 6 (past_limit t list) (else_next row.pos 2 (wrong_count t row) (
    else_next row.pos 1 (first_failing check.Kind enums (slots_of t.columns list.counters row)) (
    else_next row.pos 7 (first_failing check.Case enums (slots_of t.columns list.counters row)) (
    else_next row.pos 8 (first_failing check.Length enums (slots_of t.columns list.counters row)) None))))

-- the first fault of the cells that it becomes
unfoldable pub fault_of_cells : TableDef → TableRows → Pos → List Cell → Option RowsFault
fault_of_cells t list place cells =
    else_next place 3 (first_null t.columns cells) (else_next place 4 (first_taken t.keys list.rows cells) None)

-- the first fault of a row
abbrev pub fault_of : List EnumDef → TableDef → TableRows → RowText → Option RowsFault
fault_of enums t list row =
    option_or (fault_of_values enums t list row) (fault_of_cells t list row.pos (row_cells enums t list row))
