-- The rows of a script, each in turn added to the tables so far, up to the first that has a fault; references are
-- judged when the last row stands.
use Rattle.std.specs.Prelude.{◌≡◌, ℕ, pos, Bool, not, ◌&&◌, List, [], ◌∷◌, map, set, length, replicate, Option, None, Some, Result, Ok, Err, find, option_map, slice_index_or, ⊤}
use Rattle.std.specs.Option.{option_or}
use Rattle.pg_base.specs.Catalog.{CatalogParts}
use Rattle.pg_base.specs.Tags.{no_tags}
use Rattle.pg_base.specs.declared.pos.Pos.{Pos}
use Rattle.pg_base.specs.declared.cell.Cell.{Cell}
use Rattle.pg_base.specs.declared.table_def.LinkDef.{LinkDef}
use Rattle.pg_base.specs.declared.table_def.TableDef.{TableDef}
use Rattle.rel_model.specs.declared.tables.TableRows.{TableRows}
use Rattle.rel_model.specs.declared.tables.Tables.{Tables}
use Rattle.rel_model.specs.Tables.{cells_at}
use Rattle.ddl_reader.specs.declared.script.RowText.{RowText}
use Rattle.rows_reader.specs.declared.fault.RowsFault.{RowsFault}
use Rattle.rows_reader.specs.declared.fault.LoadError.{LoadError}
use Rattle.rows_reader.specs.declared.fault.LoadError.TheVariants as error
use Rattle.rows_reader.specs.Rows.{row_cells, list_with}
use Rattle.rows_reader.specs.Keys.{stands, keys_at, has_null}
use Rattle.rows_reader.specs.Faults.{fault_of, else_next}

-- ---- rows

-- the table and the list at a place, where there is one
abbrev pub table_at : CatalogParts → ℕ → TableDef
table_at c place =
    slice_index_or c.tables place (record { name = []; columns = []; keys = []; links = []; tags = no_tags })

abbrev pub list_at : List TableRows → ℕ → TableRows
list_at lists place = slice_index_or lists place (record { rows = []; next_number = 1; counters = [] })

-- a table without rows, in which no identity has given a value
abbrev pub no_rows : TableDef → TableRows
no_rows t = record { rows = []; next_number = 1; counters = replicate (length t.columns) (pos 0) }

abbrev pub opening : CatalogParts → List TableRows
opening c = map no_rows c.tables

-- the cells of the row after these
abbrev pub next_cells : CatalogParts → List TableRows → RowText → List Cell
next_cells c lists row = row_cells c.enums (table_at c row.table) (list_at lists row.table) row

-- the row's first fault after these
abbrev pub next_fault : CatalogParts → List TableRows → RowText → Option RowsFault
next_fault c lists row = fault_of c.enums (table_at c row.table) (list_at lists row.table) row

-- these and the row
abbrev pub lists_with : CatalogParts → List TableRows → RowText → List TableRows
lists_with c lists row =
    set lists row.table (list_with (table_at c row.table) (list_at lists row.table) (next_cells c lists row))

-- the fault, or else the value
abbrev pub unless_fault : {A : Type 0} → Option RowsFault → Result A RowsFault → Result A RowsFault
unless_fault None value = value
unless_fault (Some fault) value = Err fault

-- these and the rows, or the first row's fault
unfoldable pub lists_after : CatalogParts → List TableRows → List RowText → Result (List TableRows) RowsFault
lists_after c lists [] = Ok lists
lists_after c lists (row ∷ rows) =
    unless_fault (next_fault c lists row) (lists_after c (lists_with c lists row) rows)

-- ---- references

-- no row of the target has the cells, none of which is null
abbrev pub finds_nothing : List TableRows → List Cell → LinkDef → Bool
finds_nothing lists cells l =
    not (has_null (cells_at l.columns cells))
    && not (stands (keys_at l.target_columns (list_at lists l.target).rows) (cells_at l.columns cells))

-- 5: the first link whose cells find nothing
abbrev pub first_lost : List TableRows → List LinkDef → List Cell → Option (List ℕ)
first_lost lists links cells = option_map (λ l. l.name) (find (finds_nothing lists cells) links)

abbrev pub lost_reference : List TableRows → List LinkDef → Pos → List Cell → Option RowsFault
lost_reference lists links place cells = else_next place 5 (first_lost lists links cells) None

-- the first of the rows, as they come after these, that refers to what doesn't stand among all
unfoldable pub reference_fault : CatalogParts → List TableRows → List TableRows → List RowText → Option RowsFault
reference_fault c all lists [] = None
reference_fault c all lists (row ∷ rows) = option_or
    (lost_reference all (table_at c row.table).links row.pos (next_cells c lists row))
    (reference_fault c all (lists_with c lists row) rows)

-- ---- the script

abbrev pub referring : CatalogParts → List RowText → List TableRows → Result Tables RowsFault
referring c rows lists = unless_fault (reference_fault c lists (opening c) rows) (Ok (record { lists = lists }))

abbrev pub after_rows : CatalogParts → List RowText → Result (List TableRows) RowsFault → Result Tables RowsFault
after_rows c rows (Ok lists) = referring c rows lists
after_rows c rows (Err fault) = Err fault

-- the tables of the rows, or the first fault
abbrev pub rows_of : CatalogParts → List RowText → Result Tables RowsFault
rows_of c rows = after_rows c rows (lists_after c (opening c) rows)

-- an answer is what is due, or that memory ran out
abbrev pub Answers : {A : Type 0} → Result A RowsFault → Result A LoadError → Type 0
Answers due (Ok value) = due ≡ Ok value
Answers due (Err (error.Fault fault)) = due ≡ Err fault
Answers due (Err error.Memory) = ⊤

-- a check tells the fault, or that there is none, or that memory ran out
abbrev pub Tells : Option RowsFault → Result (Unit {0}) LoadError → Type 0
Tells due (Ok _) = due ≡ None
Tells due (Err (error.Fault fault)) = due ≡ Some fault
Tells due (Err error.Memory) = ⊤

-- what a function ensures that puts rows onto lists: the lists as they stand now, or the fault
abbrev pub Adds : Result (List TableRows) RowsFault → Result (Unit {0}) LoadError → List TableRows → Type 0
Adds due (Ok _) now = due ≡ Ok now
Adds due (Err (error.Fault fault)) now = due ≡ Err fault
Adds due (Err error.Memory) now = ⊤
