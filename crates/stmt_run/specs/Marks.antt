-- Marks of cells: numbers by which most comparisons are decided without the cells.
use Rattle.std.specs.Prelude.{◌≡◌, ℕ, ℤ, pos, negsuc, ◌+◌, ◌-◌, ◌^◌, min, Bool, List, [], ◌∷◌}
use Rattle.std.specs.declared.cmp.Ordering.{Ordering}
use Rattle.std.specs.Ordering.{nat_cmp, ordering_then, is_lt}
use Rattle.pg_base.specs.declared.cell.Cell.{Cell}
use Rattle.pg_base.specs.declared.cell.Cell.TheVariants as cell
use Rattle.rel_model.specs.declared.tables.Row.{Row}
use Rattle.rel_model.specs.declared.window.By.{By}
use Rattle.rel_model.specs.Ordered.{cells_order, cells_by, first_cell, ascending}
use Rattle.stmt_run.specs.declared.placing.Placed.{Placed}

abbrev pub int_mark : ℤ → ℕ
int_mark (pos n) = min (2 ^ 63 + n) (2 ^ 64 - 1)
int_mark (negsuc n) = 2 ^ 63 - (n + 1)

-- a cell with a lesser mark stands before; cells other than integers have one mark
abbrev pub cell_mark : Cell → ℕ
cell_mark (cell.Int n) = int_mark n
cell_mark (cell.Bool b) = 2 ^ 64 - 1
cell_mark (cell.Text t) = 2 ^ 64 - 1
cell_mark (cell.EnumCase place) = 2 ^ 64 - 1
cell_mark cell.Null = 2 ^ 64 - 1

-- the mark of a key's cells is that of the first one
abbrev pub key_mark : List ℕ → List Cell → ℕ
key_mark [] cells = 0
key_mark (column ∷ columns) cells = cell_mark (first_cell cells)

-- the mark of a row by its cells in a key
abbrev pub row_mark : List ℕ → Row → ℕ
row_mark columns r = key_mark columns (cells_by (ascending columns) r.cells)

-- by the marks, and where they are equal by the cells
abbrev pub placed_order : List By → Placed → Placed → Ordering
placed_order order a b =
    ordering_then (nat_cmp a.mark b.mark)
    (cells_order order (cells_by order a.row.now.cells) (cells_by order b.row.now.cells))

abbrev pub placed_before : List By → Placed → Placed → Bool
placed_before order a b = is_lt (placed_order order a b)

abbrev pub IsMarked : List ℕ → Placed → Type 0
IsMarked columns p = p.mark ≡ row_mark columns p.row.now
