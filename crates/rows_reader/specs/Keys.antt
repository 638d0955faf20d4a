-- Rows that have certain cells at certain columns.
use Rattle.std.specs.Prelude.{ℕ, Bool, not, ◌&&◌, List, map}
use Rattle.std.specs.List.{list_any}
use Rattle.std.specs.Cmp.Lexicographic.{pointwise}
use Rattle.pg_base.specs.declared.cell.Cell.{Cell}
use Rattle.rel_model.specs.declared.tables.Row.{Row}
use Rattle.rel_model.specs.Tables.{cells_at}
use Rattle.rel_model.specs.Picked.{same_cell, is_null}

-- the cells are the same, each by each
abbrev pub same_cells : List Cell → List Cell → Bool
same_cells = pointwise same_cell

-- these cells are among the others
abbrev pub stands : List (List Cell) → List Cell → Bool
stands keys key = list_any (same_cells key) keys

-- the cells of each row at these columns
abbrev pub keys_at : List ℕ → List Row → List (List Cell)
keys_at places rows = map (λ r. cells_at places r.cells) rows

abbrev pub has_null : List Cell → Bool
has_null key = list_any is_null key

-- some row has the row's cells at a key's columns; where one of them is null, no row has them
abbrev pub is_taken : List ℕ → List Row → List Cell → Bool
is_taken places rows cells =
    not (has_null (cells_at places cells)) && stands (keys_at places rows) (cells_at places cells)
