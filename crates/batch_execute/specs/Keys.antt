-- The keys of a statement that is sent for the rows of another fetch: the cells of these, each once, in ascending
-- order.
use Rattle.std.specs.Prelude.{ℕ, Bool, true, if◌then◌else◌, List, [], ◌∷◌, map, Option, Some, None}
use Rattle.std.specs.Ordering.{is_lt}
use Rattle.pg_base.specs.declared.cell.Cell.{Cell}
use Rattle.rel_model.specs.declared.window.By.{By}
use Rattle.rel_model.specs.Ordered.{ascending, cells_by, cells_order, sorted_by}
use Rattle.plan_steps.specs.Values.{row_of}
use Rattle.stmt_tree.specs.declared.found.Key.{Key}
use Rattle.stmt_tree.specs.declared.found.RowTree.{RowTree}

abbrev pub key_of : List Cell → Key
key_of cells = record { cells = cells }

-- the cells of a row by which it stands in an order
abbrev pub tree_cells : List By → RowTree → List Cell
tree_cells order tree = cells_by order (row_of tree).cells

abbrev pub stands_before : List By → List Cell → List Cell → Bool
stands_before order xs ys = is_lt (cells_order order xs ys)

abbrev pub is_new : List By → Option (List Cell) → List Cell → Bool
is_new order None cells = true
is_new order (Some last) cells = stands_before order last cells

-- of cells in ascending order, those that differ from the ones before
abbrev pub firsts : List By → Option (List Cell) → List (List Cell) → List (List Cell)
firsts order last [] = []
firsts order last (c ∷ cells) =
    if is_new order last c then c ∷ firsts order (Some c) cells else firsts order (Some c) cells

abbrev pub distinct : List By → List (List Cell) → List (List Cell)
distinct order cells = firsts order None (sorted_by (stands_before order) cells)

abbrev pub keys_in : List By → List RowTree → List Key
keys_in order trees = map key_of (distinct order (map (tree_cells order) trees))

-- by the cells of the rows at these columns
abbrev pub keys_for : List ℕ → List RowTree → List Key
keys_for columns trees = keys_in (ascending columns) trees
