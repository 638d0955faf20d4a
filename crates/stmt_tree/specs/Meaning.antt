-- What a statement finds.
use Rattle.std.specs.Prelude.{ℕ, ◌+◌, Bool, if◌then◌else◌, List, [], map, length, sum}
use Rattle.pg_base.specs.declared.cell.Cell.{Cell}
use Rattle.rel_model.specs.declared.tables.Row.{Row}
use Rattle.rel_model.specs.declared.tables.Tables.{Tables}
use Rattle.rel_model.specs.Tables.{cells_at}
use Rattle.stmt_tree.specs.declared.stmt.Stmt.{Stmt}
use Rattle.stmt_tree.specs.declared.stmt.Child.{Child}
use Rattle.stmt_tree.specs.declared.stmt.Child.TheOpen.{Stmt-F, Child-F}
use Rattle.stmt_tree.specs.declared.stmt.Child.TheFolds.{fold-Stmt, fold-Child}
use Rattle.stmt_tree.specs.declared.found.Key.{Key}
use Rattle.stmt_tree.specs.declared.found.RowTree.{RowTree}
use Rattle.stmt_tree.specs.declared.found.Found.{Found}
use Rattle.stmt_tree.specs.declared.found.Found.TheOpen.{Found-F, RowTree-F}
use Rattle.stmt_tree.specs.declared.found.Found.TheViews.{roll-Found, roll-RowTree}
use Rattle.stmt_tree.specs.declared.found.Found.TheFolds.{fold-Found, fold-RowTree}
use Rattle.rel_model.specs.Picked.{picked}
use Rattle.rel_model.specs.Ordered.{ordered}
use Rattle.rel_model.specs.Interval.{interval_of, rows_between}

-- What a statement gives for a key, and a child for the cells of a row above it.
abbrev pub ByCells : Type 0
ByCells = List Cell → Found

-- a row with what each child finds for it
abbrev pub tree_of : List ByCells → Row → RowTree
tree_of children row =
    roll-RowTree (record { number = row.number; cells = row.cells; children = map (λ c. c row.cells) children })

-- the part of the list that is asked for, where rows are asked for
abbrev pub part_of : Bool → ℕ × ℕ → List Row → List Row
part_of rows places list = if rows then rows_between places list else []

abbrev pub stmt_step : Tables → Stmt-F ByCells ByCells → ByCells
stmt_step tables s = λ key.
    let list = ordered s.order (picked tables s.table s.by key s.condition) in
    let places = interval_of s.order s.window list in
    let rows = map (tree_of s.children) (part_of s.rows places list) in
    roll-Found (record { total = length list; from = places.0; to = places.1; rows = rows })

abbrev pub child_step : Child-F ByCells ByCells → ByCells
child_step c = λ cells. c.stmt (cells_at c.parent_columns cells)

-- what a statement finds for a key
abbrev pub found_for : Tables → Stmt → ByCells
found_for tables = fold-Stmt ByCells ByCells child_step (stmt_step tables)

-- what a child finds for the cells of a row
abbrev pub found_below : Tables → Child → ByCells
found_below tables = fold-Child ByCells ByCells child_step (stmt_step tables)

-- what a statement finds for each key
abbrev pub meaning_of : Tables → Stmt → List Key → List Found
meaning_of tables stmt keys = map (λ key. found_for tables stmt key.cells) keys

-- The number of row trees, those below included.
abbrev pub tree_step : RowTree-F ℕ ℕ → ℕ
tree_step t = sum t.children + 1

abbrev pub found_step : Found-F ℕ ℕ → ℕ
found_step f = sum f.rows

abbrev pub trees_in : Found → ℕ
trees_in = fold-Found ℕ ℕ found_step tree_step

abbrev pub trees_of : RowTree → ℕ
trees_of = fold-RowTree ℕ ℕ found_step tree_step

abbrev pub trees_in_all : List Found → ℕ
trees_in_all found = sum (map trees_in found)
