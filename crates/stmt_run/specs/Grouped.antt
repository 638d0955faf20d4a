-- Rows in the order of a key's columns, in which those of one key stand side by side.
use Rattle.std.specs.Prelude.{◌≡◌, Bool, true, false, not, List, [], filter}
use Rattle.std.specs.declared.cmp.Ordering.{Ordering}
use Rattle.std.specs.Ordering.{is_lt, is_eq, is_gt}
use Rattle.pg_base.specs.declared.cell.Cell.{Cell}
use Rattle.rel_model.specs.declared.tables.Row.{Row}
use Rattle.rel_model.specs.declared.window.By.{By}
use Rattle.rel_model.specs.declared.tables.Tables.{Tables}
use Rattle.rel_model.specs.Picked.{picked}
use Rattle.rel_model.specs.Ordered.{cells_order, cells_by, sorted_by, ascending}
use Rattle.stmt_tree.specs.declared.stmt.Stmt.{Stmt}
use Rattle.stmt_tree.specs.declared.stmt.Child.TheViews.{out-Stmt}

-- how a row stands to a key
abbrev pub stands_at : List By → List Cell → Row → Ordering
stands_at order key r = cells_order order (cells_by order r.cells) key

abbrev pub comes_before : List By → Row → Row → Bool
comes_before order r s = is_lt (cells_order order (cells_by order r.cells) (cells_by order s.cells))

-- rows in the order of their cells in a key
abbrev pub grouped : List By → List Row → List Row
grouped order rows = sorted_by (comes_before order) rows

-- a row stands before a key or, where the key counts too, not after it
abbrev pub is_under : Bool → Ordering → Bool
is_under true o = not (is_gt o)
is_under false o = is_lt o

-- the rows that stand at a key
abbrev pub group_at : List By → List Cell → List Row → List Row
group_at order key rows = filter (λ r. is_eq (stands_at order key r)) rows

-- the rows of a statement's table that meet its condition, in the order of its key
abbrev pub IsGrouped : Tables → Stmt → List By → List Row → Type 0
IsGrouped tables stmt order rows = let s = out-Stmt stmt in
    (order ≡ ascending s.by) × (rows ≡ grouped order (picked tables s.table [] [] s.condition))
