-- What a statement finds, in one layer.
use Rattle.std.proofs.Common.{◌≡◌, ℕ, ◌+◌, List, [], ◌∷◌, map, sum, refl, ap, ◌∙◌}
use Rattle.pg_base.specs.declared.cell.Cell.{Cell}
use Rattle.rel_model.specs.declared.tables.Row.{Row}
use Rattle.rel_model.specs.declared.tables.Tables.{Tables}
use Rattle.rel_model.specs.Tables.{cells_at}
use Rattle.stmt_tree.specs.declared.stmt.Stmt.{Stmt}
use Rattle.stmt_tree.specs.declared.stmt.Child.{Child}
use Rattle.stmt_tree.specs.declared.stmt.Child.TheViews.{out-Child}
use Rattle.stmt_tree.specs.declared.stmt.Child.TheFolds.{fold_out-Stmt, fold_out-Child}
use Rattle.stmt_tree.specs.declared.found.RowTree.{RowTree}
use Rattle.stmt_tree.specs.declared.found.Found.{Found}
use Rattle.stmt_tree.specs.declared.found.Found.TheOpen.{Found-F, RowTree-F}
use Rattle.stmt_tree.specs.declared.found.Found.TheViews.{roll-Found, roll-RowTree}
use Rattle.stmt_tree.specs.declared.found.Found.TheFolds.{fold-roll-Found, fold-roll-RowTree}
use Rattle.stmt_tree.specs.Batches.{list_for, grown, found_with, part_in}
use Rattle.stmt_tree.specs.Meaning.{ByCells, tree_of, stmt_step, child_step, found_for, found_below, found_step, tree_step, trees_in, trees_of}

pub found_is : (tables : Tables) (stmt : Stmt) (key : List Cell) → found_for tables stmt key ≡ found_with stmt (list_for tables stmt key) (grown tables stmt (part_in stmt (list_for tables stmt key)))
found_is tables stmt key = ap (λ f. f key) (fold_out-Stmt ByCells ByCells child_step (stmt_step tables) stmt)

pub below_is : (tables : Tables) (c : Child) (cells : List Cell) → found_below tables c cells ≡ found_for tables (out-Child c).stmt (cells_at (out-Child c).parent_columns cells)
below_is tables c cells = ap (λ f. f cells) (fold_out-Child ByCells ByCells child_step (stmt_step tables) c)

pub trees_in_roll : (x : Found-F Found RowTree) → trees_in (roll-Found x) ≡ sum (map trees_of x.rows)
trees_in_roll x = fold-roll-Found ℕ ℕ found_step tree_step x

pub trees_of_roll : (x : RowTree-F Found RowTree) → trees_of (roll-RowTree x) ≡ sum (map trees_in x.children) + 1
trees_of_roll x = fold-roll-RowTree ℕ ℕ found_step tree_step x

-- a row tree, from what the children find for the row's cells
pub tree_is : (tables : Tables) (kids : List Child) (row : Row) → tree_of (map (found_below tables) kids) row ≡ roll-RowTree (record { number = row.number; cells = row.cells; children = map (λ c. found_below tables c row.cells) kids })
tree_is tables kids row = ap (λ l. roll-RowTree (record { number = row.number; cells = row.cells; children = l })) (map_twice kids) where
  map_twice : (kids : List Child) → map (λ c. c row.cells) (map (found_below tables) kids) ≡ map (λ c. found_below tables c row.cells) kids
  map_twice [] = refl
  map_twice (k ∷ kids) = ap (λ l. found_below tables k row.cells ∷ l) (map_twice kids)

pub trees_of_tree : (tables : Tables) (kids : List Child) (row : Row) → trees_of (tree_of (map (found_below tables) kids) row) ≡ sum (map trees_in (map (λ c. found_below tables c row.cells) kids)) + 1
trees_of_tree tables kids row = ap trees_of (tree_is tables kids row) ∙ trees_of_roll (record { number = row.number; cells = row.cells; children = map (λ c. found_below tables c row.cells) kids })
