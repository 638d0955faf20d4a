-- What a statement finds for many keys at once: the rows of all keys in one list, and each child asked once for all of
-- them.
use Rattle.std.specs.Prelude.{List, [], ◌∷◌, ◌++◌, map, length, take, drop}
use Rattle.pg_base.specs.declared.cell.Cell.{Cell}
use Rattle.rel_model.specs.declared.tables.Row.{Row}
use Rattle.rel_model.specs.declared.tables.Tables.{Tables}
use Rattle.rel_model.specs.Tables.{cells_at}
use Rattle.rel_model.specs.Picked.{picked}
use Rattle.rel_model.specs.Ordered.{ordered}
use Rattle.rel_model.specs.Interval.{interval_of}
use Rattle.stmt_tree.specs.declared.stmt.Stmt.{Stmt}
use Rattle.stmt_tree.specs.declared.stmt.Child.{Child}
use Rattle.stmt_tree.specs.declared.stmt.Child.TheViews.{out-Stmt, out-Child}
use Rattle.stmt_tree.specs.declared.found.Key.{Key}
use Rattle.stmt_tree.specs.declared.found.RowTree.{RowTree}
use Rattle.stmt_tree.specs.declared.found.Found.{Found}
use Rattle.stmt_tree.specs.declared.found.Found.TheViews.{roll-Found, roll-RowTree}
use Rattle.stmt_tree.specs.Meaning.{tree_of, part_of, found_below, meaning_of}

-- the rows of a key, all of them, in their order
abbrev pub list_for : Tables → Stmt → List Cell → List Row
list_for tables stmt key = let s = out-Stmt stmt in ordered s.order (picked tables s.table s.by key s.condition)

-- the lists of some keys
abbrev pub lists_for : Tables → Stmt → List Key → List (List Row)
lists_for tables stmt keys = map (λ key. list_for tables stmt key.cells) keys

-- the rows of a list that a statement asks for
abbrev pub part_in : Stmt → List Row → List Row
part_in stmt list = let s = out-Stmt stmt in part_of s.rows (interval_of s.order s.window list) list

-- the rows that it asks for of several lists, one list after the other
abbrev pub all_parts : Stmt → List (List Row) → List Row
all_parts stmt [] = []
all_parts stmt (list ∷ lists) = part_in stmt list ++ all_parts stmt lists

-- the trees of some rows
abbrev pub grown : Tables → Stmt → List Row → List RowTree
grown tables stmt rows = map (tree_of (map (found_below tables) (out-Stmt stmt).children)) rows

-- what is found, from the list of a key and the trees of the rows that are asked for
abbrev pub found_with : Stmt → List Row → List RowTree → Found
found_with stmt list trees = let s = out-Stmt stmt in let places = interval_of s.order s.window list in
    roll-Found (record { total = length list; from = places.0; to = places.1; rows = trees })

-- the key of a child for a row
abbrev pub key_below : Child → Row → Key
key_below child row = record { cells = cells_at (out-Child child).parent_columns row.cells }

-- what a child finds for each row, as one batch
abbrev pub column : Tables → List Row → Child → List Found
column tables rows child = meaning_of tables (out-Child child).stmt (map (key_below child) rows)

-- the first of each column
abbrev pub firsts : List (List Found) → List Found
firsts [] = []
firsts ([] ∷ columns) = firsts columns
firsts ((f ∷ fs) ∷ columns) = f ∷ firsts columns

-- a row with what each child found for it
abbrev pub tree_with : Row → List Found → RowTree
tree_with row children = roll-RowTree (record { number = row.number; cells = row.cells; children = children })

-- the rows with the columns' entries at them
abbrev pub trees_from : List Row → List (List Found) → List RowTree
trees_from [] columns = []
trees_from (row ∷ rows) columns = tree_with row (firsts columns) ∷ trees_from rows (map (drop 1) columns)

-- what was found for each key, from its list and the trees of all
abbrev pub founds_from : Stmt → List (List Row) → List RowTree → List Found
founds_from stmt [] trees = []
founds_from stmt (list ∷ lists) trees =
    let n = length (part_in stmt list) in
    found_with stmt list (take n trees) ∷ founds_from stmt lists (drop n trees)

-- a batch, from the lists of its keys and one batch for each child
abbrev pub rebuilt : Tables → Stmt → List (List Row) → List Found
rebuilt tables stmt lists =
    let all = all_parts stmt lists in
    founds_from stmt lists (trees_from all (map (column tables all) (out-Stmt stmt).children))
