-- A batch laid out: the numbers of each key's list, and the rows of all lists that are asked for in one list.
use Rattle.std.specs.Prelude.{◌≡◌, ℕ, ◌+◌, ◌-◌, ◌≤◌, List, [], ◌∷◌, length, take, drop, Option, None, Some}
use Rattle.rel_model.specs.declared.tables.Row.{Row}
use Rattle.rel_model.specs.Ordered.{ordered}
use Rattle.rel_model.specs.Interval.{interval_of}
use Rattle.stmt_tree.specs.declared.stmt.Stmt.{Stmt}
use Rattle.stmt_tree.specs.declared.stmt.Child.TheViews.{out-Stmt}
use Rattle.stmt_tree.specs.declared.found.RowTree.{RowTree}
use Rattle.stmt_tree.specs.declared.found.Found.{Found}
use Rattle.stmt_tree.specs.declared.found.Found.TheViews.{roll-Found}
use Rattle.stmt_tree.specs.Batches.{part_in}
use Rattle.stmt_run.specs.declared.laid.Shape.{Shape}
use Rattle.stmt_run.specs.declared.laid.Laid.{Laid}

-- the numbers of a key's list, and the number of its rows that are asked for
abbrev pub shape_of : Stmt → List Row → Shape
shape_of stmt list = let s = out-Stmt stmt in let places = interval_of s.order s.window list in
    record { total = length list; from = places.0; to = places.1; count = length (part_in stmt list) }

-- the rows from one place up to another, in the statement's order
abbrev pub list_between : Stmt → List Row → ℕ → ℕ → List Row
list_between stmt rows from to = ordered (out-Stmt stmt).order (take (to - from) (drop from rows))

-- what is kept of rows that were laid out is so: the numbers of their list, and where those that are asked for stand
pub record IsLaid (stmt : Stmt) (rows all : List Row) (laid : Laid) : Type 0 where
  pub shape : laid.shape ≡ shape_of stmt (list_between stmt rows laid.from laid.to)
  pub within : laid.begin + laid.shape.count ≤ length all
  pub part : take laid.shape.count (drop laid.begin all) ≡ part_in stmt (list_between stmt rows laid.from laid.to)

abbrev pub found_of : Shape → List RowTree → Found
found_of shape trees = roll-Found (record { total = shape.total; from = shape.from; to = shape.to; rows = trees })

-- each key's trees are the next of all
abbrev pub founds_of : List Shape → List RowTree → List Found
founds_of [] trees = []
founds_of (s ∷ shapes) trees = found_of s (take s.count trees) ∷ founds_of shapes (drop s.count trees)

-- the first item of a list, and what is left after it
abbrev pub IsNext : {T : Type 0} → Option T → List T → List T → Type 0
IsNext None before now = (before ≡ []) × (now ≡ [])
IsNext (Some x) before now = before ≡ x ∷ now
