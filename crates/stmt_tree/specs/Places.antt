-- Tests of what makes a statement one of a catalog.
use Rattle.std.specs.Prelude.{ℕ, nat_lt, Bool, true, ◌==◌, ◌&&◌, List, length, Option, Some, None}
use Rattle.std.specs.List.{list_all}
use Rattle.pg_base.specs.declared.cell.Mark.{Mark}
use Rattle.rel_model.specs.declared.window.Equal.{Equal}
use Rattle.rel_model.specs.declared.window.By.{By}
use Rattle.stmt_tree.specs.declared.stmt.Stmt.{Stmt}
use Rattle.stmt_tree.specs.declared.stmt.Child.{Child}
use Rattle.stmt_tree.specs.declared.stmt.Child.TheOpen.{Stmt-F}
use Rattle.stmt_tree.specs.declared.stmt.Child.TheViews.{out-Stmt, out-Child}

abbrev pub are_below : ℕ → List ℕ → Bool
are_below width places = list_all (λ place. nat_lt place width) places

abbrev pub conditions_fit : ℕ → List Equal → Bool
conditions_fit width condition = list_all (λ e. nat_lt e.column width) condition

abbrev pub orders_fit : ℕ → List By → Bool
orders_fit width order = list_all (λ o. nat_lt o.column width) order

abbrev pub child_fits : ℕ → Child → Bool
child_fits width child = let c = out-Child child in
    (length c.parent_columns == length (out-Stmt c.stmt).by) && are_below width c.parent_columns

abbrev pub keys_fit : ℕ → List Child → Bool
keys_fit width children = list_all (child_fits width) children

-- a mark has this number of values
abbrev pub mark_fits : ℕ → Option Mark → Bool
mark_fits count None = true
mark_fits count (Some m) = length m.values == count

-- the places of a statement's own in a table of this width
abbrev pub places_fit : ℕ → Stmt-F Child Stmt → Bool
places_fit width s =
    are_below width s.by
    && (conditions_fit width s.condition && (orders_fit width s.order && keys_fit width s.children))

abbrev pub marks_fit : Stmt-F Child Stmt → Bool
marks_fit s = mark_fits (length s.order) s.window.after && mark_fits (length s.order) s.window.before
